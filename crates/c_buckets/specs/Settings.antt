-- The peers' settings behind the C boundary. Definitions only.
use Rattle.std.specs.Prelude.{◌≡◌, cond, List, ℕ, eqb}
use Rattle.peer_settings.specs.declared.config.PeerMessagePolicyConfig.{PeerMessagePolicyConfig}
use Rattle.peer_settings.specs.Config.{config_default, config_with_limits, message_limit_disabled, ban_disabled, unlimited}
use Rattle.c_terms.specs.declared.reply.Reply.{Reply}
use Rattle.c_buckets.specs.declared.settings.SettingsOperation.{SettingsOperation}
use Rattle.c_buckets.specs.declared.settings.SettingsOperation.TheVariants.{Default, WithLimits, MessageLimitDisabled, BanDisabled, IsUnlimited, Unknown}
use Rattle.c_buckets.specs.Handed.{SettingsDone}
use Rattle.c_terms.specs.Answers.{reply, truth_reply, kept}
use Rattle.c_terms.specs.SettingsWords.{settings_of, settings_longs, settings_shorts}

-- the operation of a number
abbrev pub settings_operation : ℕ → SettingsOperation
settings_operation n =
    cond (eqb n 0) Default
    (cond (eqb n 1) WithLimits
    (cond (eqb n 2) MessageLimitDisabled (cond (eqb n 3) BanDisabled (cond (eqb n 4) IsUnlimited Unknown))))

abbrev pub settings_say : PeerMessagePolicyConfig → Reply → SettingsDone
settings_say c s = record { state = c; answer = s }

-- what each operation does
abbrev pub settings_done : SettingsOperation → PeerMessagePolicyConfig → SettingsDone
settings_done Default c = settings_say config_default (reply 261 0)
settings_done WithLimits c =
    settings_say (config_with_limits c.max_tracked_peers c.max_in_flight_messages c.max_in_flight_bytes) (reply 261 0)
settings_done MessageLimitDisabled c = settings_say c (truth_reply (message_limit_disabled c))
settings_done BanDisabled c = settings_say c (truth_reply (ban_disabled c))
settings_done IsUnlimited c = settings_say c (truth_reply (unlimited c))
settings_done Unknown c = settings_say c (reply 0 0)

-- the number returned, and the words after the call
abbrev pub SettingsLeft : SettingsDone → List ℕ → List ℕ → ℕ → List ℕ → List ℕ → Type 0
SettingsLeft d longs shorts r longs' shorts' =
    (r ≡ d.answer.number)
    × (longs' ≡ kept d.answer.number longs (settings_longs d.state))
    × (shorts' ≡ kept d.answer.number shorts (settings_shorts d.state))

-- uglezmir_settings
abbrev pub SettingsExported : ℕ → List ℕ → List ℕ → ℕ → List ℕ → List ℕ → Type 0
SettingsExported operation longs shorts r longs' shorts' =
    SettingsLeft (settings_done (settings_operation operation) (settings_of longs shorts)) longs shorts r longs' shorts'
