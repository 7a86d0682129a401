-- The settings as kind 1 of a snapshot: nine numbers of eight bytes, in the Rust's order. Definitions only; their laws are in
-- `SettingsLaws`.
use Rattle.std.specs.Prelude.{Bool, ◌&&◌, cond, List, [], ◌∷◌, ℕ, leb}
use Rattle.std.specs.Prelude.{Option, Some, None}
use Rattle.table.specs.Memory.{word_bytes, word_of}
use Rattle.peer_settings.specs.declared.config.PeerMessagePolicyConfig.{PeerMessagePolicyConfig}

-- the size of the settings, in bytes
abbrev pub settings_size : ℕ
settings_size = 72

-- a number that a field of 32 bits holds
abbrev pub narrow : ℕ → Bool
narrow v = leb v 4294967295

-- the nine settings in their order
unfoldable pub settings_words : PeerMessagePolicyConfig → List ℕ
settings_words c =
    c.peer_message_interval_ms
    ∷ c.peer_message_burst
    ∷ c.peer_message_rate_bytes_per_sec
    ∷ c.peer_message_burst_bytes
    ∷ c.violation_ban_threshold
    ∷ c.ban_duration_ms
    ∷ c.max_tracked_peers
    ∷ c.max_in_flight_messages
    ∷ c.max_in_flight_bytes
    ∷ []

-- the bytes of settings
unfoldable pub settings_bytes : PeerMessagePolicyConfig → List ℕ
settings_bytes c = word_bytes (settings_words c)

-- the settings whose numbers are these
abbrev pub config_of : (ℕ → ℕ) → PeerMessagePolicyConfig
config_of w =
    record {
      peer_message_interval_ms = w 0;
      peer_message_burst = w 1;
      peer_message_rate_bytes_per_sec = w 2;
      peer_message_burst_bytes = w 3;
      violation_ban_threshold = w 4;
      ban_duration_ms = w 5;
      max_tracked_peers = w 6;
      max_in_flight_messages = w 7;
      max_in_flight_bytes = w 8;
    }

-- the numbers of the three settings of 32 bits are within their fields
abbrev pub settings_narrow : (ℕ → ℕ) → Bool
settings_narrow w = narrow (w 1) && (narrow (w 4) && narrow (w 7))

-- the settings whose numbers are these, or that one is out of range
abbrev pub settings_from : (ℕ → ℕ) → Option PeerMessagePolicyConfig
settings_from w = cond (settings_narrow w) (Some (config_of w)) None

-- the settings that bytes spell, or that a number is out of range
unfoldable pub settings_of : List ℕ → Option PeerMessagePolicyConfig
settings_of s = settings_from (λ i. word_of s i)
