-- The public calls: what each contract says of a call's answer and of every lent byte, for all arguments. Definitions only.
-- A call on an unsound limiter or memory is refused with 3 and changes nothing.
use Rattle.std.specs.Prelude.{◌≡◌, cond, List, [], ◌∷◌, ℕ, ltb, Result, Ok, Err, Bool}
use Rattle.refusal.specs.declared.Refusal.{Refusal}
use Rattle.refusal.specs.declared.Refusal.TheVariants as Refusal
use Rattle.pubkey.specs.declared.ChannelUpdateLimiterKey.{ChannelUpdateLimiterKey}
use Rattle.pubkey.specs.Order.{limiter_key_bytes}
use Rattle.refusal.specs.Refusal.{Said, gives, refused, number_of}
use Rattle.bucket_terms.specs.Answers.{told_says}
use Rattle.table.specs.Outcome.{Change, same, become, count_after, Outcome, Meets}
use Rattle.table_laws.specs.Lent.{long_enough}
use Rattle.gossip_settings.specs.declared.channel_update.ChannelUpdateRateLimitConfig.{ChannelUpdateRateLimitConfig}
use Rattle.gossip_settings.specs.Settings.{max_tracked_keys}
use Rattle.gossip_limiter_rows.specs.declared.entry.ChannelUpdateLimiterEntry.{ChannelUpdateLimiterEntry}
use Rattle.gossip_limiter_rows.specs.Rows.{limiter_layout}
use Rattle.gossip_limiter.specs.declared.limiter.ChannelUpdateLimiter.{ChannelUpdateLimiter}
use Rattle.gossip_limiter.specs.Handed.{LimiterTold}
use Rattle.gossip_limiter.specs.Limiter.{rows_of, limit_of, limiter_record_sound, sound, turn, try_acquire}

-- ════ What the answers say ════

abbrev pub made_says : Result ChannelUpdateLimiter Refusal → Said
made_says (Ok l) = gives []
made_says (Err n) = refused (number_of n)

-- 1 for yes, 0 for no
abbrev pub limiter_says : LimiterTold → Said
limiter_says r = told_says r.answer

abbrev pub tracked_says : Result ℕ Refusal → Said
tracked_says (Ok n) = gives (n ∷ [])
tracked_says (Err n) = refused (number_of n)

-- ════ What becomes of the limiter ════

-- the limiter with so many rows
abbrev pub limiter_with : ChannelUpdateLimiter → ℕ → ChannelUpdateLimiter
limiter_with l n = record { config = l.config; max_entries = l.max_entries; rows = n }

-- the limiter after a change of the rows
abbrev pub limiter_after : ChannelUpdateLimiter → Change ChannelUpdateLimiterEntry → ChannelUpdateLimiter
limiter_after l change = limiter_with l (count_after l.rows change)

-- yes or no, beside the limiter
abbrev pub limiter_told : ChannelUpdateLimiter → Result Bool Refusal → LimiterTold
limiter_told l answer = record { state = l; answer = answer }

-- a call that was carried out: its answer beside the limiter after it
abbrev pub carried : ChannelUpdateLimiter → Outcome ChannelUpdateLimiterEntry (Result Bool Refusal) → Outcome ChannelUpdateLimiterEntry LimiterTold
carried l o = turn (limiter_told (limiter_after l o.change) o.answer) o.change

-- an answer and no change
abbrev pub refuse : {P : Type 0} → P → Outcome ChannelUpdateLimiterEntry P
refuse answer = turn answer same

-- ════ The calls ════

-- a limiter without a row; the limit is kept as it is given
abbrev pub fresh : ChannelUpdateRateLimitConfig → ℕ → ChannelUpdateLimiter
fresh c limit = record { config = c; max_entries = limit; rows = 0 }

-- with_max_entries: 2 for a limit above the most, then 1 for memory that is too short for it
unfoldable pub made_outcome : ChannelUpdateRateLimitConfig → ℕ → List ℕ → Outcome ChannelUpdateLimiterEntry (Result ChannelUpdateLimiter Refusal)
made_outcome c limit s =
    cond (ltb max_tracked_keys limit) (refuse (Err Refusal.LimitTooLarge))
    (cond (long_enough limiter_layout (limit_of limit) s) (turn (Ok (fresh c limit)) (become []))
    (refuse (Err Refusal.TooShort)))

-- every place of the limit is zeroed, and the bytes further on stay
unfoldable pub MadeMeets : ChannelUpdateRateLimitConfig → ℕ → List ℕ → Result ChannelUpdateLimiter Refusal → List ℕ → Type 0
MadeMeets c limit before r after = Meets limiter_layout r before after (limit_of limit) (made_outcome c limit before)

unfoldable pub try_acquire_outcome : ChannelUpdateLimiter → List ℕ → ChannelUpdateLimiterKey → ℕ → Outcome ChannelUpdateLimiterEntry LimiterTold
try_acquire_outcome l s k now =
    cond (sound l s) (carried l (try_acquire l.config (limit_of l.max_entries) (limiter_key_bytes k) now (rows_of l s)))
    (refuse (limiter_told l (Err Refusal.Unsound)))

unfoldable pub TryAcquireMeets : ChannelUpdateLimiter → List ℕ → ChannelUpdateLimiterKey → ℕ → LimiterTold → List ℕ → Type 0
TryAcquireMeets l before k now r after = Meets limiter_layout r before after l.rows (try_acquire_outcome l before k now)

-- tracked_keys: no memory is lent, so the record alone is judged
unfoldable pub TrackedKeysMeets : ChannelUpdateLimiter → Result ℕ Refusal → Type 0
TrackedKeysMeets l r = r ≡ cond (limiter_record_sound l) (Ok l.rows) (Err Refusal.Unsound)
