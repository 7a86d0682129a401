-- ChannelUpdateLimiter of gossip_policy.rs, on settings, a limit and a list of rows. Definitions only.
use Rattle.std.specs.Prelude.{Bool, ◌&&◌, cond, List, ℕ, max, leb, length, Result, Ok, true, false}
use Rattle.std.proofs.Math.Option.{Option, none, some}
use Rattle.refusal.specs.declared.Refusal.{Refusal}
use Rattle.table.specs.Table.{look, store}
use Rattle.table.specs.Memory.{rows}
use Rattle.table.specs.Outcome.{Change, same, become, Outcome}
use Rattle.table_laws.specs.Lent.{lent_sound}
use Rattle.bucket_discrete.specs.declared.discrete.DiscreteTokenBucket.{DiscreteTokenBucket}
use Rattle.bucket_discrete.specs.DiscreteBucket.{discrete_new}
use Rattle.gossip_settings.specs.declared.channel_update.ChannelUpdateRateLimitConfig.{ChannelUpdateRateLimitConfig}
use Rattle.gossip_settings.specs.Settings.{channel_update_disabled, max_tracked_keys}
use Rattle.gossip_limiter_rows.specs.declared.entry.ChannelUpdateLimiterEntry.{ChannelUpdateLimiterEntry}
use Rattle.gossip_limiter_rows.specs.Entry.{bucket_of, asked_of}
use Rattle.gossip_limiter_rows.specs.Rows.{Limits, limiter_layout, limiter_sound}
use Rattle.gossip_limiter_rows.specs.Prune.{room_for}
use Rattle.gossip_limiter.specs.declared.limiter.ChannelUpdateLimiter.{ChannelUpdateLimiter}

-- the rows that a limiter has in lent memory
abbrev pub rows_of : ChannelUpdateLimiter → List ℕ → Limits
rows_of l s = rows limiter_layout s l.rows

-- how many rows a limit stands for
abbrev pub limit_of : ℕ → ℕ
limit_of limit = max limit 1

-- ════ Soundness ════

-- the record's own rules: no limit above the most, and the rows within the limit
unfoldable pub limiter_record_sound : ChannelUpdateLimiter → Bool
limiter_record_sound l = leb l.max_entries max_tracked_keys && leb l.rows (limit_of l.max_entries)

-- a limiter and the memory lent to it
abbrev pub sound : ChannelUpdateLimiter → List ℕ → Bool
sound l s = lent_sound limiter_layout (limiter_sound l.config) (limiter_record_sound l) (limit_of l.max_entries) s l.rows

-- ════ try_acquire, on rows ════

-- what a call says, and what becomes of the rows
abbrev pub turn : {R : Type 0} → R → Change ChannelUpdateLimiterEntry → Outcome ChannelUpdateLimiterEntry R
turn answer change = record { answer = answer; change = change }

-- a key's bucket asked for a token; it is kept as it then is, also on a no
abbrev pub acquire_from : DiscreteTokenBucket → List ℕ → ℕ → Limits → Outcome ChannelUpdateLimiterEntry (Result Bool Refusal)
acquire_from b k now rs = turn (asked_of b now).answer (become (store k (asked_of b now).entry rs))

-- a key without a row, once idle entries have gone where the table was full: no where it is full still
abbrev pub acquire_among : ChannelUpdateRateLimitConfig → ℕ → List ℕ → ℕ → Limits → Outcome ChannelUpdateLimiterEntry (Result Bool Refusal)
acquire_among c limit k now rs =
    cond (leb limit (length rs)) (turn (Ok false) (become rs)) (acquire_from (discrete_new c.interval_ms c.burst) k now rs)

-- by what is found for the key
abbrev pub acquire_found : ChannelUpdateRateLimitConfig → ℕ → List ℕ → ℕ → Limits → Option ChannelUpdateLimiterEntry → Outcome ChannelUpdateLimiterEntry (Result Bool Refusal)
acquire_found c limit k now rs none = acquire_among c limit k now (room_for limit c now rs)
acquire_found c limit k now rs (some e) = acquire_from (bucket_of c e) k now rs

-- try_acquire
unfoldable pub try_acquire : ChannelUpdateRateLimitConfig → ℕ → List ℕ → ℕ → Limits → Outcome ChannelUpdateLimiterEntry (Result Bool Refusal)
try_acquire c limit k now rs = cond (channel_update_disabled c) (turn (Ok true) same) (acquire_found c limit k now rs (look k rs))
