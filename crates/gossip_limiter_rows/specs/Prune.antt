-- Idle entries taken out, as gossip_policy.rs does it. Definitions only.
use Rattle.std.specs.Prelude.{Bool, not, cond, ℕ, leb, length}
use Rattle.table.specs.Table.{Row, retain}
use Rattle.table_laws.specs.Raw.{map_entries}
use Rattle.gossip_settings.specs.declared.channel_update.ChannelUpdateRateLimitConfig.{ChannelUpdateRateLimitConfig}
use Rattle.gossip_limiter_rows.specs.declared.entry.ChannelUpdateLimiterEntry.{ChannelUpdateLimiterEntry}
use Rattle.gossip_limiter_rows.specs.Entry.{refilled, is_full}
use Rattle.gossip_limiter_rows.specs.Rows.{Limits}

-- a row whose bucket is not full
abbrev pub not_full : ChannelUpdateRateLimitConfig → Row ChannelUpdateLimiterEntry → Bool
not_full c r = not (is_full c r.entry)

-- prune_idle_entries: every bucket is refilled, and those that are full go
abbrev pub prune_idle : ChannelUpdateRateLimitConfig → ℕ → Limits → Limits
prune_idle c now rs = retain (not_full c) (map_entries (refilled c now) rs)

-- what a key without a row finds: the rows pruned where they reach the limit, else as they are
unfoldable pub room_for : ℕ → ChannelUpdateRateLimitConfig → ℕ → Limits → Limits
room_for limit c now rs = cond (leb limit (length rs)) (prune_idle c now rs) rs
