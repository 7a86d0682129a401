-- What the Rust's steps come to, by what is found for the key, and soundness of the record. Assumes nothing.
use Rattle.std.specs.Prelude.{true, false, ◌≡◌, List, ℕ, ◌≤◌, ◌<◌, leb, length, Ok}
use Rattle.std.proofs.Math.Option.{none, some}
use borrow.Author.Tests.{leb-true, le-leb, lt-leb}
use Rattle.truths.specs.TruthLaws.{both, both_parts}
use Rattle.table.specs.Table.{look}
use Rattle.table.specs.Outcome.{same, become}
use Rattle.bucket_discrete.specs.DiscreteBucket.{discrete_new}
use Rattle.gossip_settings.specs.declared.channel_update.ChannelUpdateRateLimitConfig.{ChannelUpdateRateLimitConfig}
use Rattle.gossip_settings.specs.Settings.{channel_update_disabled}
use Rattle.gossip_limiter_rows.specs.declared.entry.ChannelUpdateLimiterEntry.{ChannelUpdateLimiterEntry}
use Rattle.gossip_limiter_rows.specs.Entry.{bucket_of}
use Rattle.gossip_limiter_rows.specs.Rows.{Limits}
use Rattle.gossip_limiter_rows.specs.Prune.{room_for}
use Rattle.gossip_limiter.specs.declared.limiter.ChannelUpdateLimiter.{ChannelUpdateLimiter}
use Rattle.gossip_limiter.specs.Limiter.{limit_of, limiter_record_sound, turn, acquire_from, try_acquire}

-- ════ The record ════

module _ (l : ChannelUpdateLimiter) where
  -- the limit is within 1,024
  pub limit_within : limiter_record_sound l ≡ true → l.max_entries ≤ 1024
  unfolding limiter_record_sound
  limit_within h = leb-true _ _ (both_parts (leb l.max_entries 1024) _ h).0

  -- the rows are within the limit
  pub rows_within : limiter_record_sound l ≡ true → l.rows ≤ limit_of l.max_entries
  unfolding limiter_record_sound
  rows_within h = leb-true _ _ (both_parts (leb l.max_entries 1024) _ h).1

  pub within_sound : l.max_entries ≤ 1024 → l.rows ≤ limit_of l.max_entries → limiter_record_sound l ≡ true
  unfolding limiter_record_sound
  within_sound h k = both (le-leb _ _ h) (le-leb _ _ k)

-- ════ try_acquire ════

module _ (c : ChannelUpdateRateLimitConfig) (limit : ℕ) (k : List ℕ) (now : ℕ) (rs : Limits) where
  -- the limit is off
  pub acquire_off : channel_update_disabled c ≡ true → try_acquire c limit k now rs ≡ turn (Ok true) same
  unfolding try_acquire
  acquire_off h = rw h

  module _ (on : channel_update_disabled c ≡ false) where
    -- the key has a row
    pub acquire_known : (e : ChannelUpdateLimiterEntry) → look k rs ≡ some e → try_acquire c limit k now rs ≡ acquire_from (bucket_of c e) k now rs
    unfolding try_acquire
    acquire_known e found = rw (on, found)

    -- it has none, and the table is full of keys that have used their tokens
    pub acquire_full : look k rs ≡ none → limit ≤ length (room_for limit c now rs)
        → try_acquire c limit k now rs ≡ turn (Ok false) (become (room_for limit c now rs))
    unfolding try_acquire
    acquire_full found full = rw (on, found, le-leb limit (length (room_for limit c now rs)) full)

    -- it has none, and there is room
    pub acquire_new : look k rs ≡ none → length (room_for limit c now rs) < limit
        → try_acquire c limit k now rs ≡ acquire_from (discrete_new c.interval_ms c.burst) k now (room_for limit c now rs)
    unfolding try_acquire
    acquire_new found room = rw (on, found, lt-leb limit (length (room_for limit c now rs)) room)
