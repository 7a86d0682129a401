-- An entry and its bucket, and a row judged, over plain values. Assumes nothing.
use Rattle.std.specs.Prelude.{Result, Bool}
use Rattle.refusal.specs.declared.Refusal.{Refusal}
use mathlib.Core.Path.{◌≡◌, ap}
use mathlib.Core.Bool.{false}
use mathlib.Core.List.{List}
use Prim.Native.Nat.{ℕ, ◌+◌, ◌≤◌, ◌<◌}
use borrow.Author.Tests.{le-leb, lt-leb}
use lib.Dec.{leb}
use lib.ListN.{get_or}
use Rattle.lent_bytes.specs.LentBytes.{part}
use Rattle.table.specs.Memory.{row_of}
use Rattle.bucket_terms.specs.Answers.{told}
use Rattle.bucket_discrete.specs.declared.discrete.DiscreteTokenBucket.{DiscreteTokenBucket}
use Rattle.bucket_discrete.specs.Handed.{DiscreteRefilled}
use Rattle.bucket_discrete.specs.Handed.{DiscreteConsumed}
use Rattle.bucket_discrete.specs.DiscreteBucket.{discrete_try_consume, DiscreteRefillMeets, DiscreteTryConsumeMeets}
use Rattle.bucket_discrete.specs.DiscreteBucketLaws.{discrete_refill_sound, discrete_try_consume_sound}
use Rattle.gossip_settings.specs.declared.channel_update.ChannelUpdateRateLimitConfig.{ChannelUpdateRateLimitConfig}
use Rattle.gossip_limiter_rows.specs.declared.entry.ChannelUpdateLimiterEntry.{ChannelUpdateLimiterEntry}
use Rattle.gossip_limiter_rows.specs.declared.entry.Asked.{Asked}
use Rattle.gossip_limiter_rows.specs.Entry.{bucket_of, entry_of, refilled, is_yes, asked_of}
use Rattle.gossip_limiter_rows.specs.Rows.{row_width, side_place, limiter_layout, limiter_sound}
use Rattle.gossip_limiter_rows.specs.RowsLaws.{side_place_lem}

-- the entry of a refilled bucket
pub refilled_by : (c : ChannelUpdateRateLimitConfig) (e : ChannelUpdateLimiterEntry) (now : ℕ) (b : DiscreteTokenBucket) (r : DiscreteRefilled)
    → b ≡ bucket_of c e → e.available ≤ c.burst → DiscreteRefillMeets b now r → entry_of r.state e.last_used_ms ≡ refilled c now e
unfolding refilled
refilled_by c e now b r same level h =
    let met : DiscreteRefillMeets (bucket_of c e) now r = rw same at h in
    ap (λ (x : DiscreteRefilled). entry_of x.state e.last_used_ms)
    (discrete_refill_sound (bucket_of c e) now (le-leb e.available c.burst level) met)

-- the entry of a bucket that was asked, and what it said
pub asked_by : (b : DiscreteTokenBucket) (now : ℕ) (r : DiscreteConsumed) (e : ChannelUpdateLimiterEntry) (t : Result Bool Refusal) → b.available ≤ b.capacity
    → DiscreteTryConsumeMeets b now r → e ≡ entry_of r.state now → t ≡ told (is_yes r.answer)
    → ◌≡◌ {A = Asked} (record { entry = e; answer = t }) (asked_of b now)
unfolding asked_of
asked_by b now r e t level h entry says =
    let same : r ≡ discrete_try_consume b now = discrete_try_consume_sound b now (le-leb b.available b.capacity level) h in
    rw (entry, says, same)

module _ (c : ChannelUpdateRateLimitConfig) (s : List ℕ) (at : ℕ) (e : ChannelUpdateLimiterEntry) (read : e ≡ (row_of limiter_layout (part s at row_width)).entry) where
  -- more is available than the burst allows
  pub row_over : c.burst < e.available → false ≡ limiter_sound c (row_of limiter_layout (part s at row_width))
  unfolding limiter_sound
  row_over h = rw (← read, lt-leb e.available c.burst h)

  -- it is not: the side decides
  pub row_side : e.available ≤ c.burst → leb (get_or s (at + side_place) 0) 1 ≡ limiter_sound c (row_of limiter_layout (part s at row_width))
  unfolding limiter_sound
  row_side h = rw (← read, le-leb e.available c.burst h, side_place_lem s at)
