-- What a refill and a take leave of the message bucket: its settings, and bounds of its level and of the time of its last refill. They
-- ask for no range of the numbers. Assumes nothing.
use Rattle.std.specs.Prelude.{◌≡◌, refl, ◌||◌, ℕ, ◌+◌, ◌-◌, ◌*◌, ◌/◌, ◌%◌, ◌≤◌, min, max, leb, eqb}
use Rattle.std.proofs.Common.{arith}
use Rattle.truths.specs.TruthLaws.{either}
use Rattle.bucket_discrete.specs.declared.discrete.DiscreteTokenBucket.{DiscreteTokenBucket}
use Rattle.bucket_discrete.specs.Handed.{DiscreteConsumed}
use Rattle.bucket_discrete.specs.DiscreteBucket.{discrete_refill, discrete_take}
use Rattle.bucket_discrete.specs.ElapsedLaws.{counted_within_elapsed}

-- what holds of both holds of the one that a test chooses
capped : (a more cap : ℕ) → min (a + more) cap ≤ max a cap
capped a more cap = omega arith

advanced : (last now more : ℕ) → more ≤ now - last → last + more ≤ max last now
advanced last now more h = omega arith

-- r is b refilled at a time
pub record Refills (b : DiscreteTokenBucket) (now : ℕ) (r : DiscreteTokenBucket) : Type 0 where
  pub same_interval : r.interval_ms ≡ b.interval_ms
  pub same_capacity : r.capacity ≡ b.capacity
  pub level : r.available ≤ max b.available b.capacity
  pub last : r.last_refill_ms ≤ max b.last_refill_ms now

pub refills : (b : DiscreteTokenBucket) (now : ℕ) → Refills b now (discrete_refill b now)
unfolding discrete_refill
refills b now =
    let elapsed : ℕ = now - b.last_refill_ms in
    let refill : ℕ = elapsed / b.interval_ms % 4294967296 in
    let stays : Refills b now b = record { same_interval = refl; same_capacity = refl; level = omega arith; last = omega arith } in
    either (Refills b now) (eqb b.interval_ms 0 || (eqb b.capacity 0 || leb now b.last_refill_ms)) stays
    (either (Refills b now) (eqb refill 0) stays
    (record {
      same_interval = refl;
      same_capacity = refl;
      level = capped b.available refill b.capacity;
      last = advanced b.last_refill_ms now (refill * b.interval_ms) (counted_within_elapsed elapsed b.interval_ms);
    }))

-- r is b after it was asked for a token
pub record Takes (b r : DiscreteTokenBucket) : Type 0 where
  pub same_interval : r.interval_ms ≡ b.interval_ms
  pub same_capacity : r.capacity ≡ b.capacity
  pub level : r.available ≤ b.available
  pub last : r.last_refill_ms ≡ b.last_refill_ms

pub takes : (b : DiscreteTokenBucket) → Takes b (discrete_take b).state
unfolding discrete_take
takes b =
    either (λ (r : DiscreteConsumed). Takes b r.state) (eqb b.available 0)
    (record { same_interval = refl; same_capacity = refl; level = omega arith; last = refl })
    (record { same_interval = refl; same_capacity = refl; level = omega arith; last = refl })
