-- DiscreteTokenBucket of gossip_policy.rs, written from its text, function by function and under its names. Definitions only.
--
-- Two sums that the Rust saturates stand here as they are. `available.saturating_add(refill)` can saturate, but the Rust cuts it to
-- the capacity at once, and that is a u32 itself: the sum and the saturated sum are cut to the same. `last_refill_ms` never passes
-- now_ms, so its sum, and the product in it, never reach the bound.
use Rattle.std.specs.Prelude.{◌≡◌, Bool, ◌||◌, cond, ℕ, ◌+◌, ◌-◌, ◌*◌, ◌/◌, ◌%◌, min, leb, eqb}
use Rattle.std.specs.Prelude.{Result, Ok, Err}
use Rattle.refusal.specs.declared.Refusal.{Refusal}
use Rattle.refusal.specs.declared.Refusal.TheVariants as Refusal
use Rattle.bucket_terms.specs.declared.answer.NotGiven.TheVariants as NotGiven
use Rattle.bucket_terms.specs.Answers.{told}
use Rattle.bucket_discrete.specs.declared.discrete.DiscreteTokenBucket.{DiscreteTokenBucket}
use Rattle.bucket_discrete.specs.Handed.{DiscreteRefilled}
use Rattle.bucket_discrete.specs.Handed.{DiscreteConsumed}

-- never more available than the capacity
abbrev pub discrete_sound : DiscreteTokenBucket → Bool
discrete_sound b = leb b.available b.capacity

-- new: full, last refilled at 0
abbrev pub discrete_new : ℕ → ℕ → DiscreteTokenBucket
discrete_new interval capacity =
    record { interval_ms = interval; capacity = capacity; available = capacity; last_refill_ms = 0 }

-- the bucket with `refill` tokens more, up to its capacity, and last refilled as many intervals later
abbrev pub discrete_topped : DiscreteTokenBucket → ℕ → DiscreteTokenBucket
discrete_topped b refill =
    record {
      interval_ms = b.interval_ms;
      capacity = b.capacity;
      available = min (b.available + refill) b.capacity;
      last_refill_ms = b.last_refill_ms + refill * b.interval_ms;
    }

-- refill: the intervals that have passed, CUT to their low 32 bits as the Rust's `as u32` cuts them; where those are 0 nothing
-- moves
unfoldable pub discrete_refill : DiscreteTokenBucket → ℕ → DiscreteTokenBucket
discrete_refill b now =
    let refill = (now - b.last_refill_ms) / b.interval_ms % 4294967296
    in cond (eqb b.interval_ms 0 || (eqb b.capacity 0 || leb now b.last_refill_ms)) b
    (cond (eqb refill 0) b (discrete_topped b refill))

-- one token out of the bucket
abbrev pub discrete_taken : DiscreteTokenBucket → DiscreteTokenBucket
discrete_taken b =
    record {
      interval_ms = b.interval_ms;
      capacity = b.capacity;
      available = b.available - 1;
      last_refill_ms = b.last_refill_ms;
    }

-- a refilled bucket asked for a token: an empty one says no, and keeps its refill. That it is short by one is more than the Rust's
-- `false` says
unfoldable pub discrete_take : DiscreteTokenBucket → DiscreteConsumed
discrete_take b =
    cond (eqb b.available 0)
    (record { state = b; answer = Err (NotGiven.Short 1) })
    (record { state = discrete_taken b; answer = Ok tt })

-- try_consume: not bypassed where interval or capacity is 0
unfoldable pub discrete_try_consume : DiscreteTokenBucket → ℕ → DiscreteConsumed
discrete_try_consume b now = discrete_take (discrete_refill b now)

-- is_full
abbrev pub discrete_is_full : DiscreteTokenBucket → Bool
discrete_is_full b = eqb b.available b.capacity

-- ════ The calls ════
-- What each contract says of a call's answer. An unsound bucket is refused with 3 and comes back as it was.

unfoldable pub DiscreteRefillMeets : DiscreteTokenBucket → ℕ → DiscreteRefilled → Type 0
DiscreteRefillMeets b now r =
    r
    ≡ cond (discrete_sound b)
    (record { state = discrete_refill b now; answer = Ok tt })
    (record { state = b; answer = Err Refusal.Unsound })

unfoldable pub DiscreteTryConsumeMeets : DiscreteTokenBucket → ℕ → DiscreteConsumed → Type 0
DiscreteTryConsumeMeets b now r =
    r ≡ cond (discrete_sound b) (discrete_try_consume b now) (record { state = b; answer = Err (NotGiven.Refused Refusal.Unsound) })

unfoldable pub DiscreteIsFullMeets : DiscreteTokenBucket → Result Bool Refusal → Type 0
DiscreteIsFullMeets b r = r ≡ cond (discrete_sound b) (told (discrete_is_full b)) (Err Refusal.Unsound)
