-- Laws of the message bucket: at most one outcome for each call, a sound bucket is never refused, and a refusal leaves the bucket.
-- Assumes nothing.
use Rattle.std.specs.Prelude.{◌≡◌, true, ℕ, eqb}
use Rattle.std.proofs.Common.{arith}
use Rattle.std.specs.Prelude.{Result, Ok, Err, Bool}
use Rattle.refusal.specs.declared.Refusal.{Refusal}
use Rattle.bucket_terms.specs.declared.answer.NotGiven.TheVariants as NotGiven
use Rattle.refusal.specs.OneOutcomeLaws.{one_outcome}
use Rattle.bucket_terms.specs.Answers.{told}
use Rattle.bucket_terms.specs.AnswersLaws.{refused_leaves, neither_refuses}
use Rattle.bucket_discrete.specs.declared.discrete.DiscreteTokenBucket.{DiscreteTokenBucket}
use Rattle.bucket_discrete.specs.Handed.{DiscreteRefilled}
use Rattle.bucket_discrete.specs.Handed.{DiscreteConsumed}
use Rattle.bucket_discrete.specs.DiscreteBucket.{discrete_sound, discrete_new, discrete_refill, discrete_take, discrete_try_consume, discrete_is_full}
use Rattle.bucket_discrete.specs.DiscreteBucket.{DiscreteRefillMeets, DiscreteTryConsumeMeets, DiscreteIsFullMeets}

-- ════ At most one outcome ════

pub discrete_new_outcome : (interval capacity : ℕ) {r q : DiscreteTokenBucket} → r ≡ discrete_new interval capacity → q ≡ discrete_new interval capacity → r ≡ q
discrete_new_outcome interval capacity = one_outcome

pub discrete_refill_outcome : (b : DiscreteTokenBucket) (now : ℕ) {r q : DiscreteRefilled} → DiscreteRefillMeets b now r → DiscreteRefillMeets b now q → r ≡ q
unfolding DiscreteRefillMeets
discrete_refill_outcome b now = one_outcome

pub discrete_try_consume_outcome : (b : DiscreteTokenBucket) (now : ℕ) {r q : DiscreteConsumed} → DiscreteTryConsumeMeets b now r → DiscreteTryConsumeMeets b now q → r ≡ q
unfolding DiscreteTryConsumeMeets
discrete_try_consume_outcome b now = one_outcome

pub discrete_is_full_outcome : (b : DiscreteTokenBucket) {r q : Result Bool Refusal} → DiscreteIsFullMeets b r → DiscreteIsFullMeets b q → r ≡ q
unfolding DiscreteIsFullMeets
discrete_is_full_outcome b = one_outcome

-- ════ A sound bucket is never refused ════

pub discrete_refill_sound : (b : DiscreteTokenBucket) (now : ℕ) {r : DiscreteRefilled} → discrete_sound b ≡ true → DiscreteRefillMeets b now r → r ≡ record { state = discrete_refill b now; answer = Ok tt }
unfolding DiscreteRefillMeets
discrete_refill_sound b now h e = rw h at e

pub discrete_try_consume_sound : (b : DiscreteTokenBucket) (now : ℕ) {r : DiscreteConsumed} → discrete_sound b ≡ true → DiscreteTryConsumeMeets b now r → r ≡ discrete_try_consume b now
unfolding DiscreteTryConsumeMeets
discrete_try_consume_sound b now h e = rw h at e

pub discrete_is_full_sound : (b : DiscreteTokenBucket) {r : Result Bool Refusal} → discrete_sound b ≡ true → DiscreteIsFullMeets b r → r ≡ told (discrete_is_full b)
unfolding DiscreteIsFullMeets
discrete_is_full_sound b h e = rw h at e

-- ════ A refusal leaves the bucket ════

pub discrete_refill_refused : (b : DiscreteTokenBucket) (now : ℕ) {r : DiscreteRefilled} {n : Refusal} → DiscreteRefillMeets b now r → r.answer ≡ Err n → r.state ≡ b
unfolding DiscreteRefillMeets
discrete_refill_refused b now e k =
    refused_leaves (λ (t : DiscreteRefilled). t.state) (λ (t : DiscreteRefilled). t.answer) (discrete_sound b) e k
    (λ d. let z : ◌≡◌ {A = ℕ} 0 1 = cc in omega arith)

take_refuses_none : (b : DiscreteTokenBucket) {n : Refusal} → (discrete_take b).answer ≡ Err (NotGiven.Refused n) → ⊥
unfolding discrete_take
take_refuses_none b =
    neither_refuses (λ (t : DiscreteConsumed). t.answer) (eqb b.available 0) _ _
    (λ e. let z : ◌≡◌ {A = ℕ} 0 1 = cc in omega arith)
    (λ e. let z : ◌≡◌ {A = ℕ} 0 1 = cc in omega arith)

pub discrete_try_consume_refused : (b : DiscreteTokenBucket) (now : ℕ) {r : DiscreteConsumed} {n : Refusal} → DiscreteTryConsumeMeets b now r → r.answer ≡ Err (NotGiven.Refused n) → r.state ≡ b
unfolding DiscreteTryConsumeMeets discrete_try_consume
discrete_try_consume_refused b now e k =
    refused_leaves (λ (t : DiscreteConsumed). t.state) (λ (t : DiscreteConsumed). t.answer) (discrete_sound b) e k
    (take_refuses_none (discrete_refill b now))
