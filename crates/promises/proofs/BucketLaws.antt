-- One law for both of a peer's buckets: what a bucket has left bounds the charges of its log from above and from below. A token has
-- `parts` parts, and each millisecond brings `speed` of them. In order: logs; the terms of a bucket; the upper half; the lower half.
-- Assumes nothing.
use Rattle.std.specs.Prelude.{◌≡◌, true, false, cond, ℕ, ◌+◌, ◌-◌, ◌*◌, ◌<◌, ◌≤◌, min, suc, leb}
use Rattle.std.proofs.Math.Path.{refl}
use Rattle.std.proofs.Common.{◌∙◌, le_trans, le_of_lt, le_of_suc-le-suc, lt_of_le_of_lt, mul-add, mul-suc, mul-one, mul-zero, mul-le-mul_left, arith, leb-true, leb-false, le-leb}
use mathlib.Core.List.{List, [], ◌∷◌}
use Rattle.std.proofs.Math.Nat.{mul-sub, min-le_left, min-le_right, min-eq_left, min-eq_right, lt_of_mul-lt-mul_left}
use Rattle.std.proofs.lemmas.Bool.{lt-leb}
use Rattle.truths.specs.TruthLaws.{by_test, both, both_parts}
use Rattle.peer_settings.specs.declared.config.PeerMessagePolicyConfig.{PeerMessagePolicyConfig}
use Rattle.promises.specs.Lives.{Allow, within, Allowance, FromEvery}

-- ════ Logs, the newest Allow first ════

-- the time of the newest Allow; a life without one has had its last at 0, when its buckets were last refilled
abbrev pub newest : List Allow → ℕ
newest [] = 0
newest (z ∷ log) = z.time

-- times never go back along a log
abbrev pub InOrder : List Allow → Type 0
InOrder [] = Unit {0}
InOrder (z ∷ log) = (newest log ≤ z.time) × InOrder log

-- the charges of the Allows from one time to another, both included
unfoldable pub charged : (Allow → ℕ) → ℕ → ℕ → List Allow → ℕ
charged charge from to [] = 0
charged charge from to (z ∷ log) = cond (within from to z) (charge z) 0 + charged charge from to log

module _ (charge : Allow → ℕ) (from to : ℕ) where
  charged_none : charged charge from to [] ≡ 0
  unfolding charged
  charged_none = refl

  -- the newest Allow counts
  charged_in : (z : Allow) (log : List Allow) → within from to z ≡ true → charged charge from to (z ∷ log) ≡ charge z + charged charge from to log
  unfolding charged
  charged_in z log h = rw h

  -- the newest Allow does not count
  charged_out : (z : Allow) (log : List Allow) → within from to z ≡ false → charged charge from to (z ∷ log) ≡ charged charge from to log
  unfolding charged
  charged_out z log h = rw h (omega arith)

  -- a time before `from` does not count
  early : (z : Allow) → z.time < from → within from to z ≡ false
  early z h = rw (lt-leb from z.time h)

  -- nothing is charged after the newest Allow
  charged_after : (log : List Allow) → InOrder log → newest log < from → charged charge from to log ≡ 0
  charged_after [] o h = charged_none
  charged_after (z ∷ log) o h =
      charged_out z log (early z h) ∙ charged_after log o.1 (lt_of_le_of_lt o.0 h)

-- both ends of `within`
within_in : (from to : ℕ) (z : Allow) → from ≤ z.time → z.time ≤ to → within from to z ≡ true
within_in from to z h k = both (le-leb from z.time h) (le-leb z.time to k)

within_out : (from to : ℕ) (z : Allow) → within from to z ≡ true → (from ≤ z.time) × (z.time ≤ to)
within_out from to z h =
    let ends = both_parts (leb from z.time) (leb z.time to) h in
    (leb-true from z.time ends.0, leb-true z.time to ends.1)

-- ════ The terms of a bucket ════

pub record Terms : Type 0 where
  -- the parts of one token
  pub parts : ℕ
  -- the parts that a millisecond brings
  pub speed : ℕ
  -- the parts that one refill loses at most
  pub loss : ℕ
  -- the parts that wait for the next refill at most
  pub slack : ℕ
  pub capacity : ℕ
  -- the tokens that an Allow takes
  pub charge : Allow → ℕ

-- what a bucket has after a gain
abbrev pub topped : Terms → (left gain : ℕ) → ℕ
topped b left gain = min (left + gain) b.capacity

-- ════ The upper half ════

-- what a bucket with `left` tokens, and `rest` parts that wait, says of the charges of its log, in parts
pub record Bounded (b : Terms) (left rest : ℕ) (log : List Allow) : Type 0 where
  pub within_capacity : left ≤ b.capacity
  -- since any time that is not after the newest Allow
  pub since : (from to : ℕ)
      → from ≤ newest log
      → newest log ≤ to
      → b.parts * charged b.charge from to log + b.parts * left + b.speed * from + rest ≤ b.parts * b.capacity + b.speed * newest log + b.slack
  -- between any two times
  pub between : (from to : ℕ) → b.parts * charged b.charge from to log ≤ b.parts * b.capacity + b.speed * (to - from) + b.slack

-- a refill between two times brings no more than the time does
abbrev pub NotMore : Terms → (before now rest rest' gain : ℕ) → Type 0
NotMore b before now rest rest' gain = b.parts * gain + rest' + b.speed * before ≤ rest + b.speed * now

-- a full bucket without a log
pub bounded_new : (b : Terms) → Bounded b b.capacity 0 []
bounded_new b = record {
  within_capacity = omega arith;
  since = λ from to h k. let z : from ≡ 0 = omega arith in rw (charged_none b.charge from to, z) (omega (arith, mul-zero b.parts));
  between = λ from to. rw (charged_none b.charge from to) (omega (arith, mul-zero b.parts));
}

module _ (b : Terms) (left rest : ℕ) (log : List Allow) (z : Allow) (rest' gain : ℕ)
    (bounded : Bounded b left rest log)
    (ordered : InOrder log)
    (later : newest log ≤ z.time)
    (small : rest' ≤ b.slack)
    (turn : NotMore b (newest log) z.time rest rest' gain)
    (enough : b.charge z ≤ topped b left gain) where
  -- a refilled bucket, in parts
  filled : b.parts * topped b left gain ≤ b.parts * left + b.parts * gain
  filled = rw (← mul-add b.parts left gain) (mul-le-mul_left b.parts (min-le_left (left + gain) b.capacity))

  capped : b.parts * topped b left gain ≤ b.parts * b.capacity
  capped = mul-le-mul_left b.parts (min-le_right (left + gain) b.capacity)

  since_next : (from to : ℕ) → from ≤ z.time → z.time ≤ to
      → b.parts * charged b.charge from to (z ∷ log) + b.parts * (topped b left gain - b.charge z) + b.speed * from + rest'
      ≤ b.parts * b.capacity + b.speed * z.time + b.slack
  since_next from to h k =
      let paid = mul-le-mul_left b.parts enough in
      rw (charged_in b.charge from to z log (within_in from to z h k), mul-add b.parts (b.charge z) (charged b.charge from to log), mul-sub b.parts (topped b left gain) (b.charge z))
      (by_test (leb from (newest log))
      (λ t. omega (arith, filled, bounded.since from to (leb-true from (newest log) t) (le_trans later k)))
      (λ t. rw (charged_after b.charge from to log ordered (leb-false from (newest log) t))
      (omega (arith, capped, mul-zero b.parts, mul-le-mul_left b.speed h))))

  between_next : (from to : ℕ) → b.parts * charged b.charge from to (z ∷ log) ≤ b.parts * b.capacity + b.speed * (to - from) + b.slack
  between_next from to =
      by_test (within from to z)
      (λ t. let (h, k) = within_out from to z t in
      rw (mul-sub b.speed to from) (omega (arith, since_next from to h k, mul-le-mul_left b.speed k)))
      (λ t. rw (charged_out b.charge from to z log t) (bounded.between from to))

  -- a refill, and an Allow that is charged
  pub bounded_next : Bounded b (topped b left gain - b.charge z) rest' (z ∷ log)
  bounded_next = record { within_capacity = omega arith; since = since_next; between = between_next }

-- ════ The lower half ════

-- counted from each Allow of the log, with n Allows and t tokens already counted, the charges are within a number of parts
abbrev pub WithinParts : Terms → (most n t : ℕ) → List Allow → Type 0
WithinParts b most n t [] = Unit {0}
WithinParts b most n t (z ∷ log) =
    (b.parts * (t + b.charge z) + b.loss * n + b.speed * z.time ≤ most)
    × WithinParts b most (n + 1) (t + b.charge z) log

-- what is missing from a bucket, with n Allows and t tokens counted on top, is within a number of parts
abbrev pub Covered : Terms → (left rest time most n t : ℕ) → Type 0
Covered b left rest time most n t =
    b.parts * b.capacity + b.parts * t + b.loss * n + b.speed * time ≤ most + b.parts * left + rest

-- a bucket without a log is full; else the charges, counted from some Allow, are what is missing from it, but for the losses: any
-- number of parts that bounds them from every Allow bounds them from that one, which found the bucket full
abbrev pub Backed : Terms → (left rest : ℕ) → List Allow → Type 0
Backed b left rest [] = left ≡ b.capacity
Backed b left rest (z ∷ log) =
    (most n t : ℕ)
    → WithinParts b most n t (z ∷ log)
    → Covered b left rest z.time most n t

-- a refill now brings no less than the time since the newest Allow does, but for the loss
abbrev pub NotLess : Terms → List Allow → (now rest rest' gain : ℕ) → Type 0
NotLess b [] now rest rest' gain = Unit {0}
NotLess b (z ∷ log) now rest rest' gain = rest + b.speed * now ≤ b.parts * gain + rest' + b.loss + b.speed * z.time

module _ (b : Terms) (left rest : ℕ) (z : Allow) (rest' gain : ℕ) where
  -- a refill that reaches the capacity: the Allow that found the bucket full is now this one
  backed_full : (log : List Allow) → b.capacity ≤ left + gain → (most n t : ℕ) → WithinParts b most n t (z ∷ log)
      → Covered b (topped b left gain) rest' z.time most n (t + b.charge z)
  backed_full log h most n t w = rw (min-eq_right h) (omega (arith, w.0))

  -- a refill that does not: it is still the one from before
  backed_more : (log : List Allow) → left + gain < b.capacity → Backed b left rest log → NotLess b log z.time rest rest' gain
      → (most n t : ℕ) → WithinParts b most n t (z ∷ log)
      → Covered b (topped b left gain) rest' z.time most n (t + b.charge z)
  backed_more [] h backed turn most n t w = absurd (omega arith)
  backed_more (y ∷ log) h backed turn most n t w =
      rw (min-eq_left {n = left + gain} {m = b.capacity} (le_of_lt h), mul-add b.parts left gain)
      (omega (arith, backed most (n + 1) (t + b.charge z) w.1, mul-add b.loss n 1, mul-one b.loss))

  module _ (log : List Allow) (backed : Backed b left rest log) (turn : NotLess b log z.time rest rest' gain) where
    backed_refilled : (most n t : ℕ) → WithinParts b most n t (z ∷ log)
        → Covered b (topped b left gain) rest' z.time most n (t + b.charge z)
    backed_refilled =
        by_test (leb b.capacity (left + gain))
        (λ t. backed_full log (leb-true b.capacity (left + gain) t))
        (λ t. backed_more log (leb-false b.capacity (left + gain) t) backed turn)

    -- a refill, and an Allow that is charged
    pub backed_next : b.charge z ≤ topped b left gain → Backed b (topped b left gain - b.charge z) rest' (z ∷ log)
    backed_next enough = λ most n t w.
        rw (mul-sub b.parts (topped b left gain) (b.charge z))
        (omega (arith, backed_refilled most n t w, mul-add b.parts t (b.charge z), mul-le-mul_left b.parts enough))

    -- a call within the smaller allowance finds enough
    pub backed_enough : rest' < b.parts → WithinParts b (b.parts * b.capacity + b.speed * z.time) 0 0 (z ∷ log) → b.charge z ≤ topped b left gain
    backed_enough small w =
        le_of_suc-le-suc (lt_of_mul-lt-mul_left b.parts {m = b.charge z} {n = suc (topped b left gain)}
        (rw (mul-suc b.parts (topped b left gain))
        (omega (arith, backed_refilled (b.parts * b.capacity + b.speed * z.time) 0 0 w, mul-zero b.loss, mul-add b.parts 0 (b.charge z)))))

-- the smaller allowance, in parts: tokens are a measure of so many Allows with so many bytes
module _ (b : Terms) (c : PeerMessagePolicyConfig) (now most : ℕ) (tokens : ℕ → ℕ → ℕ)
    (one_more : (n bytes : ℕ) (z : Allow) → tokens (n + 1) (bytes + z.size) ≡ tokens n bytes + b.charge z)
    (in_parts : (n bytes s : ℕ) → s ≤ now → Allowance c now (n + 1) bytes s → b.parts * tokens (n + 1) bytes + b.loss * n + b.speed * s ≤ most) where
  pub within_parts : (log : List Allow) (n bytes : ℕ) → InOrder log → newest log ≤ now → FromEvery c now n bytes log → WithinParts b most n (tokens n bytes) log
  unfolding FromEvery
  within_parts [] n bytes ordered later every = tt
  within_parts (z ∷ log) n bytes ordered later every = (
    rw (one_more n bytes z) at (in_parts n (bytes + z.size) z.time later every.0),
    rw (one_more n bytes z) at (within_parts log (n + 1) (bytes + z.size) ordered.1 (le_trans ordered.0 later) every.1),
  )
