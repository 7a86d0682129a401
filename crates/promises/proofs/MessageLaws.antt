-- The law of the message bucket: one token an interval, the intervals that have passed cut to their low 32 bits. What the cut drops
-- are whole laps of 2^32 intervals, by which the last refill lags behind. In order: what a take gives; the phase; the bucket and its
-- log. Assumes nothing.
use Rattle.std.specs.Prelude.{◌≡◌, refl, Bool, true, false, cond, ℕ, ◌+◌, ◌-◌, ◌*◌, ◌/◌, ◌%◌, ◌<◌, ◌≤◌, min, leb, eqb}
use Rattle.std.proofs.Common.{ap, ◌∙◌, add-mul, mul_assoc, mul_comm, mul-le-mul_right, div-add-mod', mod-lt, zero-mul, le-div_iff_mul-le, arith, leb-true, leb-false, eqb-true, ne_eqb}
use Rattle.std.proofs.lemmas.Bool.{false≢true, eqb-false}
use Rattle.std.specs.Prelude.{Ok}
use mathlib.Core.List.{List, [], ◌∷◌}
use Rattle.std.proofs.Math.Nat.{zero-div, mul-sub}
use Rattle.truths.specs.TruthLaws.{by_test, neither}
use Rattle.bucket_discrete.specs.declared.discrete.DiscreteTokenBucket.{DiscreteTokenBucket}
use Rattle.bucket_discrete.specs.DiscreteBucket.{discrete_topped, discrete_refill, discrete_taken, discrete_take, discrete_try_consume}
use Rattle.peer_settings.specs.declared.config.PeerMessagePolicyConfig.{PeerMessagePolicyConfig}
use Rattle.peer_state.specs.declared.entry.Level.{Level}
use Rattle.peer_settings.specs.Config.{message_limit_disabled}
use Rattle.peer_state.specs.Entry.{level}
use Rattle.peer_verdict.specs.Verdict.{passes, message_bucket, messages_left, take_message}
use Rattle.promises.specs.Lives.{Allow, Near, allows}
use Rattle.promises.proofs.BucketLaws.{newest, InOrder, charged, Terms, Bounded, bounded_new, bounded_next, NotMore, NotLess, WithinParts, Backed, backed_next, backed_enough}

-- ════ What a take gives, where the limit is on ════

-- the intervals that have passed since the last refill, cut
abbrev pub passed : PeerMessagePolicyConfig → Level → ℕ → ℕ
passed c m now = (now - m.last_refill_ms) / c.peer_message_interval_ms % 4294967296

-- what a refill leaves
abbrev pub refilled : PeerMessagePolicyConfig → Level → ℕ → ℕ
refilled c m now = min (m.available + passed c m now) c.peer_message_burst

-- when it leaves the bucket last refilled
abbrev pub refilled_when : PeerMessagePolicyConfig → Level → ℕ → ℕ
refilled_when c m now = m.last_refill_ms + passed c m now * c.peer_message_interval_ms

-- the bucket that it leaves
abbrev pub refilled_bucket : PeerMessagePolicyConfig → Level → ℕ → DiscreteTokenBucket
refilled_bucket c m now = message_bucket c (level (refilled c m now) (refilled_when c m now))

-- a test that leaves a value as it is, or changes nothing
same_by : {A : Type 0} {x y : A} (s t : Bool) → (s ≡ true → x ≡ y) → (t ≡ true → x ≡ y) → cond s x (cond t x y) ≡ y
same_by true t h k = h refl
same_by false true h k = k refl
same_by false false h k = refl

module _ (c : PeerMessagePolicyConfig) (on : message_limit_disabled c ≡ false) where
  both_on : (eqb c.peer_message_interval_ms 0 ≡ false) × (eqb c.peer_message_burst 0 ≡ false)
  both_on = neither (eqb c.peer_message_interval_ms 0) (eqb c.peer_message_burst 0) on

  some_interval : 0 < c.peer_message_interval_ms
  some_interval = let ne = eqb-false c.peer_message_interval_ms 0 both_on.0 in omega arith

  module _ (m : Level) (now : ℕ) (fits : m.available ≤ c.peer_message_burst) where
    -- no interval has passed: nothing moves
    topped_none : passed c m now ≡ 0 → message_bucket c m ≡ discrete_topped (message_bucket c m) (passed c m now)
    topped_none h =
        let left : m.available ≡ refilled c m now = omega arith in
        let last : m.last_refill_ms ≡ refilled_when c m now =
        omega (arith, ap (λ (n : ℕ). n * c.peer_message_interval_ms) h)
        in
        λ i. record { interval_ms = c.peer_message_interval_ms; capacity = c.peer_message_burst; available = left i; last_refill_ms = last i }

    early_none : now ≤ m.last_refill_ms → passed c m now ≡ 0
    early_none h =
        let none : now - m.last_refill_ms ≡ 0 = omega arith in
        rw (none, zero-div c.peer_message_interval_ms)

    refill_topped : discrete_refill (message_bucket c m) now ≡ discrete_topped (message_bucket c m) (passed c m now)
    unfolding discrete_refill
    refill_topped =
        rw (both_on.0, both_on.1)
        (same_by (leb now m.last_refill_ms) (eqb (passed c m now) 0)
        (λ t. topped_none (early_none (leb-true now m.last_refill_ms t)))
        (λ t. topped_none (eqb-true (passed c m now) 0 t)))

    pub take_message_lem : take_message c m now ≡ discrete_take (refilled_bucket c m now)
    unfolding take_message discrete_try_consume
    take_message_lem = rw (on, refill_topped)

-- a token was there if the take is not short
taken_yes : (b : DiscreteTokenBucket) → passes (discrete_take b).answer ≡ true → 1 ≤ b.available
unfolding discrete_take
taken_yes b h =
    by_test (eqb b.available 0) (λ t. let no : ◌≡◌ {A = Bool} false true = rw t at h in absurd (false≢true no))
    (λ t. let ne = eqb-false b.available 0 t in omega arith)

-- a token that is there is taken
taken_is : (b : DiscreteTokenBucket) → 1 ≤ b.available → discrete_take b ≡ record { state = discrete_taken b; answer = Ok tt }
unfolding discrete_take
taken_is b h = rw (ne_eqb b.available 0 (λ e. omega arith))

-- a limit that is off never falls short
pub message_off : (c : PeerMessagePolicyConfig) (m : Level) (now : ℕ) → message_limit_disabled c ≡ true → passes (take_message c m now).answer ≡ true
unfolding take_message
message_off c m now off = rw off

-- ════ The phase ════

-- the time of the newest Allow, from the last refill on: whole laps of 2^32 intervals, and less than an interval
pub record Phase (interval last time laps rest : ℕ) : Type 0 where
  pub sum : time ≡ last + 4294967296 * (laps * interval) + rest
  pub less : rest < interval

-- of two numbers of intervals the smaller ends an interval earlier
one_more : (a b interval : ℕ) → a < b → a * interval + interval ≤ b * interval
one_more a b interval h =
    let k : a + 1 ≤ b = omega arith in
    omega (arith, add-mul a 1 interval, mul-le-mul_right interval k)

module _ (interval last now : ℕ) (some : 0 < interval) where
  abbrev gained : ℕ
  gained = (now - last) / interval % 4294967296

  abbrev laps_of : ℕ
  laps_of = (now - last) / interval / 4294967296

  abbrev rest_of : ℕ
  rest_of = (now - last) % interval

  -- the passed intervals: whole laps, and those that the cut leaves
  laps_passed : (now - last) / interval * interval ≡ 4294967296 * (laps_of * interval) + gained * interval
  laps_passed =
      let q : (now - last) / interval ≡ 4294967296 * laps_of + gained = omega arith in
      ap (λ (n : ℕ). n * interval) q ∙ add-mul (4294967296 * laps_of) gained interval ∙ rw (mul_assoc 4294967296 laps_of interval)

  -- a refill keeps the phase
  pub phase_next : last ≤ now → Phase interval (last + gained * interval) now laps_of rest_of
  phase_next h = record {
    sum = omega (arith, div-add-mod' (now - last) interval, laps_passed);
    less = mod-lt (now - last) some;
  }

  module _ (time laps rest : ℕ) (phase : Phase interval last time laps rest) (later : time ≤ now) where
    after_last : last ≤ now
    after_last = omega arith

    -- laps are never lost
    laps_kept : laps * interval ≤ laps_of * interval
    laps_kept =
        let next = phase_next after_last in
        by_test (leb laps laps_of)
        (λ t. mul-le-mul_right interval (leb-true laps laps_of t))
        (λ t. absurd (omega (arith, one_more laps_of laps interval (leb-false laps laps_of t), one_more gained 4294967296 interval (omega arith))))

    -- no lap is gained at once where the gap is at most 2^32 - 1 intervals
    laps_same : now ≤ time + 4294967295 * interval → laps_of * interval ≤ laps * interval
    laps_same near =
        let next = phase_next after_last in
        by_test (leb laps_of laps)
        (λ t. mul-le-mul_right interval (leb-true laps_of laps t))
        (λ t. absurd (omega (arith, one_more laps laps_of interval (leb-false laps_of laps t))))

    pub not_more : interval * gained + rest_of + 1 * time ≤ rest + 1 * now
    not_more = let next = phase_next after_last in omega (arith, laps_kept, mul_comm interval gained)

    pub not_less : now ≤ time + 4294967295 * interval → rest + 1 * now ≤ interval * gained + rest_of + 0 + 1 * time
    not_less near = let next = phase_next after_last in omega (arith, laps_same near, mul_comm interval gained)

-- ════ The bucket and its log ════

abbrev pub message_terms : PeerMessagePolicyConfig → Terms
message_terms c =
    record {
      parts = c.peer_message_interval_ms;
      speed = 1;
      loss = 0;
      slack = c.peer_message_interval_ms - 1;
      capacity = c.peer_message_burst;
      charge = λ z. 1;
    }

-- successive Allows of a log lie near each other
abbrev pub NearEach : ℕ → List Allow → Type 0
NearEach interval [] = Unit {0}
NearEach interval (z ∷ log) = Near interval z.time log

-- what a message bucket and the log of its life always satisfy, where the limit is on
pub record FairMessages (c : PeerMessagePolicyConfig) (m : Level) (log : List Allow) : Type 0 where
  pub laps : ℕ
  pub rest : ℕ
  pub phase : Phase c.peer_message_interval_ms m.last_refill_ms (newest log) laps rest
  pub bounded : Bounded (message_terms c) m.available rest log
  pub backed : NearEach c.peer_message_interval_ms log → Backed (message_terms c) m.available rest log

-- what lies near a log is near it, and the log's Allows near each other
near_each : (interval now : ℕ) (log : List Allow) → Near interval now log → NearEach interval log
unfolding Near
near_each interval now [] near = tt
near_each interval now (z ∷ log) near = near.1

module _ (c : PeerMessagePolicyConfig) (on : message_limit_disabled c ≡ false) where
  pub messages_new : FairMessages c (level c.peer_message_burst 0) []
  messages_new = record {
    laps = 0;
    rest = 0;
    phase = record { sum = omega (arith, zero-mul c.peer_message_interval_ms); less = some_interval c on };
    bounded = bounded_new (message_terms c);
    backed = λ near. refl;
  }

  module _ (m : Level) (log : List Allow) (z : Allow) (fair : FairMessages c m log) (ordered : InOrder log) (later : newest log ≤ z.time) where
    abbrev rest' : ℕ
    rest' = rest_of c.peer_message_interval_ms m.last_refill_ms z.time (some_interval c on)

    take_is : take_message c m z.time ≡ discrete_take (refilled_bucket c m z.time)
    take_is = take_message_lem c on m z.time fair.bounded.within_capacity

    next_phase : Phase c.peer_message_interval_ms (refilled_when c m z.time) z.time (laps_of c.peer_message_interval_ms m.last_refill_ms z.time (some_interval c on)) rest'
    next_phase =
        phase_next c.peer_message_interval_ms m.last_refill_ms z.time (some_interval c on)
        (let p = fair.phase in omega arith)

    turn_more : NotMore (message_terms c) (newest log) z.time fair.rest rest' (passed c m z.time)
    turn_more = not_more c.peer_message_interval_ms m.last_refill_ms z.time (some_interval c on) (newest log) fair.laps fair.rest fair.phase later

    turn_less : Near c.peer_message_interval_ms z.time log → NotLess (message_terms c) log z.time fair.rest rest' (passed c m z.time)
    unfolding Near
    turn_less = near_turn log fair.laps fair.rest fair.phase later
      where
        near_turn : (l : List Allow) (laps rest : ℕ) → Phase c.peer_message_interval_ms m.last_refill_ms (newest l) laps rest → newest l ≤ z.time
            → Near c.peer_message_interval_ms z.time l
            → NotLess (message_terms c) l z.time rest rest' (passed c m z.time)
        near_turn [] laps rest phase k near = tt
        near_turn (y ∷ l) laps rest phase k near =
            not_less c.peer_message_interval_ms m.last_refill_ms z.time (some_interval c on) y.time laps rest phase k near.0

    -- an Allow
    pub messages_next : passes (take_message c m z.time).answer ≡ true → FairMessages c (messages_left (take_message c m z.time).state) (z ∷ log)
    messages_next allowed =
        let enough = taken_yes (refilled_bucket c m z.time) (rw take_is at allowed) in
        rw (take_is, taken_is (refilled_bucket c m z.time) enough)
        (record {
          laps = laps_of c.peer_message_interval_ms m.last_refill_ms z.time (some_interval c on);
          rest = rest';
          phase = next_phase;
          bounded =
              bounded_next (message_terms c) m.available fair.rest log z rest' (passed c m z.time) fair.bounded ordered later
              (let p = next_phase in omega arith)
              turn_more
              enough;
          backed = λ near.
              backed_next (message_terms c) m.available fair.rest z rest' (passed c m z.time) log (fair.backed (near_each c.peer_message_interval_ms z.time log near)) (turn_less near) enough;
        })

    -- a call within the smaller allowance
    pub messages_enough : Near c.peer_message_interval_ms z.time log
        → WithinParts (message_terms c) (c.peer_message_interval_ms * c.peer_message_burst + 1 * z.time) 0 0 (z ∷ log)
        → passes (take_message c m z.time).answer ≡ true
    messages_enough near parts =
        let enough : 1 ≤ refilled c m z.time =
        backed_enough (message_terms c) m.available fair.rest z rest' (passed c m z.time) log (fair.backed (near_each c.peer_message_interval_ms z.time log near)) (turn_less near) next_phase.less parts
        in
        rw (take_is, taken_is (refilled_bucket c m z.time) enough)

-- the Allows of a log are its charges
allows_charged : (from to : ℕ) (log : List Allow) → allows from to log ≡ charged (λ z. 1) from to log
unfolding allows charged
allows_charged from to [] = refl
allows_charged from to (z ∷ log) = rw (allows_charged from to log)

-- the upper bound
pub messages_most : (c : PeerMessagePolicyConfig) → message_limit_disabled c ≡ false → (m : Level) (log : List Allow) → FairMessages c m log → (from to : ℕ)
    → allows from to log ≤ c.peer_message_burst + ((to - from) + (c.peer_message_interval_ms - 1)) / c.peer_message_interval_ms
messages_most c on m log fair from to =
    rw (allows_charged from to log)
    (rounded c.peer_message_interval_ms c.peer_message_burst (charged (λ z. 1) from to log) (to - from) (some_interval c on) (fair.bounded.between from to))
  where
    rounded : (interval burst count time : ℕ) → 0 < interval → interval * count ≤ interval * burst + 1 * time + (interval - 1) → count ≤ burst + (time + (interval - 1)) / interval
    rounded interval burst count time some h =
        let k : (count - burst) * interval ≤ time + (interval - 1) =
        rw (mul_comm (count - burst) interval, mul-sub interval count burst) (omega arith)
        in
        omega (arith, (le-div_iff_mul-le some).1 k)
