-- The law of the byte bucket: `rate` parts of a thousandth of a byte each millisecond, of which one refill loses up to 999. In order:
-- what a take gives; the bucket and its log. Assumes nothing.
use Rattle.std.proofs.Math.Path.{◌≡◌}
use Rattle.std.specs.Prelude.{refl, Bool, List, [], ◌∷◌, ℕ, ◌+◌, ◌-◌, ◌*◌, ◌/◌, ◌^◌, ◌<◌, ◌≤◌, min, leb, ltb}
use Rattle.std.proofs.Common.{◌∙◌, mul_comm, mul-le-mul_left, arith}
use Rattle.std.proofs.Math.Bool.{true, false}
use Rattle.std.proofs.lemmas.Bool.{false≢true}
use Rattle.std.proofs.Math.Nat.{mul-sub}
use Rattle.std.specs.Prelude.{Ok}
use borrow.Author.Tests.{leb-true, ltb-false, le-ltb}
use Rattle.truths.specs.TruthLaws.{by_test}
use Rattle.bucket_terms.specs.Limit.{byte_disabled}
use Rattle.bucket_bytes.specs.ByteBucket.{byte_try_consume}
use Rattle.bucket_bytes.specs.Natural.{refilled_to, refilled_at, natural_take}
use Rattle.bucket_bytes.specs.NaturalLaws.{value_of}
use Rattle.bucket_bytes.proofs.NaturalLaws.{try_consume_natural}
use Rattle.peer_settings.specs.declared.config.PeerMessagePolicyConfig.{PeerMessagePolicyConfig}
use Rattle.peer_state.specs.declared.entry.Level.{Level}
use Rattle.peer_settings.specs.Config.{bytes_of}
use Rattle.peer_settings.specs.Fits.{ConfigFits}
use Rattle.peer_state.specs.Entry.{level}
use Rattle.peer_verdict.specs.Verdict.{passes, byte_bucket, bytes_left, take_bytes}
use Rattle.promises.specs.Lives.{Allow, bytes_allowed}
use Rattle.promises.proofs.BucketLaws.{newest, InOrder, charged, Terms, Bounded, bounded_new, bounded_next, NotMore, NotLess, WithinParts, Backed, backed_next, backed_enough}

-- ════ What a take gives, where the limit is on ════

-- the bytes that the time since the last refill brings
abbrev pub gained : PeerMessagePolicyConfig → Level → ℕ → ℕ
gained c b now = (now - b.last_refill_ms) * c.peer_message_rate_bytes_per_sec / 1000

-- what a refill leaves
abbrev pub refilled : PeerMessagePolicyConfig → Level → ℕ → ℕ
refilled c b now = min (b.available + gained c b now) c.peer_message_burst_bytes

-- a refill at the time of the last one brings nothing
refilled_same : (rate burst left last now : ℕ) → left ≤ burst → refilled_to rate burst left last now ≡ min (left + (now - last) * rate / 1000) burst
unfolding refilled_to
refilled_same rate burst left last now fits =
    by_test (leb now last)
    (λ t. let none : now - last ≡ 0 = let h = leb-true now last t in omega arith in
    rw (t, none) (omega arith))
    (λ t. rw t)

refilled_when_lem : (last now : ℕ) → last ≤ now → refilled_at last now ≡ now
refilled_when_lem last now h = by_test (leb now last) (λ t. rw t (let k = leb-true now last t in omega arith)) (λ t. rw t)

module _ (c : PeerMessagePolicyConfig) (config : ConfigFits c) (on : byte_disabled (bytes_of c) ≡ false) (b : Level) (size now : ℕ)
    (fits : b.available ≤ c.peer_message_burst_bytes)
    (size_fits : size < 2 ^ 64)
    (later : b.last_refill_ms ≤ now) where
  consumed : byte_try_consume (byte_bucket c b) size now ≡ natural_take (bytes_of c) (refilled c b now) now size
  consumed =
      try_consume_natural (bytes_of c) b.available b.last_refill_ms size now on fits config.burst_bytes size_fits
      ∙ rw (refilled_same c.peer_message_rate_bytes_per_sec c.peer_message_burst_bytes b.available b.last_refill_ms now fits, refilled_when_lem b.last_refill_ms now later)

  -- enough is there: so much is left
  pub takes : size ≤ refilled c b now → take_bytes c b size now ≡ record { state = byte_bucket c (level (refilled c b now - size) now); answer = Ok tt }
  unfolding take_bytes
  takes enough = rw (consumed, le-ltb (refilled c b now) size enough)

  -- and is what the entry keeps
  pub leaves : bytes_left (byte_bucket c (level (refilled c b now - size) now)) ≡ level (refilled c b now - size) now
  leaves = rw (value_of (refilled c b now - size) (let f = config.burst_bytes in omega arith))

  -- the bytes were there if the take is not short
  pub enough : passes (take_bytes c b size now).answer ≡ true → size ≤ refilled c b now
  unfolding take_bytes
  enough allowed =
      by_test (ltb (refilled c b now) size)
      (λ t. let no : ◌≡◌ {A = Bool} false true = rw (consumed, t) at allowed in absurd (false≢true no))
      (λ t. ltb-false (refilled c b now) size t)

-- a bucket that is off never falls short
pub bytes_off : (c : PeerMessagePolicyConfig) (b : Level) (size now : ℕ) → byte_disabled (bytes_of c) ≡ true → passes (take_bytes c b size now).answer ≡ true
unfolding take_bytes byte_try_consume
bytes_off c b size now off = rw off

-- ════ The bucket and its log ════

abbrev pub byte_terms : PeerMessagePolicyConfig → Terms
byte_terms c =
    record {
      parts = 1000;
      speed = c.peer_message_rate_bytes_per_sec;
      loss = 999;
      slack = 0;
      capacity = c.peer_message_burst_bytes;
      charge = λ z. z.size;
    }

-- what a byte bucket and the log of its life always satisfy, where the limit is on
pub record FairBytes (c : PeerMessagePolicyConfig) (b : Level) (log : List Allow) : Type 0 where
  pub last : b.last_refill_ms ≡ newest log
  pub bounded : Bounded (byte_terms c) b.available 0 log
  pub backed : Backed (byte_terms c) b.available 0 log

pub bytes_new : (c : PeerMessagePolicyConfig) → FairBytes c (level c.peer_message_burst_bytes 0) []
bytes_new c = record { last = refl; bounded = bounded_new (byte_terms c); backed = refl }

-- a refill rounds down
not_more : (rate before now : ℕ) → before ≤ now → 1000 * ((now - before) * rate / 1000) + 0 + rate * before ≤ 0 + rate * now
not_more rate before now h = omega (arith, mul_comm (now - before) rate, mul-sub rate now before, mul-le-mul_left rate h)

-- by less than one
not_less : (rate before now : ℕ) → 0 + rate * now ≤ 1000 * ((now - before) * rate / 1000) + 0 + 999 + rate * before
not_less rate before now = omega (arith, mul_comm (now - before) rate, mul-sub rate now before)

module _ (c : PeerMessagePolicyConfig) (config : ConfigFits c) (on : byte_disabled (bytes_of c) ≡ false)
    (b : Level) (log : List Allow) (z : Allow) (size_fits : z.size < 2 ^ 64) (fair : FairBytes c b log) (ordered : InOrder log) (later : newest log ≤ z.time) where
  after_last : b.last_refill_ms ≤ z.time
  after_last = rw fair.last later

  takes_it : z.size ≤ refilled c b z.time → take_bytes c b z.size z.time ≡ record { state = byte_bucket c (level (refilled c b z.time - z.size) z.time); answer = Ok tt }
  takes_it = takes c config on b z.size z.time fair.bounded.within_capacity size_fits after_last

  leaves_it : bytes_left (byte_bucket c (level (refilled c b z.time - z.size) z.time)) ≡ level (refilled c b z.time - z.size) z.time
  leaves_it = leaves c config on b z.size z.time fair.bounded.within_capacity size_fits after_last

  turn_more : NotMore (byte_terms c) (newest log) z.time 0 0 (gained c b z.time)
  turn_more = rw fair.last (not_more c.peer_message_rate_bytes_per_sec (newest log) z.time later)

  turn_less : NotLess (byte_terms c) log z.time 0 0 (gained c b z.time)
  turn_less = rw fair.last (by_log log)
    where
      by_log : (l : List Allow) → NotLess (byte_terms c) l z.time 0 0 ((z.time - newest l) * c.peer_message_rate_bytes_per_sec / 1000)
      by_log [] = tt
      by_log (y ∷ l) = not_less c.peer_message_rate_bytes_per_sec y.time z.time

  -- an Allow
  pub bytes_next : passes (take_bytes c b z.size z.time).answer ≡ true → FairBytes c (bytes_left (take_bytes c b z.size z.time).state) (z ∷ log)
  bytes_next allowed =
      let there = enough c config on b z.size z.time fair.bounded.within_capacity size_fits after_last allowed in
      rw (takes_it there, leaves_it)
      (record {
        last = refl;
        bounded = bounded_next (byte_terms c) b.available 0 log z 0 (gained c b z.time) fair.bounded ordered later (omega arith) turn_more there;
        backed = backed_next (byte_terms c) b.available 0 z 0 (gained c b z.time) log fair.backed turn_less there;
      })

  -- a call within the smaller allowance
  pub bytes_enough : WithinParts (byte_terms c) (1000 * c.peer_message_burst_bytes + c.peer_message_rate_bytes_per_sec * z.time) 0 0 (z ∷ log) → passes (take_bytes c b z.size z.time).answer ≡ true
  bytes_enough parts =
      rw (takes_it (backed_enough (byte_terms c) b.available 0 z 0 (gained c b z.time) log fair.backed turn_less (omega arith) parts))

-- the bytes of a log are its charges
bytes_charged : (from to : ℕ) (log : List Allow) → bytes_allowed from to log ≡ charged (λ z. z.size) from to log
unfolding bytes_allowed charged
bytes_charged from to [] = refl
bytes_charged from to (z ∷ log) = rw (bytes_charged from to log)

-- the upper bound
pub bytes_most : (c : PeerMessagePolicyConfig) (b : Level) (log : List Allow) → FairBytes c b log → (from to : ℕ)
    → bytes_allowed from to log ≤ c.peer_message_burst_bytes + c.peer_message_rate_bytes_per_sec * (to - from) / 1000
bytes_most c b log fair from to = rw (bytes_charged from to log) (omega (arith, fair.bounded.between from to))
