-- Laws of a take out of a bucket: no level passes its capacity, a message bucket that does not pass falls short by one message, and a
-- byte bucket that does not by something. They ask for no range of the numbers. Assumes nothing.
use Rattle.std.specs.Prelude.{◌≡◌, refl, true, false, ◌||◌, ℕ, zero, suc, ◌+◌, ◌-◌, ◌*◌, ◌/◌, ◌%◌, ◌^◌, ◌≤◌, ◌<◌, min, ltb, leb, eqb, ℤ, pos, negsuc, neg_ℤ, ◌+ℤ◌, ◌-ℤ◌}
use Rattle.std.proofs.Common.{true≢false, le_trans, le_of_lt, arith, ltb-true, le-leb, le-ltb, lit≤}
use Rattle.std.proofs.Math.Nat.{min-le_left, min-le_right}
use Rattle.std.specs.Int.Signed.{lt_z}
use Rattle.truths.specs.TruthLaws.{chosen}
use Rattle.amount_limbs.specs.Limbs.{digits}
use Rattle.amount.specs.Amount.{limbs, value, amount_of, is_i128, saturated, natural, lesser}
use Rattle.amount.specs.Private.{Is}
use Rattle.amount.specs.AmountOfLaws.{amount_of_is}
use Rattle.bucket_discrete.specs.declared.discrete.DiscreteTokenBucket.{DiscreteTokenBucket}
use Rattle.bucket_discrete.specs.Handed.{DiscreteConsumed}
use Rattle.bucket_bytes.specs.declared.bytes.ByteTokenBucket.{ByteTokenBucket}
use Rattle.bucket_bytes.specs.Handed.{ByteConsumed}
use Rattle.bucket_terms.specs.Limit.{byte_disabled}
use Rattle.bucket_discrete.specs.DiscreteBucket.{discrete_refill, discrete_take, discrete_try_consume}
use Rattle.bucket_bytes.specs.ByteBucket.{byte_sound, byte_refill, byte_take, byte_try_consume}
use Rattle.peer_settings.specs.declared.config.PeerMessagePolicyConfig.{PeerMessagePolicyConfig}
use Rattle.peer_state.specs.declared.entry.Level.{Level}
use Rattle.peer_settings.specs.Config.{message_limit_disabled, bytes_of}
use Rattle.peer_verdict.specs.Verdict.{passes, missing, message_bucket, messages_left, byte_bucket, bytes_left, take_message, take_bytes}

-- ════ The message bucket ════

discrete_refill_bounded : (b : DiscreteTokenBucket) (now : ℕ) → b.available ≤ b.capacity → (discrete_refill b now).available ≤ b.capacity
unfolding discrete_refill
discrete_refill_bounded b now h =
    let refill = (now - b.last_refill_ms) / b.interval_ms % 4294967296 in
    let P : DiscreteTokenBucket → Type 0 = λ x. x.available ≤ b.capacity in
    chosen P (eqb b.interval_ms 0 || (eqb b.capacity 0 || leb now b.last_refill_ms))
    (λ t. h)
    (λ t. chosen P (eqb refill 0) (λ z. h) (λ z. min-le_right (b.available + refill) b.capacity))

discrete_take_less : (b : DiscreteTokenBucket) → (discrete_take b).state.available ≤ b.available
unfolding discrete_take
discrete_take_less b =
    chosen (λ (r : DiscreteConsumed). r.state.available ≤ b.available) (eqb b.available 0) (λ t. omega arith) (λ t. omega arith)

-- a take leaves no more messages than the capacity
pub message_level : (c : PeerMessagePolicyConfig) (l : Level) (now : ℕ) → l.available ≤ c.peer_message_burst → (messages_left (take_message c l now).state).available ≤ c.peer_message_burst
unfolding take_message discrete_try_consume
message_level c l now h =
    chosen (λ (r : DiscreteConsumed). r.state.available ≤ c.peer_message_burst) (message_limit_disabled c)
    (λ off. h)
    (λ on.
    let refilled = discrete_refill (message_bucket c l) now in
    omega (arith, discrete_take_less refilled, discrete_refill_bounded (message_bucket c l) now h))

discrete_take_missing : (b : DiscreteTokenBucket) → passes (discrete_take b).answer ≡ false → missing (discrete_take b).answer ≡ 1
unfolding discrete_take
discrete_take_missing b =
    chosen (λ (r : DiscreteConsumed). passes r.answer ≡ false → missing r.answer ≡ 1) (eqb b.available 0) (λ t no. refl)
    (λ t no. absurd (true≢false no))

-- a message bucket that does not pass falls short by one message
pub message_missing : (c : PeerMessagePolicyConfig) (l : Level) (now : ℕ) → passes (take_message c l now).answer ≡ false → missing (take_message c l now).answer ≡ 1
unfolding take_message discrete_try_consume
message_missing c l now =
    chosen (λ (r : DiscreteConsumed). passes r.answer ≡ false → missing r.answer ≡ 1) (message_limit_disabled c)
    (λ off no. absurd (true≢false no))
    (λ on. discrete_take_missing (discrete_refill (message_bucket c l) now))

-- ════ The byte bucket ════

digits_limbs_most : (k n : ℕ) → digits (limbs k n) ≤ n
digits_limbs_most zero n = omega arith
digits_limbs_most (suc k) n =
    let rest : digits (limbs k (n / 4294967296)) ≤ n / 4294967296 = digits_limbs_most k (n / 4294967296) in
    omega arith

natural_minus_nothing : (n : ℕ) → natural (neg_ℤ (pos n)) ≡ 0
natural_minus_nothing zero = refl
natural_minus_nothing (suc n) = refl

natural_amount_of : (z : ℤ) → natural (value (amount_of z)) ≤ natural z
unfolding amount_of value
natural_amount_of (pos n) = digits_limbs_most 4 n
natural_amount_of (negsuc n) = omega (arith, natural_minus_nothing (digits (limbs 4 (suc n))))

natural_saturated : (z : ℤ) → natural (saturated z) ≤ natural z
unfolding saturated
natural_saturated (pos n) = min-le_left n (2 ^ 127 - 1)
natural_saturated (negsuc n) = omega arith

natural_minus : (z : ℤ) (n : ℕ) → natural (z -ℤ pos n) ≤ natural z
natural_minus (pos a) zero = omega arith
natural_minus (pos a) (suc n) =
    chosen (λ (z : ℤ). natural z ≤ a) (ltb a (suc n)) (λ t. omega arith) (λ t. omega arith)
natural_minus (negsuc a) zero =
    chosen (λ (z : ℤ). natural z ≤ 0) (ltb 0 (suc a)) (λ t. omega arith) (λ t. omega arith)
natural_minus (negsuc a) (suc n) = omega arith

natural_lesser : (z : ℤ) (b : ℕ) → natural (lesser z (pos b)) ≤ b
natural_lesser (pos a) b =
    chosen (λ (z : ℤ). natural z ≤ b) (ltb a b) (λ t. omega (arith, ltb-true a b t)) (λ t. omega arith)
natural_lesser (negsuc a) b = omega arith

-- a level within the burst makes a bucket that is never refused
pub level_sound : (c : PeerMessagePolicyConfig) (l : Level) → l.available < 18446744073709551616 → l.available ≤ c.peer_message_burst_bytes → byte_sound (byte_bucket c l) ≡ true
unfolding byte_sound is_i128
level_sound c l small h =
    let is : Is (amount_of (pos l.available)) (pos l.available) =
    amount_of_is (pos l.available) (le_trans small (lit≤ tt))
    in
    rw (
      is.stands,
      is.plain,
      le-leb l.available (2 ^ 127 - 1) (le_trans (le_of_lt small) (lit≤ tt)),
      le-ltb c.peer_message_burst_bytes l.available h,
    )

abbrev held : ByteTokenBucket → ℕ
held b = natural (value b.available_bytes)

byte_refill_bounded : (b : ByteTokenBucket) (now : ℕ) → held b ≤ b.config.burst_bytes → held (byte_refill b now) ≤ b.config.burst_bytes
unfolding byte_refill
byte_refill_bounded b now h =
    let refill = (now - b.last_refill_ms) * b.config.rate_bytes_per_sec / 1000 in
    let filled = saturated (value b.available_bytes +ℤ pos refill) in
    chosen (λ (x : ByteTokenBucket). held x ≤ b.config.burst_bytes) (byte_disabled b.config || leb now b.last_refill_ms)
    (λ t. h)
    (λ t.
    omega (
      arith,
      natural_amount_of (lesser filled (pos b.config.burst_bytes)),
      natural_lesser filled b.config.burst_bytes,
    ))

byte_take_less : (b : ByteTokenBucket) (bytes : ℕ) → held (byte_take b bytes).state ≤ held b
unfolding byte_take
byte_take_less b bytes =
    let left = value b.available_bytes -ℤ pos bytes in
    chosen (λ (r : ByteConsumed). held r.state ≤ held b) (lt_z (value b.available_bytes) (pos bytes))
    (λ t. omega arith)
    (λ t.
    omega
    (arith, natural_amount_of (saturated left), natural_saturated left, natural_minus (value b.available_bytes) bytes))

-- a take leaves no more bytes than the burst
pub bytes_level : (c : PeerMessagePolicyConfig) (l : Level) (size now : ℕ) → l.available ≤ c.peer_message_burst_bytes → (bytes_left (take_bytes c l size now).state).available ≤ c.peer_message_burst_bytes
unfolding take_bytes byte_try_consume
bytes_level c l size now h =
    let b = byte_bucket c l in
    let full : held b ≤ c.peer_message_burst_bytes = omega (arith, natural_amount_of (pos l.available)) in
    chosen (λ (r : ByteConsumed). held r.state ≤ c.peer_message_burst_bytes) (byte_disabled (bytes_of c))
    (λ off. full)
    (λ on. omega (arith, byte_take_less (byte_refill b now) size, byte_refill_bounded b now full))

min_positive : {a b : ℕ} → 1 ≤ a → 1 ≤ b → 1 ≤ min a b
min_positive h k = omega arith

-- what is missing up to n is at least 1 where anything is
deficit_positive : (z : ℤ) (n : ℕ) → lt_z z (pos n) ≡ true → 1 ≤ natural (saturated (pos n -ℤ z))
unfolding saturated
deficit_positive (pos zero) n h = min_positive (omega (arith, ltb-true 0 n h)) (lit≤ tt)
deficit_positive (pos (suc m)) n h =
    chosen (λ (z : ℤ). 1 ≤ natural (saturated z)) (ltb n (suc m))
    (λ t. absurd (omega (arith, ltb-true n (suc m) t, ltb-true (suc m) n h)))
    (λ t. min_positive (omega (arith, ltb-true (suc m) n h)) (lit≤ tt))
deficit_positive (negsuc m) n h = min_positive (omega arith) (lit≤ tt)

byte_take_missing : (b : ByteTokenBucket) (bytes : ℕ) → passes (byte_take b bytes).answer ≡ false → 1 ≤ missing (byte_take b bytes).answer
unfolding byte_take
byte_take_missing b bytes =
    chosen (λ (r : ByteConsumed). passes r.answer ≡ false → 1 ≤ missing r.answer)
    (lt_z (value b.available_bytes) (pos bytes))
    (λ t no. min_positive (deficit_positive (value b.available_bytes) bytes t) (lit≤ tt))
    (λ t no. absurd (true≢false no))

-- a byte bucket that does not pass falls short by something
pub bytes_missing : (c : PeerMessagePolicyConfig) (l : Level) (size now : ℕ) → passes (take_bytes c l size now).answer ≡ false → 1 ≤ missing (take_bytes c l size now).answer
unfolding take_bytes byte_try_consume
bytes_missing c l size now =
    chosen (λ (r : ByteConsumed). passes r.answer ≡ false → 1 ≤ missing r.answer) (byte_disabled (bytes_of c))
    (λ off no. absurd (true≢false no))
    (λ on. byte_take_missing (byte_refill (byte_bucket c l) now) size)
