-- A sound byte bucket stays sound, whatever is done with it: each operation leaves it as it was, or at a level of its own settings that
-- is sound. In order: levels; what an operation leaves; the operations. Assumes nothing.
use Rattle.std.specs.Prelude.{◌≡◌, refl, Bool, true, false, ◌&&◌, ◌||◌, cond, ltb, negsuc, ◌+ℤ◌, ◌-ℤ◌}
use Rattle.std.proofs.Common.{ap, ◌∙◌, le_trans, le_of_lt, le_refl, sub-le, arith, leb-true, le-leb, ltb-true, ltb-false, le-ltb, lit≤}
use Prim.Native.Nat.{ℕ, zero, suc, ◌+◌, ◌-◌, ◌*◌, ◌/◌, ◌^◌, ◌<◌, ◌≤◌, min}
use Rattle.std.proofs.Math.Nat.{min-le_left}
use Rattle.std.proofs.lemmas.Bool.{not-true}
use Rattle.std.proofs.Math.Dec.{leb}
use Rattle.std.proofs.Math.IntN.{ℤ, pos, sub_ℕ}
use Rattle.std.specs.Int.Signed.{lt_z}
use Rattle.amount.specs.Amount.{value, is_i128, in_range, saturated, lesser}
use Rattle.amount.specs.AmountLaws.{saturated_in_range}
use Rattle.amount.specs.AmountOfLaws.{magnitude, amount_of_is}
use Rattle.bucket_terms.specs.declared.limit.ByteRateLimitConfig.{ByteRateLimitConfig}
use Rattle.bucket_terms.specs.Limit.{byte_disabled}
use Rattle.bucket_bytes.specs.declared.bytes.ByteTokenBucket.{ByteTokenBucket}
use Rattle.bucket_bytes.specs.Handed.{ByteConsumed}
use Rattle.bucket_bytes.specs.ByteBucket.{ms_per_sec, byte_sound, byte_level, byte_new, byte_refill, byte_taken, byte_take, byte_try_consume, byte_reserve, byte_given_back, byte_refund}

by_cases : {B : Type 0} (t : Bool) → (t ≡ true → B) → (t ≡ false → B) → B
by_cases true a b = a refl
by_cases false a b = b refl

second : (a b : Bool) → (a && b) ≡ true → b ≡ true
second true b h = h
second false b h = let z : ◌≡◌ {A = ℕ} 0 1 = cc in absurd (omega arith)

-- ════ Levels ════

less_than_twice : (M n : ℕ) → 0 < M → n ≤ M - 1 → suc n < 2 * M
less_than_twice M n h k = omega arith

range_below : (z : ℤ) → in_range z ≡ true → magnitude z < 2 ^ 128
range_below (pos n) h =
    le_of_lt (less_than_twice (2 ^ 127) n (lit≤ tt) (leb-true n (2 ^ 127 - 1) h))
range_below (negsuc n) h = less_than_twice (2 ^ 127) n (lit≤ tt) (leb-true n (2 ^ 127 - 1) h)

-- an integer in range and within the burst
level_sound : (c : ByteRateLimitConfig) (z : ℤ) (last : ℕ) → in_range z ≡ true → lt_z (pos c.burst_bytes) z ≡ false → byte_sound (byte_level c z last) ≡ true
unfolding byte_sound is_i128
level_sound c z last range within =
    let is = amount_of_is z (range_below z range) in
    rw (is.stands, is.plain, range, within)

-- what a sound bucket has is within its burst
pub sound_within : (b : ByteTokenBucket) → byte_sound b ≡ true → lt_z (pos b.config.burst_bytes) (value b.available_bytes) ≡ false
unfolding byte_sound
sound_within b h = not-true (lt_z (pos b.config.burst_bytes) (value b.available_bytes)) (second (is_i128 b.available_bytes) _ h)

-- capped by the burst
capped_range : (z : ℤ) (burst : ℕ) → burst < 2 ^ 64 → in_range z ≡ true → in_range (lesser z (pos burst)) ≡ true
capped_range z burst h range = go (lt_z z (pos burst))
  where
    go : (t : Bool) → in_range (cond t z (pos burst)) ≡ true
    go true = range
    go false = le-leb burst (2 ^ 127 - 1) (le_trans (le_of_lt h) (lit≤ tt))

less_not_more : (z : ℤ) (burst : ℕ) → lt_z z (pos burst) ≡ true → lt_z (pos burst) z ≡ false
less_not_more (pos n) burst h = le-ltb burst n (le_of_lt (ltb-true n burst h))
less_not_more (negsuc n) burst h = refl

capped_within : (z : ℤ) (burst : ℕ) → lt_z (pos burst) (lesser z (pos burst)) ≡ false
capped_within z burst = go (lt_z z (pos burst)) refl
  where
    go : (t : Bool) → lt_z z (pos burst) ≡ t → lt_z (pos burst) (cond t z (pos burst)) ≡ false
    go true e = less_not_more z burst e
    go false e = le-ltb burst burst (le_refl burst)

-- with bytes taken out
sub_within : (n m burst : ℕ) → n ≤ burst → lt_z (pos burst) (saturated (sub_ℕ n m)) ≡ false
unfolding saturated
sub_within n m burst h = go (ltb n m)
  where
    go : (t : Bool) → lt_z (pos burst) (saturated (cond t (negsuc (m - suc n)) (pos (n - m)))) ≡ false
    go true = refl
    go false = le-ltb burst (min (n - m) (2 ^ 127 - 1)) (le_trans (min-le_left (n - m) (2 ^ 127 - 1)) (le_trans (sub-le n m) h))

taken_within : (z : ℤ) (burst m : ℕ) → lt_z (pos burst) z ≡ false → lt_z (pos burst) (saturated (z -ℤ pos m)) ≡ false
unfolding saturated
taken_within (pos n) burst zero h =
    le-ltb burst (min (n + 0) (2 ^ 127 - 1)) (le_trans (min-le_left (n + 0) (2 ^ 127 - 1)) (omega (arith, ltb-false burst n h)))
taken_within (pos n) burst (suc m) h = sub_within n (suc m) burst (ltb-false burst n h)
taken_within (negsuc n) burst zero h = sub_within 0 (suc n) burst (omega arith)
taken_within (negsuc n) burst (suc m) h = refl

-- ════ What an operation leaves ════

-- what is left of a sound bucket: itself, or a level of its settings that is sound
pub data Left (b q : ByteTokenBucket) : Type 0 where
  as_it_was : q ≡ b → Left b q
  level : (z : ℤ) (last : ℕ) → q ≡ byte_level b.config z last → byte_sound q ≡ true → Left b q

-- the settings stay
pub left_config : {b q : ByteTokenBucket} → Left b q → q.config ≡ b.config
left_config (as_it_was e) = ap (λ (x : ByteTokenBucket). x.config) e
left_config (level z last e s) = ap (λ (x : ByteTokenBucket). x.config) e

-- it stays sound
pub left_sound : {b q : ByteTokenBucket} → byte_sound b ≡ true → Left b q → byte_sound q ≡ true
left_sound h (as_it_was e) = rw e h
left_sound h (level z last e s) = s

-- one operation after another
left_left : {b q r : ByteTokenBucket} → Left b q → Left q r → Left b r
left_left (as_it_was e) (as_it_was f) = as_it_was (f ∙ e)
left_left (as_it_was e) (level z last f s) = level z last (f ∙ ap (λ (x : ByteTokenBucket). byte_level x.config z last) e) s
left_left (level z last e s) (as_it_was f) = level z last (f ∙ e) (rw f s)
left_left (level y first e s) (level z last f t) = level z last (f ∙ ap (λ (x : ByteTokenBucket). byte_level x.config z last) e) t

-- one of two, whichever it is
either_left : {b : ByteTokenBucket} (t : Bool) (x y : ByteConsumed) → Left b x.state → Left b y.state → Left b (cond t x y).state
either_left true x y h k = h
either_left false x y h k = k

-- ════ The operations ════

-- a fresh bucket is sound
pub byte_new_sound : (c : ByteRateLimitConfig) → c.burst_bytes < 2 ^ 64 → byte_sound (byte_new c) ≡ true
byte_new_sound c h =
    level_sound c (pos c.burst_bytes) 0
    (le-leb c.burst_bytes (2 ^ 127 - 1) (le_trans (le_of_lt h) (lit≤ tt)))
    (le-ltb c.burst_bytes c.burst_bytes (le_refl c.burst_bytes))

-- up to the burst
capped_sound : (c : ByteRateLimitConfig) (z : ℤ) (last : ℕ) → c.burst_bytes < 2 ^ 64 → byte_sound (byte_level c (lesser (saturated z) (pos c.burst_bytes)) last) ≡ true
capped_sound c z last h =
    let burst : ℕ = c.burst_bytes in
    level_sound c (lesser (saturated z) (pos burst)) last (capped_range (saturated z) burst h (saturated_in_range z)) (capped_within (saturated z) burst)

module _ (b : ByteTokenBucket) (fits : b.config.burst_bytes < 2 ^ 64) where
  pub refill_left : (now : ℕ) → Left b (byte_refill b now)
  unfolding byte_refill
  refill_left now =
      let gain : ℕ = (now - b.last_refill_ms) * b.config.rate_bytes_per_sec / ms_per_sec in
      let z : ℤ = value b.available_bytes +ℤ pos gain in
      by_cases (byte_disabled b.config || leb now b.last_refill_ms) (λ t. as_it_was (rw t))
      (λ t. level (lesser (saturated z) (pos b.config.burst_bytes)) now (rw t) (rw t (capped_sound b.config z now fits)))

  given_left : (bytes : ℕ) → Left b (byte_given_back b bytes)
  given_left bytes =
      let z : ℤ = value b.available_bytes +ℤ pos bytes in
      level (lesser (saturated z) (pos b.config.burst_bytes)) b.last_refill_ms refl
      (capped_sound b.config z b.last_refill_ms fits)

module _ (b : ByteTokenBucket) (sound : byte_sound b ≡ true) where
  taken_left : (bytes : ℕ) → Left b (byte_taken b bytes)
  taken_left bytes =
      let z : ℤ = value b.available_bytes -ℤ pos bytes in
      level (saturated z) b.last_refill_ms refl
      (level_sound b.config (saturated z) b.last_refill_ms (saturated_in_range z)
      (taken_within (value b.available_bytes) b.config.burst_bytes bytes (sound_within b sound)))

  take_left : (bytes : ℕ) → Left b (byte_take b bytes).state
  unfolding byte_take
  take_left bytes = either_left _ _ _ (as_it_was refl) (taken_left bytes)

module _ (b : ByteTokenBucket) (fits : b.config.burst_bytes < 2 ^ 64) (sound : byte_sound b ≡ true) where
  refilled_sound : (now : ℕ) → byte_sound (byte_refill b now) ≡ true
  refilled_sound now = left_sound sound (refill_left b fits now)

  refilled_fits : (now : ℕ) → (byte_refill b now).config.burst_bytes < 2 ^ 64
  refilled_fits now = rw (left_config (refill_left b fits now)) fits

  pub try_consume_left : (bytes now : ℕ) → Left b (byte_try_consume b bytes now).state
  unfolding byte_try_consume
  try_consume_left bytes now =
      by_cases (byte_disabled b.config) (λ t. as_it_was (rw t))
      (λ t. rw t (left_left (refill_left b fits now) (take_left (byte_refill b now) (refilled_sound now) bytes)))

  pub reserve_left : (bytes now : ℕ) → Left b (byte_reserve b bytes now).state
  unfolding byte_reserve
  reserve_left bytes now =
      by_cases (byte_disabled b.config) (λ t. as_it_was (rw t))
      (λ t. rw t (left_left (refill_left b fits now) (taken_left (byte_refill b now) (refilled_sound now) bytes)))

  pub refund_left : (bytes now : ℕ) → Left b (byte_refund b bytes now)
  unfolding byte_refund
  refund_left bytes now =
      by_cases (byte_disabled b.config) (λ t. as_it_was (rw t))
      (λ t. rw t (left_left (refill_left b fits now) (given_left (byte_refill b now) (refilled_fits now) bytes)))

  pub byte_refill_stays_sound : (now : ℕ) → byte_sound (byte_refill b now) ≡ true
  byte_refill_stays_sound = refilled_sound

  pub byte_try_consume_stays_sound : (bytes now : ℕ) → byte_sound (byte_try_consume b bytes now).state ≡ true
  byte_try_consume_stays_sound bytes now = left_sound sound (try_consume_left bytes now)

  pub byte_reserve_stays_sound : (bytes now : ℕ) → byte_sound (byte_reserve b bytes now).state ≡ true
  byte_reserve_stays_sound bytes now = left_sound sound (reserve_left bytes now)

  pub byte_refund_stays_sound : (bytes now : ℕ) → byte_sound (byte_refund b bytes now) ≡ true
  byte_refund_stays_sound bytes now = left_sound sound (refund_left bytes now)
