-- The amounts that the byte bucket's functions compute are those of its definition. Assumes nothing.
use mathlib.Core.Path.{◌≡◌, refl, sym, ◌∙◌, ap}
use mathlib.Core.Bool.{Bool, true, false, ◌||◌, cond, true≢false}
use Prim.Native.Nat.{ℕ, zero, suc, ◌-◌, ◌^◌, ◌<◌}
use native.Mathlib.Nat.{min-le_right, min-eq_left, lt_of_lt_of_le}
use native.Mathlib.Omega.{arith}
use lib.Dec.{eqb, leb, lit≤}
use lib.IntN.{ℤ, pos, negsuc, ◌+ℤ◌}
use lib.Signed.{lt_z}
use Rattle.truths.specs.TruthLaws.{either}
use Rattle.amount.specs.declared.Amount.{Amount}
use Rattle.amount.specs.Amount.{value, amount_of, saturated, lesser}
use Rattle.amount.specs.Private.{Is}
use Rattle.amount.specs.AmountLaws.{Whole, saturated_pos}
use Rattle.amount.specs.AmountOfLaws.{is_amount_of}
use Rattle.bucket_terms.specs.declared.limit.ByteRateLimitConfig.{ByteRateLimitConfig}
use Rattle.bucket_bytes.specs.declared.bytes.ByteTokenBucket.{ByteTokenBucket}
use Rattle.bucket_terms.specs.Limit.{byte_disabled}
use Rattle.bucket_bytes.specs.ByteBucket.{byte_refill}

saturated_twice : (z : ℤ) → saturated (saturated z) ≡ saturated z
unfolding saturated
saturated_twice (pos n) = ap pos (min-eq_left (min-le_right n (2 ^ 127 - 1)))
saturated_twice (negsuc n) = ap negsuc (min-eq_left (min-le_right n (2 ^ 127 - 1)))

-- the smaller of an i128 and a cap is an i128
capped : (z : ℤ) (n : ℕ) → n < 2 ^ 127 → saturated (lesser (saturated z) (pos n)) ≡ lesser (saturated z) (pos n)
capped z n h = either (λ (x : ℤ). saturated x ≡ x) (lt_z (saturated z) (pos n)) (saturated_twice z) (saturated_pos h)

-- a sum that saturates, then a cap
pub topped : (available : Amount) (g cap : ℕ) {gain sum level : Amount} → cap < 2 ^ 64 → Whole level → Is gain (pos g) → Is sum (saturated (value available +ℤ value gain)) → Is level (saturated (lesser (value sum) (pos cap))) → level ≡ amount_of (lesser (saturated (value available +ℤ pos g)) (pos cap))
topped available g cap {gain} {sum} {level} h w more added least =
    let sum_is : value sum ≡ saturated (value available +ℤ pos g) = rw more.stands at added.stands in
    let level-is : value level ≡ lesser (saturated (value available +ℤ pos g)) (pos cap) =
    (rw sum_is at least.stands) ∙ capped (value available +ℤ pos g) cap (lt_of_lt_of_le h (lit≤ tt))
    in
    is_amount_of w (record { stands = level-is; plain = least.plain })

-- ════ A bucket that is on has a rate, and a refill keeps the settings ════

rate_on : (rate : ℕ) (b : Bool) → (eqb rate 0 || b) ≡ false → 0 < rate
rate_on zero b h = absurd (true≢false h)
rate_on (suc n) b h = omega arith

kept : (b : Bool) (x y : ByteTokenBucket) (c : ByteRateLimitConfig) → x.config ≡ c → y.config ≡ c → (cond b x y).config ≡ c
kept true x y c h k = h
kept false x y c h k = k

-- a refilled bucket keeps its settings
pub refill_config : (b : ByteTokenBucket) (t : ℕ) → (byte_refill b t).config ≡ b.config
unfolding byte_refill
refill_config b t = kept (byte_disabled b.config || leb t b.last_refill_ms) b _ b.config refl refl

-- a bucket that is on still has a rate after a refill
pub refilled_rate : (b : ByteTokenBucket) (t : ℕ) {after : ByteTokenBucket} {off : Bool} → after ≡ byte_refill b t → off ≡ byte_disabled b.config → off ≡ false → 0 < after.config.rate_bytes_per_sec
refilled_rate b t {after} e o f =
    let same : after.config ≡ b.config = ap (λ (x : ByteTokenBucket). x.config) e ∙ refill_config b t in
    rw same (rate_on b.config.rate_bytes_per_sec (eqb b.config.burst_bytes 0) (sym o ∙ f))
