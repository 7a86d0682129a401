-- A byte bucket that is not in debt gives the same on plain naturals. Assumes nothing.
use Rattle.std.specs.Prelude.{◌≡◌, refl, Bool, true, false, cond, ℕ, ◌+◌, ◌-◌, ◌*◌, ◌/◌, ◌^◌, ◌<◌, ◌≤◌, min, leb, pos, ◌+ℤ◌}
use Rattle.std.proofs.Common.{ap, lt_of_lt_of_le, le_trans, le_of_lt, arith, lit≤}
use Rattle.std.proofs.Math.Nat.{min-le_right}
use Rattle.amount.specs.Amount.{value, amount_of, saturated, lesser}
use Rattle.amount.specs.AmountLaws.{saturated_sum_pos, lesser_pos}
use Rattle.amount.specs.AmountOfLaws.{value_amount_of}
use Rattle.bucket_terms.specs.declared.limit.ByteRateLimitConfig.{ByteRateLimitConfig}
use Rattle.bucket_terms.specs.Limit.{byte_disabled}
use Rattle.bucket_bytes.specs.ByteBucket.{ms_per_sec, byte_level, byte_refill}
use Rattle.bucket_bytes.specs.Natural.{refilled_to, refilled_at}

-- a number that fits a u64 is what its amount stands for
pub value_of : (n : ℕ) → n < 2 ^ 64 → value (amount_of (pos n)) ≡ pos n
value_of n h = value_amount_of (pos n) (lt_of_lt_of_le h (lit≤ tt))

min_cap : (M x b : ℕ) → b ≤ M → min (min x M) b ≡ min x b
min_cap M x b h = omega arith

-- a sum that saturates, then a cap, on naturals
capped_sum : (a g burst : ℕ) → burst < 2 ^ 64 → lesser (saturated (pos a +ℤ pos g)) (pos burst) ≡ pos (min (a + g) burst)
capped_sum a g burst h =
    rw (saturated_sum_pos, lesser_pos)
    (ap pos (min_cap (2 ^ 127 - 1) (a + g) burst (le_trans (le_of_lt h) (lit≤ tt))))

level_by : (b : Bool) (c : ByteRateLimitConfig) (x y last now : ℕ) → cond b (byte_level c (pos x) last) (byte_level c (pos y) now) ≡ byte_level c (pos (cond b x y)) (cond b last now)
level_by true c x y last now = refl
level_by false c x y last now = refl

-- a refill of a bucket that is on
pub refill_natural : (c : ByteRateLimitConfig) (a last now : ℕ) → byte_disabled c ≡ false → a < 2 ^ 64 → c.burst_bytes < 2 ^ 64 → byte_refill (byte_level c (pos a) last) now ≡ byte_level c (pos (refilled_to c.rate_bytes_per_sec c.burst_bytes a last now)) (refilled_at last now)
unfolding byte_refill refilled_to
refill_natural c a last now on h k =
    rw (value_of a h, capped_sum a ((now - last) * c.rate_bytes_per_sec / ms_per_sec) c.burst_bytes k, on)
    (level_by (leb now last) c a (min (a + (now - last) * c.rate_bytes_per_sec / ms_per_sec) c.burst_bytes) last now)

-- what a refill leaves is within the burst
pub refilled_within : (rate burst a last now : ℕ) → a ≤ burst → refilled_to rate burst a last now ≤ burst
unfolding refilled_to
refilled_within rate burst a last now h =
    within (leb now last) a (min (a + (now - last) * rate / ms_per_sec) burst) h (min-le_right (a + (now - last) * rate / ms_per_sec) burst)
  where
    within : {n : ℕ} (b : Bool) (x y : ℕ) → x ≤ n → y ≤ n → cond b x y ≤ n
    within true x y h k = h
    within false x y h k = k
