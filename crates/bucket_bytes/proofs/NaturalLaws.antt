-- Bytes taken out of a byte bucket that is not in debt, on plain naturals. Assumes nothing.
use Rattle.std.specs.Prelude.{◌≡◌, false, ℕ, ◌-◌, ◌^◌, ◌<◌, ◌≤◌, min, ltb, ℤ, pos, ◌-ℤ◌}
use Rattle.std.proofs.Common.{ap, lt_of_le_of_lt, lt_of_lt_of_le, le_of_lt, sub-le, arith, ltb-true, ltb-false, lit≤}
use Rattle.std.specs.Prelude.{Ok, Err}
use Rattle.bucket_terms.specs.declared.answer.NotGiven.TheVariants as NotGiven
use Rattle.truths.specs.TruthLaws.{same_choice}
use Rattle.amount.specs.Amount.{saturated, natural}
use Rattle.amount.specs.AmountLaws.{saturated_pos, minus_pos}
use Rattle.bucket_terms.specs.declared.limit.ByteRateLimitConfig.{ByteRateLimitConfig}
use Rattle.bucket_terms.specs.Limit.{byte_disabled}
use Rattle.bucket_bytes.specs.ByteBucket.{byte_level, byte_take, byte_try_consume}
use Rattle.bucket_bytes.specs.Natural.{refilled_to, refilled_at, natural_take}
use Rattle.bucket_bytes.specs.NaturalLaws.{value_of, refill_natural, refilled_within}

short : (a bytes : ℕ) → a < bytes → bytes < 2 ^ 64 → min (natural (saturated (pos bytes -ℤ pos a))) 18446744073709551615 ≡ bytes - a
short a bytes h k =
    rw (minus_pos {n = bytes} {m = a} (le_of_lt h), saturated_pos {n = bytes - a} (lt_of_le_of_lt (sub-le bytes a) (lt_of_lt_of_le k (lit≤ tt))))
    (omega arith)

left : (a bytes : ℕ) → bytes ≤ a → a < 2 ^ 64 → saturated (pos a -ℤ pos bytes) ≡ pos (a - bytes)
left a bytes h k =
    rw (minus_pos {n = a} {m = bytes} h) (saturated_pos {n = a - bytes} (lt_of_le_of_lt (sub-le a bytes) (lt_of_lt_of_le k (lit≤ tt))))

-- bytes taken out of a bucket that is not in debt
pub take_natural : (c : ByteRateLimitConfig) (a last bytes : ℕ) → a < 2 ^ 64 → bytes < 2 ^ 64 → byte_take (byte_level c (pos a) last) bytes ≡ natural_take c a last bytes
unfolding byte_take
take_natural c a last bytes h k =
    rw (value_of a h)
    (same_choice (ltb a bytes)
    (λ e. ap (λ (n : ℕ). record { state = byte_level c (pos a) last; answer = Err (NotGiven.Short n) }) (short a bytes (ltb-true a bytes e) k))
    (λ e. ap (λ (z : ℤ). record { state = byte_level c z last; answer = Ok tt }) (left a bytes (ltb-false a bytes e) h)))

-- try_consume of a bucket that is on and not in debt
pub try_consume_natural : (c : ByteRateLimitConfig) (a last bytes now : ℕ) → byte_disabled c ≡ false → a ≤ c.burst_bytes → c.burst_bytes < 2 ^ 64 → bytes < 2 ^ 64 → byte_try_consume (byte_level c (pos a) last) bytes now ≡ natural_take c (refilled_to c.rate_bytes_per_sec c.burst_bytes a last now) (refilled_at last now) bytes
unfolding byte_try_consume
try_consume_natural c a last bytes now on h k f =
    let after = refilled_to c.rate_bytes_per_sec c.burst_bytes a last now in
    rw (on, refill_natural c a last now on (lt_of_le_of_lt h k) k)
    (take_natural c after (refilled_at last now) bytes
    (lt_of_le_of_lt (refilled_within c.rate_bytes_per_sec c.burst_bytes a last now h) k)
    f)
