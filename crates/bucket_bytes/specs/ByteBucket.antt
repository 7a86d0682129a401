-- ByteTokenBucket of gossip_policy.rs, written from its text, function by function and under its names. Definitions only; what it is on
-- plain naturals is proved in `NaturalLaws`.
--
-- Sums and differences of `available_bytes` saturate where the Rust's do. One more does here: the Rust's try_consume takes bytes out by
-- `-=`, and only where they are there, so that the saturating difference of reserve is the same. The Rust's cast of a refill to i128
-- stands nowhere here: a product of two u64 over 1000 is below 2^127, and the cast keeps it.
use Rattle.std.specs.Prelude.{◌≡◌, Bool, ◌&&◌, ◌||◌, not, cond, ℕ, ◌-◌, ◌*◌, ◌/◌, ◌%◌, min, leb, eqb, ℤ, pos, ◌+ℤ◌, ◌-ℤ◌}
use Rattle.std.specs.Int.Signed.{lt_z}
use Rattle.std.specs.Prelude.{Result, Ok, Err}
use Rattle.refusal.specs.declared.Refusal.{Refusal}
use Rattle.bucket_terms.specs.declared.answer.NotGiven.TheVariants as NotGiven
use Rattle.amount_limbs.specs.Limbs.{saturated_unsigned, ceil_div}
use Rattle.amount.specs.Amount.{amount_of, value, is_i128, saturated, natural, lesser}
use Rattle.bucket_terms.specs.declared.limit.ByteRateLimitConfig.{ByteRateLimitConfig}
use Rattle.bucket_terms.specs.Answers.{told}
use Rattle.bucket_terms.specs.Limit.{byte_disabled}
use Rattle.bucket_bytes.specs.declared.bytes.ByteTokenBucket.{ByteTokenBucket}
use Rattle.bucket_bytes.specs.Handed.{ByteRefilled}
use Rattle.bucket_bytes.specs.Handed.{ByteConsumed}
use Rattle.bucket_bytes.specs.Handed.{ByteReserved}

-- times are milliseconds, and the rate counts bytes in a second
abbrev pub ms_per_sec : ℕ
ms_per_sec = 1000

-- an i128, no minus zero, and never above the burst
unfoldable pub byte_sound : ByteTokenBucket → Bool
byte_sound b = is_i128 b.available_bytes && not (lt_z (pos b.config.burst_bytes) (value b.available_bytes))

-- the bucket with this much available, last refilled at this time
abbrev pub byte_level : ByteRateLimitConfig → ℤ → ℕ → ByteTokenBucket
byte_level c available last = record { config = c; available_bytes = amount_of available; last_refill_ms = last }

-- new: full, last refilled at 0, also where it is off
abbrev pub byte_new : ByteRateLimitConfig → ByteTokenBucket
byte_new c = byte_level c (pos c.burst_bytes) 0

-- refill: elapsed * rate over the milliseconds of a second, up to the burst; the fraction is lost; a bucket that is off never moves
unfoldable pub byte_refill : ByteTokenBucket → ℕ → ByteTokenBucket
byte_refill b now =
    let refill = (now - b.last_refill_ms) * b.config.rate_bytes_per_sec / ms_per_sec
    in cond (byte_disabled b.config || leb now b.last_refill_ms) b
    (byte_level b.config (lesser (saturated (value b.available_bytes +ℤ pos refill)) (pos b.config.burst_bytes))
    now)

-- how far the available bytes fall short: Rust's `bytes.saturating_sub(available).max(0) as u128`
abbrev pub byte_deficit : ByteTokenBucket → ℕ → ℕ
byte_deficit b bytes = natural (saturated (pos bytes -ℤ value b.available_bytes))

-- the bucket with `bytes` taken out of it, into debt where need be
abbrev pub byte_taken : ByteTokenBucket → ℕ → ByteTokenBucket
byte_taken b bytes =
    byte_level b.config (saturated (value b.available_bytes -ℤ pos bytes)) b.last_refill_ms

-- a refilled bucket asked for bytes: where they exceed what is available it says no and keeps its refill. By how much they exceed it
-- (at most 2^64 - 1) is more than the Rust's `false` says
unfoldable pub byte_take : ByteTokenBucket → ℕ → ByteConsumed
byte_take b bytes =
    cond (lt_z (value b.available_bytes) (pos bytes))
    (record { state = b; answer = Err (NotGiven.Short (min (byte_deficit b bytes) 18446744073709551615)) })
    (record { state = byte_taken b bytes; answer = Ok tt })

-- try_consume: a bucket that is off says yes
unfoldable pub byte_try_consume : ByteTokenBucket → ℕ → ℕ → ByteConsumed
byte_try_consume b bytes now =
    cond (byte_disabled b.config) (record { state = b; answer = Ok tt }) (byte_take (byte_refill b now) bytes)

-- peek_delay: the deficit's milliseconds at the rate, ROUNDED UP, then CUT to the low 64 bits as the Rust's `as u64` cuts them
abbrev pub byte_peek_delay : ByteTokenBucket → ℕ → ℕ
byte_peek_delay b bytes =
    cond (eqb (byte_deficit b bytes) 0) 0
    (ceil_div (saturated_unsigned (ms_per_sec * byte_deficit b bytes)) b.config.rate_bytes_per_sec % 18446744073709551616)

-- a refilled bucket that promises bytes: the delay, then the charge
abbrev pub byte_promised : ByteTokenBucket → ℕ → ByteReserved
byte_promised b bytes = record { state = byte_taken b bytes; answer = Ok (byte_peek_delay b bytes) }

-- reserve
unfoldable pub byte_reserve : ByteTokenBucket → ℕ → ℕ → ByteReserved
byte_reserve b bytes now =
    cond (byte_disabled b.config) (record { state = b; answer = Ok 0 }) (byte_promised (byte_refill b now) bytes)

-- peek_delay_after_refill: the Rust repeats the lines of refill and peek_delay here
unfoldable pub byte_peek_delay_after_refill : ByteTokenBucket → ℕ → ℕ → ℕ
byte_peek_delay_after_refill b bytes now = cond (byte_disabled b.config) 0 (byte_peek_delay (byte_refill b now) bytes)

-- a refilled bucket given bytes back, up to the burst
abbrev pub byte_given_back : ByteTokenBucket → ℕ → ByteTokenBucket
byte_given_back b bytes =
    byte_level b.config
    (lesser (saturated (value b.available_bytes +ℤ pos bytes)) (pos b.config.burst_bytes))
    b.last_refill_ms

-- refund
unfoldable pub byte_refund : ByteTokenBucket → ℕ → ℕ → ByteTokenBucket
byte_refund b bytes now = cond (byte_disabled b.config) b (byte_given_back (byte_refill b now) bytes)

-- has_debt
unfoldable pub byte_has_debt : ByteTokenBucket → ℕ → Bool
byte_has_debt b now = not (byte_disabled b.config) && lt_z (value (byte_refill b now).available_bytes) (pos 0)

-- ════ The calls ════
-- What each contract says of a call's answer. An unsound bucket is refused with 3 and comes back as it was.

unfoldable pub ByteRefillMeets : ByteTokenBucket → ℕ → ByteRefilled → Type 0
ByteRefillMeets b now r =
    r
    ≡ cond (byte_sound b)
    (record { state = byte_refill b now; answer = Ok tt })
    (record { state = b; answer = Err Refusal.Unsound })

unfoldable pub ByteTryConsumeMeets : ByteTokenBucket → ℕ → ℕ → ByteConsumed → Type 0
ByteTryConsumeMeets b bytes now r =
    r ≡ cond (byte_sound b) (byte_try_consume b bytes now) (record { state = b; answer = Err (NotGiven.Refused Refusal.Unsound) })

unfoldable pub ByteReserveMeets : ByteTokenBucket → ℕ → ℕ → ByteReserved → Type 0
ByteReserveMeets b bytes now r =
    r ≡ cond (byte_sound b) (byte_reserve b bytes now) (record { state = b; answer = Err Refusal.Unsound })

unfoldable pub BytePeekDelayMeets : ByteTokenBucket → ℕ → ℕ → Result ℕ Refusal → Type 0
BytePeekDelayMeets b bytes now r =
    r ≡ cond (byte_sound b) (Ok (byte_peek_delay_after_refill b bytes now)) (Err Refusal.Unsound)

unfoldable pub ByteRefundMeets : ByteTokenBucket → ℕ → ℕ → ByteRefilled → Type 0
ByteRefundMeets b bytes now r =
    r
    ≡ cond (byte_sound b)
    (record { state = byte_refund b bytes now; answer = Ok tt })
    (record { state = b; answer = Err Refusal.Unsound })

unfoldable pub ByteHasDebtMeets : ByteTokenBucket → ℕ → Result Bool Refusal → Type 0
ByteHasDebtMeets b now r = r ≡ cond (byte_sound b) (told (byte_has_debt b now)) (Err Refusal.Unsound)
