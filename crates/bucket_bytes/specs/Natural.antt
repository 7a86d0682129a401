-- A byte bucket that is not in debt, as a peer's never is, on plain naturals. Definitions only; that they are the bucket's own is
-- proved in `NaturalLaws`.
use Rattle.std.specs.Prelude.{cond, ℕ, ◌+◌, ◌-◌, ◌*◌, ◌/◌, min, leb, ltb, pos}
use Rattle.std.specs.Prelude.{Ok, Err}
use Rattle.bucket_terms.specs.declared.answer.NotGiven.TheVariants as NotGiven
use Rattle.bucket_terms.specs.declared.limit.ByteRateLimitConfig.{ByteRateLimitConfig}
use Rattle.bucket_bytes.specs.Handed.{ByteConsumed}
use Rattle.bucket_bytes.specs.ByteBucket.{ms_per_sec, byte_level}

-- what is available after a refill at a time
unfoldable pub refilled_to : (rate burst available last now : ℕ) → ℕ
refilled_to rate burst available last now =
    cond (leb now last) available (min (available + (now - last) * rate / ms_per_sec) burst)

-- when the bucket was last refilled after a refill at a time: time does not go back
abbrev pub refilled_at : (last now : ℕ) → ℕ
refilled_at last now = cond (leb now last) last now

-- what a bucket on naturals answers and keeps
abbrev pub natural_take : ByteRateLimitConfig → ℕ → ℕ → ℕ → ByteConsumed
natural_take c a last bytes =
    cond (ltb a bytes)
    (record { state = byte_level c (pos a) last; answer = Err (NotGiven.Short (bytes - a)) })
    (record { state = byte_level c (pos (a - bytes)) last; answer = Ok tt })
