-- ByteRateLimitConfig of gossip_policy.rs. Definitions only.
use Rattle.std.specs.Prelude.{Bool, ◌||◌, ℕ, eqb}
use Rattle.bucket_terms.specs.declared.limit.ByteRateLimitConfig.{ByteRateLimitConfig}

abbrev pub byte_limit : ℕ → ℕ → ByteRateLimitConfig
byte_limit rate burst = record { rate_bytes_per_sec = rate; burst_bytes = burst }

-- is_disabled
abbrev pub byte_disabled : ByteRateLimitConfig → Bool
byte_disabled c = eqb c.rate_bytes_per_sec 0 || eqb c.burst_bytes 0
