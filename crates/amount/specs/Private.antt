-- Private: cited by contracts inside the proved code alone; no entry point's contract rests on it. Definitions only.
use Rattle.std.specs.Prelude.{◌≡◌, ℕ, ◌+◌, ◌*◌, false, ℤ}
use Rattle.amount.specs.declared.magnitude.Magnitude.{Magnitude}
use Rattle.amount.specs.declared.Amount.{Amount}
use Rattle.amount.specs.Amount.{value, minus_zero}

-- the number that two halves spell, the high one worth 2^64 of the low one
abbrev pub size : Magnitude → ℕ
size m = m.low + 18446744073709551616 * m.high

-- how a contract names the amount that a call answers: the integer, and that it is no minus zero
pub record Is (a : Amount) (z : ℤ) : Type 0 where
  pub stands : value a ≡ z
  pub plain : minus_zero a ≡ false
