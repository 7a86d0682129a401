-- What the contracts of `amount_limbs` say: the number of limbs, and where Rust's u128 stops and rounds. Definitions only.
use Rattle.std.specs.Prelude.{List, [], ◌∷◌, ℕ, ◌+◌, ◌-◌, ◌*◌, ◌/◌, ◌^◌, min}

-- the number that limbs spell, the least first, each worth 2^32 of the one before it
abbrev pub digits : List ℕ → ℕ
digits [] = 0
digits (x ∷ xs) = x + 4294967296 * digits xs

-- the nearest u128: where Rust's `saturating_mul` stops
abbrev pub saturated_unsigned : ℕ → ℕ
saturated_unsigned n = min n (2 ^ 128 - 1)

-- n / d rounded up: Rust's `div_ceil`
abbrev pub ceil_div : ℕ → ℕ → ℕ
ceil_div n d = (n + (d - 1)) / d
