-- What the contracts of `amount` say: an `Amount` as an integer, and Rust's i128 and u128 as ranges of integers.
-- Definitions only; their laws are in `AmountLaws`.
use Rattle.std.specs.Prelude.{ℕ, zero, suc, ◌-◌, ◌/◌, ◌%◌, ◌^◌, min, Bool, true, false, cond, not, ◌&&◌, List, [], ◌∷◌, ℤ, pos, negsuc, neg_ℤ, ◌==◌, int_lt, nat_le}
use Rattle.amount_limbs.specs.Limbs.{digits}
use Rattle.amount.specs.declared.Amount.{Amount}

-- n with a sign
abbrev pub signed : Bool → ℕ → ℤ
signed true n = neg_ℤ (pos n)
signed false n = pos n

-- the integer that an amount stands for; minus zero stands for 0
unfoldable pub value : Amount → ℤ
value a = signed a.negative (digits a.limbs)

-- the n limbs that spell v, the least first
abbrev pub limbs : ℕ → ℕ → List ℕ
limbs zero v = []
limbs (suc n) v = v % 4294967296 ∷ limbs n (v / 4294967296)

-- the one amount that stands for an integer of up to 128 bits
unfoldable pub amount_of : ℤ → Amount
amount_of (pos n) = record { negative = false; limbs = limbs 4 n }
amount_of (negsuc n) = record { negative = true; limbs = limbs 4 (suc n) }

-- whether an amount is the minus zero that no i128 has
unfoldable pub minus_zero : Amount → Bool
minus_zero a = a.negative && digits a.limbs == 0

-- the nearest i128, -2^127 to 2^127 - 1: where Rust's saturating operations stop
unfoldable pub saturated : ℤ → ℤ
saturated (pos n) = pos (min n (2 ^ 127 - 1))
saturated (negsuc n) = negsuc (min n (2 ^ 127 - 1))

-- the integer as a natural number, 0 where it is negative: Rust's `.max(0) as u128`
abbrev pub natural : ℤ → ℕ
natural (pos n) = n
natural (negsuc n) = 0

-- the smaller of two integers
abbrev pub lesser : ℤ → ℤ → ℤ
lesser a b = cond (int_lt a b) a b

-- whether an integer is within -2^127 to 2^127 - 1
abbrev pub in_range : ℤ → Bool
in_range (pos n) = nat_le n (2 ^ 127 - 1)
in_range (negsuc n) = nat_le n (2 ^ 127 - 1)

-- whether an amount is an i128: in range, and no minus zero
unfoldable pub is_i128 : Amount → Bool
is_i128 a = in_range (value a) && not (minus_zero a)
