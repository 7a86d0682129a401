-- Numbers as decimal text: the only spelling of a number, and what stands at a place of a text. Definitions only; their laws
-- are in `DecimalLaws`.
use Rattle.std.specs.Prelude.{Bool, cond, ◌&&◌, List, [], ◌∷◌, ◌++◌, ℕ, zero, suc, ◌+◌, ◌-◌, ◌*◌, ◌/◌, ◌%◌, leb, ltb, eqb, length, drop}
use Rattle.std.specs.Prelude.{Option, Some, None}
use Rattle.refusal.specs.Refusal.{Said, gives}
use Rattle.decimal.specs.Ascii.{code}

-- whether a byte is one of `0` to `9`
abbrev pub is_digit : ℕ → Bool
is_digit b = leb (code "0") b && leb b (code "9")

-- the digits of n, the most significant first and no zero before it, if there are at most `most` of them
abbrev pub digits_within : ℕ → ℕ → List ℕ
digits_within zero n = []
digits_within (suc most) n = cond (ltb n 10) ((code "0" + n) ∷ []) (digits_within most (n / 10) ++ ((code "0" + n % 10) ∷ []))

-- how many digits a number has at most: 18446744073709551615 has as many
abbrev pub most_digits : ℕ
most_digits = 20

-- the text of a number up to that one
unfoldable pub digits_of : ℕ → List ℕ
digits_of n = digits_within most_digits n

-- the digits that a text begins with
abbrev pub digits_at_front : List ℕ → List ℕ
digits_at_front [] = []
digits_at_front (b ∷ more) = cond (is_digit b) (b ∷ digits_at_front more) []

-- the number that digits spell, behind digits that spell v
abbrev pub value_from : ℕ → List ℕ → ℕ
value_from v [] = v
value_from v (d ∷ ds) = value_from (v * 10 + (d - code "0")) ds

-- a number that ends at a place, if it is at most `most`
abbrev pub bounded : ℕ → ℕ → ℕ → Option (ℕ × ℕ)
bounded v end most = cond (leb v most) (Some (v, end)) None

-- the number of a run of digits that begins at a place: none is bad, and so is a zero before others
abbrev pub number_of : List ℕ → ℕ → ℕ → Option (ℕ × ℕ)
number_of [] at most = None
number_of (d ∷ []) at most = bounded (d - code "0") (at + 1) most
number_of (d ∷ e ∷ ds) at most = cond (eqb d (code "0")) None (bounded (value_from 0 (d ∷ e ∷ ds)) (at + length (d ∷ e ∷ ds)) most)

-- the number at a place of a text, of all the digits that stand there, and the place behind it
unfoldable pub scan_of : List ℕ → ℕ → ℕ → Option (ℕ × ℕ)
scan_of text at most = number_of (digits_at_front (drop at text)) at most

-- what the answer says: the number and the place behind it, or nothing
abbrev pub scanned_says : Option (ℕ × ℕ) → Said
scanned_says (Some (v, end)) = gives (v ∷ end ∷ [])
scanned_says None = gives []
