-- An amount as the five words that cross the C boundary. Definitions only.
use Rattle.std.specs.Prelude.{Bool, true, false, not, List, [], ◌∷◌, ℕ, eqb, get_or}
use Rattle.amount.specs.declared.Amount.{Amount}

-- the amount that five words say: a sign, 0 for plus, and four limbs
abbrev pub amount_of_words : List ℕ → Amount
amount_of_words w =
    record {
      negative = not (eqb (get_or w 0 0) 0);
      limbs = get_or w 1 0 ∷ get_or w 2 0 ∷ get_or w 3 0 ∷ get_or w 4 0 ∷ [];
    }

abbrev pub sign_word : Bool → ℕ
sign_word true = 1
sign_word false = 0

-- an amount's five words
abbrev pub amount_words : Amount → List ℕ
amount_words a =
    sign_word a.negative
    ∷ get_or a.limbs 0 0
    ∷ get_or a.limbs 1 0
    ∷ get_or a.limbs 2 0
    ∷ get_or a.limbs 3 0
    ∷ []
