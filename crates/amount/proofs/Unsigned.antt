-- Amounts as unsigned numbers: what `natural` and `Is` say of an amount by its sign. Assumes nothing.
use Rattle.std.proofs.Common.{◌≡◌, ℕ, zero, suc, Bool, true, false, List, pos, refl, ap, ◌∙◌}
use Rattle.amount.specs.declared.Amount.{Amount}
use Rattle.amount_limbs.specs.Limbs.{digits}
use Rattle.amount.specs.Amount.{signed, value, minus_zero, natural}
use Rattle.amount.specs.Private.{Is}

natural_signed : (n : ℕ) → natural (signed true n) ≡ 0
natural_signed zero = refl
natural_signed (suc n) = refl

pub natural_negative : (a : Amount) → a.negative ≡ true → natural (value a) ≡ 0
unfolding value
natural_negative a e = ap (λ (b : Bool). natural (signed b (digits a.limbs))) e ∙ natural_signed (digits a.limbs)

pub natural_plain : (a : Amount) → a.negative ≡ false → natural (value a) ≡ digits a.limbs
unfolding value
natural_plain a e = ap (λ (b : Bool). natural (signed b (digits a.limbs))) e

-- limbs with no sign stand for their number
pub is_plain : (l : List ℕ) (n : ℕ) → digits l ≡ n → Is (record { negative = false; limbs = l }) (pos n)
unfolding value minus_zero
is_plain l n e = record { stands = ap pos e; plain = refl }
