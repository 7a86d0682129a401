-- `amount::Amount::times` meets its contract, by that of `amount_limbs::product::times`. Assumes nothing.
use Rattle.std.proofs.Common.{◌≡◌, ℕ, ◌*◌, [], ◌∷◌, sym, ap, ◌∙◌, arith}
use Rattle.amount_limbs.specs.Limbs.{saturated_unsigned}
use Rattle.amount.proofs.Unsigned.{is_plain, natural_negative, natural_plain}
use Rattle.amount.proofs.Amount.times.Goals as goal

none : (n : ℕ) → 0 ≡ n * 0
none n = omega arith

pub returns-then-self : goal.returns-then-self
returns-then-self c = let a = c.args in
    is_plain (0 ∷ 0 ∷ 0 ∷ 0 ∷ []) _ (ap (λ (n : ℕ). saturated_unsigned n) (none a.factor) ∙ ap (λ (n : ℕ). saturated_unsigned (a.factor * n)) (sym (natural_negative a.self c.if-self.true)))

pub returns : goal.returns
returns c = is_plain c.times-product.result _
    (c.times-product.ensures ∙ ap (λ (n : ℕ). saturated_unsigned (c.args.factor * n)) (sym (natural_plain c.args.self c.if-self.false)))
