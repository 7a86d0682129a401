-- `amount_limbs::product::product` meets its contract: two rows of two columns, one for each half of b. Assumes nothing.
use Rattle.std.proofs.Common.{◌≡◌, ◌∙◌, [], ◌∷◌, arith}
use Rattle.amount_limbs.specs.Limbs.{digits}
use Rattle.amount_limbs.proofs.Columns.{no_columns, column, two_rows}
use Rattle.amount_limbs.proofs.product.product.Goals as goal

pub returns : goal.returns
returns c =
    let a = c.of-a.result in
    let b = c.of-b.result in
    let first = c.mul_add-first in
    let cross = c.mul_add-cross in
    let second = c.mul_add-second in
    let third = c.mul_add-third in
    let whole-a : digits (a.low ∷ a.high ∷ []) ≡ c.args.a = omega arith in
    let whole-b : digits (b.low ∷ b.high ∷ []) ≡ c.args.b = omega arith in
    let low₁ = column a.high 0 cross.result.low cross.result.high first.result.high cross.ensures (no_columns b.low cross.result.high) in
    let low₀ = column a.low 0 first.result.low first.result.high 0 first.ensures low₁ in
    let high₁ = column a.high cross.result.high third.result.low third.result.high second.result.high third.ensures (no_columns b.high third.result.high) in
    let high₀ = column a.low cross.result.low second.result.low second.result.high 0 second.ensures high₁ in
    two_rows first.result.low low₀ high₀ ∙ rw (whole-a, whole-b)
