-- `amount::Amount::product_over` meets its contract: a product of two numbers of 32 bits fits 64, and else by the contracts of
-- `product` and `over`. Assumes nothing.
use Rattle.std.proofs.Common.{ℕ, ◌/◌, ◌≤◌, ap, ◌∙◌, mul-le-mul_right, arith}
use Rattle.amount.proofs.Unsigned.{is_plain}
use Rattle.amount.proofs.Amount.product_over.Goals as goal

pub overflow_mul-a : goal.overflow_mul-a
overflow_mul-a c =
    let a = c.args in
    let most : a.a ≤ 4294967295 = omega arith in
    omega (arith, mul-le-mul_right a.b most)

pub returns : goal.returns
returns c =
    is_plain c.over-limbs.result _ (c.over-limbs.ensures ∙ ap (λ (n : ℕ). n / c.args.divisor) c.product.ensures)
