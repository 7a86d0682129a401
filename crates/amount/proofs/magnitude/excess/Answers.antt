-- `amount::magnitude::excess` meets its contract. Past the first test b is at most a, so that the high halves have a difference, after a borrow too. Assumes nothing.
use Rattle.std.proofs.Common.{◌≡◌, ◌≤◌, Bool, false, ltb, sym, ◌∙◌, arith, ltb-false, ltb-true}
use Rattle.amount.specs.declared.magnitude.Magnitude.{Magnitude}
use Rattle.amount.specs.Private.{size}
use Rattle.amount.proofs.MagnitudeLaws.{high_most, high_more, size_difference, size_borrowed}
use Rattle.amount.proofs.magnitude.excess.Goals as goal

pub returns-then-is_below : goal.returns-then-is_below
returns-then-is_below c =
    let a = c.args.a in
    let b = c.args.b in
    omega (arith, ltb-true (size a) (size b) (sym c.is_below.ensures ∙ c.if-is_below.true))

-- past the first test b is at most a
at_most : (a b : Magnitude) {t : Bool} → t ≡ ltb (size a) (size b) → t ≡ false → size b ≤ size a
at_most a b e f = ltb-false (size a) (size b) (sym e ∙ f)

pub overflow_sub-result : goal.overflow_sub-result
overflow_sub-result c =
    high_most c.args.a c.args.b (omega arith) (at_most c.args.a c.args.b c.is_below.ensures c.if-is_below.false)

pub overflow_sub-result-then-a-b : goal.overflow_sub-result-then-a-b
overflow_sub-result-then-a-b c =
    omega (arith, high_more c.args.a c.args.b (omega arith) (at_most c.args.a c.args.b c.is_below.ensures c.if-is_below.false))

pub returns-then-a-b : goal.returns-then-a-b
returns-then-a-b c =
    let difference = c.wrapping_sub_u64 in
    size_borrowed c.args.a c.args.b
    (omega (arith, difference.type_inv)) (omega arith) (omega arith) (at_most c.args.a c.args.b c.is_below.ensures c.if-is_below.false) difference.ensures.value

pub overflow_sub-result-3 : goal.overflow_sub-result-3
overflow_sub-result-3 c =
    high_most c.args.a c.args.b (omega arith) (at_most c.args.a c.args.b c.is_below.ensures c.if-is_below.false)

pub returns : goal.returns
returns c =
    size_difference c.args.a c.args.b (omega arith) (at_most c.args.a c.args.b c.is_below.ensures c.if-is_below.false) (omega arith)
