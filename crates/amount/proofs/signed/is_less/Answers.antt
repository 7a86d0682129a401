-- `amount::signed::is_less` meets its contract. A return for each pair of signs, and one for a minus zero. Assumes nothing.
use Rattle.std.proofs.Common.{not, sym, ap, ◌∙◌, eqb-true}
use borrow.Author.Tests.{eqb-false}
use Rattle.amount.specs.Private.{size}
use Rattle.amount.proofs.SignedLaws.{below_both_minus, below_zero_plus, below_minus_plus, below_plus_minus}
use Rattle.amount.proofs.signed.is_less.Goals as goal

pub returns-then-other : goal.returns-then-other
returns-then-other c =
    let a = size c.args.a in
    let b = size c.args.b in
    rw (c.if-negative.true, c.if-other.true) (c.is_below.ensures ∙ sym (below_both_minus a b))

pub returns-then-is_zero : goal.returns-then-is_zero
returns-then-is_zero c =
    let a = size c.args.a in
    let b = size c.args.b in
    let zero = eqb-true a 0 (sym c.is_zero.ensures ∙ c.if-is_zero.true) in
    rw (c.if-negative.true, c.if-other.false, zero) (ap not c.is_zero-then-is_zero.ensures ∙ sym (below_zero_plus b))

pub returns-then-negative : goal.returns-then-negative
returns-then-negative c =
    let a = size c.args.a in
    let b = size c.args.b in
    let nonzero = eqb-false a 0 (sym c.is_zero.ensures ∙ c.if-is_zero.false) in
    rw (c.if-negative.true, c.if-other.false) (sym (below_minus_plus a b nonzero))

pub returns-then-other-2 : goal.returns-then-other-2
returns-then-other-2 c =
    let a = size c.args.a in
    let b = size c.args.b in
    rw (c.if-negative.false, c.if-other-2.true) (sym (below_plus_minus a b))

pub returns : goal.returns
returns c = rw (c.if-negative.false, c.if-other-2.false) c.is_below-2.ensures
