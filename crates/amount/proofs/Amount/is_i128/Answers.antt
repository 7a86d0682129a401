-- `amount::Amount::is_i128` meets its contract. A return for each side of 2^127, and one for -2^127 itself. Assumes nothing.
use Rattle.std.proofs.Common.{◌^◌, not, ltb, sym, ap, ◌∙◌, arith, ltb-false, ltb-true}
use borrow.Author.Tests.{not-true, not-false}
use Rattle.amount.specs.Amount.{is_i128, value, minus_zero}
use Rattle.amount.specs.Private.{size}
use Rattle.amount.proofs.MagnitudeLaws.{size_under, size_over, size_end, size_past}
use Rattle.amount.proofs.SignedLaws.{plus_i128, minus_within, minus_beyond}
use Rattle.amount.proofs.Amount.is_i128.Goals as goal

pub returns-then-not-self : goal.returns-then-not-self
unfolding is_i128 value minus_zero
returns-then-not-self c =
    let known = c.magnitude-m in
    let m = known.result in
    rw (not-true c.args.self.negative c.if-not-self.true, ← known.ensures)
    (plus_i128 (size m) (ltb m.high (2 ^ 63))
    (λ h. size_under m (omega (arith, known.type_inv)) (ltb-true m.high (2 ^ 63) h))
    (λ h. size_over m (ltb-false m.high (2 ^ 63) h)))

pub returns-then-m-lt9223372036854775808 : goal.returns-then-m-lt9223372036854775808
unfolding is_i128 value minus_zero
returns-then-m-lt9223372036854775808 c =
    let known = c.magnitude-m in
    let m = known.result in
    let under = size_under m (omega (arith, known.type_inv)) c.if-m-lt9223372036854775808.true in
    rw (not-false c.args.self.negative c.if-not-self.false, ← known.ensures)
    (ap not c.is_zero.ensures ∙ sym (minus_within (size m) under))

pub returns-then-m : goal.returns-then-m
unfolding is_i128 value minus_zero
returns-then-m c =
    let known = c.magnitude-m in
    let m = known.result in
    let beyond = minus_beyond (size m) (size_over m c.if-m-lt9223372036854775808.false) in
    rw (not-false c.args.self.negative c.if-not-self.false, ← known.ensures)
    (size_end m c.if-m.true ∙ sym beyond)

pub returns : goal.returns
unfolding is_i128 value minus_zero
returns c =
    let known = c.magnitude-m in
    let m = known.result in
    let beyond = minus_beyond (size m) (size_over m c.if-m-lt9223372036854775808.false) in
    rw (not-false c.args.self.negative c.if-not-self.false, ← known.ensures)
    (sym (size_past m c.if-m-lt9223372036854775808.false c.if-m.false) ∙ sym beyond)
