-- `amount::signed::amount_of` meets its contract. Zero loses its sign, so that no answer is minus zero. Assumes nothing.
use Rattle.std.proofs.Common.{sym, ◌∙◌, eqb-true}
use borrow.Author.Tests.{eqb-false}
use Rattle.amount.specs.Private.{size}
use Rattle.amount.proofs.SignedLaws.{zero_is, nonzero_is}
use Rattle.amount.proofs.signed.amount_of.Goals as goal

pub returns-then-is_zero : goal.returns-then-is_zero
returns-then-is_zero c =
    let s = c.args.negative in
    let n = size c.args.m in
    zero_is s n c.to_limbs-limbs.ensures (eqb-true n 0 (sym c.is_zero.ensures ∙ c.if-is_zero.true))

pub returns : goal.returns
returns c =
    let s = c.args.negative in
    let n = size c.args.m in
    nonzero_is s n c.to_limbs-limbs.ensures (eqb-false n 0 (sym c.is_zero.ensures ∙ c.if-is_zero.false))
