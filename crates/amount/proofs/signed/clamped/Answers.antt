-- `amount::signed::clamped` meets its contract. What is below 2^127 stays, and the rest ends at the limit. Assumes nothing.
use Rattle.std.proofs.Common.{sym, arith}
use Rattle.amount.specs.Private.{size}
use Rattle.amount.specs.AmountLaws.{saturated_signed, saturated_beyond, is_moved}
use Rattle.amount.proofs.MagnitudeLaws.{size_under, size_over}
use Rattle.amount.proofs.signed.clamped.Goals as goal

pub returns-then-m-lt9223372036854775808 : goal.returns-then-m-lt9223372036854775808
returns-then-m-lt9223372036854775808 c =
    let s = c.args.negative in
    let m = c.args.m in
    is_moved (sym (saturated_signed s (size m) (size_under m (omega arith) (omega arith)))) c.amount_of.ensures

pub returns : goal.returns
returns c =
    let s = c.args.negative in
    let m = c.args.m in
    is_moved (sym (saturated_beyond s (size m) (size_over m (omega arith)))) c.limit.ensures
