-- `trace_lines::field::blank_then_number` meets its contract: by the byte at the place. Assumes nothing.
use Rattle.std.proofs.Common.{arith, get_or}
use lib.ListN.{get_or-eq_default}
use borrow.Author.Tests.{eq-eqb, ne_eqb}
use Rattle.decimal.specs.Ascii.{blank}
use Rattle.trace_lines.specs.Lines.{blank_then_number}
use Rattle.trace_lines.proofs.field.blank_then_number.Goals as goal

pub returns-then-line-at : goal.returns-then-line-at
unfolding blank_then_number
returns-then-line-at c = rw (get_or-eq_default c.args.line.now 0 c.if-line-at.true)

pub returns-then-line-at-ne32 : goal.returns-then-line-at-ne32
unfolding blank_then_number
returns-then-line-at-ne32 c = rw (ne_eqb (get_or c.args.line.now c.args.at 0) blank (λ q. omega arith))

pub returns : goal.returns
unfolding blank_then_number
returns c = rw (eq-eqb (get_or c.args.line.now c.args.at 0) blank (omega arith)) c.scan.ensures
