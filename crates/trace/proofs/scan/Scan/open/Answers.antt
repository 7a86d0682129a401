-- `trace::scan::Scan::open` meets its contract: by the length of the input. Assumes nothing.
use Rattle.std.proofs.Common.{arith, length}
use borrow.Author.Tests.{lt-ltb, le-ltb}
use Rattle.trace.specs.Scan.{longest_input, open_of}
use Rattle.trace.proofs.scan.Scan.open.Goals.{then-input-gt-LONGEST_INPUT, else-input-gt-LONGEST_INPUT}
use Rattle.trace.proofs.scan.Scan.open.Goals as goal

pub returns : goal.returns
unfolding open_of
returns c = elim c.if-input-gt-LONGEST_INPUT.branch [
  | then-input-gt-LONGEST_INPUT w ↦ rw (w.phase-is, c.no_policy.ensures, lt-ltb longest_input (length c.args.input.now) (omega arith))
  | else-input-gt-LONGEST_INPUT w ↦ rw (w.phase-is, c.no_policy.ensures, le-ltb longest_input (length c.args.input.now) (omega arith))
]
