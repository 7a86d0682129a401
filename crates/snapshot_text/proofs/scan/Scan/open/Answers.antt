-- `snapshot_text::scan::Scan::open` meets its contract. Assumes nothing.
use Rattle.std.proofs.Common.{refl, arith, length}
use borrow.Author.Tests.{lt-ltb, le-ltb}
use Rattle.snapshot_text.specs.Shown.{longest_snapshot}
use Rattle.snapshot_text.specs.Scan.{OpenMeets}
use Rattle.snapshot_text.proofs.scan.Scan.open.Goals as goal

pub returns-then-input-gt-LONGEST_SNAPSHOT : goal.returns-then-input-gt-LONGEST_SNAPSHOT
unfolding OpenMeets
returns-then-input-gt-LONGEST_SNAPSHOT c = rw (lt-ltb longest_snapshot (length c.args.input.now) (omega arith)) (c.begun.ensures, refl)

pub returns : goal.returns
unfolding OpenMeets
returns c =
    rw (le-ltb longest_snapshot (length c.args.input.now) (omega arith)) (c.read.result, c.begun-2.ensures, c.read.ensures)
