-- `trace::scan::Scan::moved` meets its contract. Assumes nothing.
use Rattle.trace.proofs.scan.Scan.moved.Goals as goal

pub returns : goal.returns
returns c = rw (c.following.ensures, c.phase_behind.ensures)
