-- `trace::scan::Scan::last` meets its contract. Assumes nothing.
use Rattle.trace.proofs.scan.Scan.last.Goals as goal

pub returns : goal.returns
returns c = rw (c.bad_event.ensures, c.spoken_line.ensures, c.speak.ensures)
