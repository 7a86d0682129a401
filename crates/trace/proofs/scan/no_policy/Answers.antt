-- `trace::scan::no_policy` meets its contract. Assumes nothing.
use Rattle.trace.proofs.scan.no_policy.Goals as goal

pub returns : goal.returns
returns c = rw (c.fresh.ensures, c.default.ensures)
