-- `words::scan_of` meets its contract. Assumes nothing.
use Rattle.c_trace.proofs.words.scan_of.Goals as goal

pub returns : goal.returns
returns c = rw (c.policy_of.ensures, c.phase_of.ensures)
