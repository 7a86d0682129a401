-- `scan::uglezmir_trace_open` meets its contract. Assumes nothing.
use Rattle.c_trace.proofs.scan.uglezmir_trace_open.Goals as goal

pub returns : goal.returns
returns c = rw c.open.ensures at c.leave.ensures
