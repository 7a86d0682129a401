-- `parts::uglezmir_snapshot_row` meets its contract. Assumes nothing.
use Rattle.c_snapshot.proofs.parts.uglezmir_snapshot_row.Goals as goal

pub returns : goal.returns
returns c = rw c.row_at.ensures at c.leave.ensures
