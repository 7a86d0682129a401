-- `policy::uglezmir_snapshot_read` meets its contract. Assumes nothing.
use Rattle.c_snapshot.proofs.policy.uglezmir_snapshot_read.Goals as goal

pub returns : goal.returns
returns c =
    record {
      answer = c.read-answer.result;
      met = c.read-answer.ensures;
      leaves = rw c.numbered_changed.ensures.made at c.leave.ensures;
    }
