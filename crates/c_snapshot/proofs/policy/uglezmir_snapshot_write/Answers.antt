-- `policy::uglezmir_snapshot_write` meets its contract. Assumes nothing.
use Rattle.std.proofs.Common.{refl}
use Rattle.c_snapshot.proofs.policy.uglezmir_snapshot_write.Goals as goal

pub returns-in-Ok : goal.returns-in-Ok
returns-in-Ok c =
    record {
      answer = c.write.result;
      met = rw c.policy_of.ensures at c.write.ensures;
      leaves = rw c.in-Ok.is (refl, refl);
    }

pub returns-in-Err : goal.returns-in-Err
returns-in-Err c =
    record {
      answer = c.write.result;
      met = rw c.policy_of.ensures at c.write.ensures;
      leaves = rw c.in-Err.is (c.number.ensures, refl);
    }
