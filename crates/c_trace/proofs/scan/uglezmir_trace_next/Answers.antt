-- `scan::uglezmir_trace_next` meets its contract: a line is handed out, or the scan is done. Assumes nothing.
use Rattle.std.specs.Prelude.{Ok, Err}
use Rattle.std.proofs.Common.{refl}
use Rattle.c_trace.specs.WrittenLaws.{handed_written}
use Rattle.c_trace.proofs.scan.uglezmir_trace_next.Goals as goal

pub write-requires : goal.write-requires
write-requires c = handed_written _ (Ok c.in-Ok.handed) _ _ _ c.in-Ok.ensures

pub returns-in-Ok : goal.returns-in-Ok
returns-in-Ok c =
    record {
      answer = Ok c.in-Ok.handed;
      met = rw c.scan_of-before.ensures at c.in-Ok.ensures;
      leaves = (c.leave.ensures, c.write.ensures);
    }

pub returns-in-Err : goal.returns-in-Err
returns-in-Err c =
    record {
      answer = Err c.in-Err.behind;
      met = rw c.scan_of-before.ensures at c.in-Err.ensures;
      leaves = (c.leave-in-Err.ensures, (refl, refl));
    }
