-- `trace::step::changed_answered` meets its contract: answer by answer. Assumes nothing.
use Rattle.trace.proofs.step.changed_answered.Goals as goal

pub returns-in-Ok : goal.returns-in-Ok
returns-in-Ok c = rw c.in-Ok.is

pub returns-in-Err : goal.returns-in-Err
returns-in-Err c = rw c.in-Err.is
