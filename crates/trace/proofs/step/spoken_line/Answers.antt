-- `trace::step::spoken_line` meets its contract: a word, or why nothing more is read. Assumes nothing.
use Rattle.trace.proofs.step.spoken_line.Goals as goal

pub returns-in-Ok : goal.returns-in-Ok
returns-in-Ok c = rw c.in-Ok.is c.answer_line.ensures

pub returns-in-Err : goal.returns-in-Err
returns-in-Err c = rw c.in-Err.is c.line.ensures
