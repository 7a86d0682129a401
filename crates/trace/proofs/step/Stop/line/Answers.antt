-- `trace::step::Stop::line` meets its contract: a refusal, or a bad line. Assumes nothing.
use Rattle.trace.proofs.step.Stop.line.Goals as goal

pub returns-in-Refused : goal.returns-in-Refused
returns-in-Refused c = rw (c.in-Refused.is, ← c.number.ensures) c.refusal_line.ensures

pub returns-in-BadLine : goal.returns-in-BadLine
returns-in-BadLine c = rw c.in-BadLine.is c.bad_line.ensures
