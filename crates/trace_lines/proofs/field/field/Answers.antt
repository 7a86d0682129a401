-- `trace_lines::field::field` meets its contract: by the kind of the field before. Assumes nothing.
use Rattle.trace_lines.proofs.field.field.Goals as goal

pub returns-in-Some : goal.returns-in-Some
returns-in-Some c = rw c.in-Some.is c.blank_then_number.ensures
