-- `trace_lines::field::ends` meets its contract: by the field's kind. Assumes nothing.
use Rattle.trace_lines.proofs.field.ends.Goals as goal

pub returns-in-Some : goal.returns-in-Some
returns-in-Some c = rw c.in-Some.is
