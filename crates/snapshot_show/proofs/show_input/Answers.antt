-- `snapshot_show::show_input` is safe: what it hands on is what was read, and lies within the buffer. Assumes nothing.
use Rattle.std.proofs.Common.{subst}
use Rattle.standard.specs.Input.{ReadInto}
use Rattle.snapshot_show.proofs.show_input.Goals as goal

pub slice_bounds-write_lines-end : goal.slice_bounds-write_lines-end
slice_bounds-write_lines-end c = (subst (λ r. ReadInto r c.read.new.buffer) c.in-Some.is c.read.ensures).0

pub slice_bounds-write_lines-end-in-Some : goal.slice_bounds-write_lines-end-in-Some
slice_bounds-write_lines-end-in-Some c = (subst (λ r. ReadInto r c.read.new.buffer) c.in-Some.is c.read.ensures).1
