-- `trace_lines::event::hex_byte` meets its contract: by what its callees ensure. Assumes nothing.
use Rattle.std.proofs.Common.{◌∙◌}
use Rattle.trace_lines.specs.Lines.{hex_byte}
use Rattle.trace_lines.proofs.event.hex_byte.Goals as goal

pub returns : goal.returns
unfolding hex_byte
returns c = c.hex_pair.ensures ∙ rw (c.hex_digit-2.ensures, c.hex_digit.ensures, c.byte_at-low.ensures, c.byte_at-high.ensures)
