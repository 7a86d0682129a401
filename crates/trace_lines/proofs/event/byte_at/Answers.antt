-- `trace_lines::event::byte_at` meets its contract. Assumes nothing.
use Rattle.std.proofs.Common.{sym}
use lib.ListN.{get_or-eq_default}
use Rattle.trace_lines.proofs.event.byte_at.Goals as goal

pub returns : goal.returns
returns c = sym (get_or-eq_default c.args.line.now 0 c.if-at-line.false)
