-- `snapshot_text::line::refusal_line` meets its contract. Assumes nothing.
use Rattle.std.proofs.Common.{arith}
use Rattle.text_pieces.specs.TextLaws.{refusal_fits}
use Rattle.snapshot_text.specs.LineLaws.{line_is}
use Rattle.snapshot_text.proofs.line.refusal_line.Goals as goal

pub returns : goal.returns
returns c = rw c.number.ensures at (line_is c.put_refusal-length.ensures (omega (arith, refusal_fits c.number.result)))
