-- `trace_lines::line::refusal_line` meets its contract. Assumes nothing.
use Rattle.std.proofs.Common.{arith}
use Rattle.text_pieces.specs.TextLaws.{refusal_fits}
use Rattle.trace_lines.proofs.Written.{line_is}
use Rattle.trace_lines.proofs.line.refusal_line.Goals as goal

pub returns : goal.returns
returns c = line_is c.put_refusal-end.ensures (omega (arith, refusal_fits c.args.number))
