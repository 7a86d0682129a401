-- `snapshot_text::line::head_line` meets its contract. Assumes nothing.
use Rattle.std.proofs.Common.{arith}
use mathlib.Core.List.{flatten}
use Rattle.snapshot_text.specs.Shown.{head_text}
use Rattle.snapshot_text.specs.LineLaws.{line_is}
use Rattle.snapshot_text.proofs.line.head_line.Goals as goal

pub returns : goal.returns
unfolding head_text flatten
returns c = line_is c.put_text-length.ensures (omega arith)
