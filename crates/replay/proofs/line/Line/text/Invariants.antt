-- `Line::text` adds a text byte by byte. The invariant: the text's first `i` bytes are added. Assumes nothing.
use Rattle.std.proofs.Common.{◌≡◌, length, take, ◌≤◌}
use Rattle.replay.specs.Line.{written, extended}
use Rattle.replay.proofs.line.Line.text.Given as goal

abbrev pub invariant-loop-b : goal.invariant-loop-b
invariant-loop-b l = (l.b-index ≤ length l.s) × (written l.line ≡ extended (written l.initial.line) (take l.b-index l.s))
