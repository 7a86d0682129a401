-- `Line::byte` adds a byte where there is room for it. Assumes nothing.
use Rattle.std.proofs.Common.{arith}
use Rattle.std.proofs.Common.{rules}
use Rattle.replay.specs.Line.{written}
use Rattle.replay.specs.LineLaws.{byte_full, byte_added}
use Rattle.replay.proofs.line.Line.byte.Goals as goal

pub returns-then-at-ge-LINE_SIZE : goal.returns-then-at-ge-LINE_SIZE
unfolding written
returns-then-at-ge-LINE_SIZE c = byte_full c.args.self.bytes c.args.self.used c.args.b (search rules) (omega arith)

pub returns : goal.returns
unfolding written
returns c = byte_added c.args.self.bytes c.args.self.used c.args.b (search rules) (omega arith)
