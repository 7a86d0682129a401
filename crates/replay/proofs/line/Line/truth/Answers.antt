-- `Line::truth` adds one digit in either case. Assumes nothing.
use Rattle.std.proofs.Common.{sym, ◌∙◌, ap}
use Rattle.replay.specs.Line.{written, extended, truth_text}
use Rattle.replay.proofs.line.Line.truth.Goals as goal

pub returns-then-b : goal.returns-then-b
returns-then-b c = c.byte.ensures ∙ ap (λ b. extended (written c.args.self) (truth_text b)) (sym c.if-b.true)

pub returns : goal.returns
returns c = c.byte-2.ensures ∙ ap (λ b. extended (written c.args.self) (truth_text b)) (sym c.if-b.false)
