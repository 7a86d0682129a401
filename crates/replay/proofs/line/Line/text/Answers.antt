-- `Line::text` adds a text byte by byte. The invariant: the text's first `i` bytes are added. Assumes nothing.
use Rattle.std.proofs.Common.{◌∙◌, ap, get_or, List, [], ◌∷◌, ℕ, arith}
use Rattle.std.proofs.Common.{rules}
use lib.Seq.{take_all}
use Rattle.replay.specs.LineLaws.{text_step, extended_nil, written_short}
use Rattle.replay.specs.Line.{written, extended}
use Rattle.replay.proofs.line.Line.text.Goals as goal

pub loop-b-init : goal.loop-b-init
loop-b-init c = (omega arith, extended_nil _ (written_short c.args.self (search rules)))

pub loop-b-preserved : goal.loop-b-preserved
loop-b-preserved c = (omega arith, c.byte-line.ensures ∙ ap (λ (w : List ℕ). extended w (get_or c.args.s.now c.loop-b.b-index 0 ∷ [])) c.loop-b.invariant.1 ∙ text_step (written c.args.self) c.args.s.now c.loop-b.b-index (omega arith))

pub returns : goal.returns
returns c = c.loop-b.invariant.1 ∙ ap (extended (written c.args.self)) (take_all c.loop-b.b-index c.args.s.now (omega arith))
