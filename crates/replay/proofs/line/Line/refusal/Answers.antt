-- `Line::refusal` adds a word and a number. Assumes nothing.
use Rattle.std.proofs.Common.{◌∙◌, ap, List, ℕ}
use Rattle.text_pieces.specs.Text.{number_text, refusal_word}
use Rattle.replay.specs.Line.{written, extended}
use Rattle.replay.specs.LineLaws.{extended_twice}
use Rattle.replay.proofs.line.Line.refusal.Goals as goal

pub returns : goal.returns
returns c =
    let a = c.args in
    c.then.ensures
    ∙ ap (λ (w : List ℕ). extended w (number_text a.number)) c.text.ensures
    ∙ extended_twice (written a.self) refusal_word (number_text a.number)
