-- `Line::then` adds a space and a number. Assumes nothing.
use Rattle.std.proofs.Common.{◌∙◌, ap, List, [], ◌∷◌, ℕ}
use Rattle.decimal.specs.Ascii.{blank}
use Rattle.decimal.specs.Decimal.{digits_of}
use Rattle.replay.specs.Line.{written, extended}
use Rattle.replay.specs.LineLaws.{extended_twice}
use Rattle.replay.proofs.line.Line.then.Goals as goal

pub returns : goal.returns
returns c = c.decimal.ensures ∙ ap (λ (w : List ℕ). extended w (digits_of c.args.n)) c.byte.ensures ∙ extended_twice (written c.args.self) (blank ∷ []) (digits_of c.args.n)
