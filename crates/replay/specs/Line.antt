-- What the contracts of `replay` say of a line: what it holds, and the texts that are added to it.
-- Definitions only; their laws are in `LineLaws`.
use Rattle.std.specs.Prelude.{Bool, true, false, List, ◌++◌, ℕ, ◌/◌, ◌%◌, ◌^◌, take}
use Rattle.amount_limbs.specs.Limbs as limbs
use Rattle.amount.specs.declared.Amount.{Amount}
use Rattle.decimal.specs.Ascii.{ascii}
use Rattle.text_pieces.specs.Text.{number_text}
use Rattle.replay.specs.declared.line.Line.{Line}

-- what a line holds
unfoldable pub written : Line → List ℕ
written l = take l.used l.bytes

-- how many bytes a line has room for
abbrev pub line_size : ℕ
line_size = 160

-- a text with another after it, cut where a line is full
unfoldable pub extended : List ℕ → List ℕ → List ℕ
extended before added = take line_size (before ++ added)

abbrev pub truth_text : Bool → List ℕ
truth_text true = ascii "1"
truth_text false = ascii "0"

-- an amount as its sign, low half and high half
unfoldable pub amount_text : Amount → List ℕ
amount_text a =
    truth_text a.negative ++ (number_text (limbs.digits a.limbs % 2 ^ 64) ++ number_text (limbs.digits a.limbs / 2 ^ 64))
