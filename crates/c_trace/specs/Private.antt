-- Private: cited by contracts inside the proved code alone; no entry point's contract rests on it. Definitions only.
use Rattle.std.specs.Prelude.{◌≡◌, List, ℕ}
use Rattle.trace_lines.specs.declared.line.TraceLine.{TraceLine}
use Rattle.trace_lines.specs.Lines.{line_of}

-- the line is that of a text
pub record Written (line : TraceLine) : Type 0 where
  pub text : List ℕ
  pub is : line ≡ line_of text
