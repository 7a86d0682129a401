-- Private: cited by contracts inside the proved code alone; no entry point's contract rests on it. Definitions only.
use Rattle.std.specs.Prelude.{◌≡◌, List, ℕ}
use Rattle.peer_verdict.specs.declared.verdict.Shortage.{Shortage}
use Rattle.peer_verdict.specs.declared.verdict.Cause.TheVariants as Cause
use Rattle.c_words.specs.CauseWords.{cause_left}

-- the words of a shortage, whatever stood there
abbrev pub ShortageWords : Shortage → List ℕ → Type 0
ShortageWords shortage words = (before : List ℕ) → words ≡ cause_left (Cause.Short shortage) before
