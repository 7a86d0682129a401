-- A cause as the two words that cross the C boundary. Definitions only.
use Rattle.std.specs.Prelude.{List, [], ◌∷◌, ℕ}
use Rattle.refusal.specs.Refusal.{Said, gives, refused}
use Rattle.peer_verdict.specs.declared.verdict.Cause.{Cause}
use Rattle.peer_verdict.specs.Causes.{cause_says}

-- what is said behind the answer; on a refusal what stood there stays
abbrev pub words_behind : Said → List ℕ → List ℕ
words_behind (gives []) before = []
words_behind (gives (answer ∷ words)) before = words
words_behind (refused n) before = before

-- the number of the cause, and by how much its limit ran short
abbrev pub cause_left : Cause → List ℕ → List ℕ
cause_left cause before = words_behind (cause_says cause) before
