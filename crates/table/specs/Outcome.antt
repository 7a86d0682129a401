-- What a call on a lent table comes to: its answer, and what becomes of the rows and with them of every lent byte. One form for the
-- tables of every layout. Definitions only; their laws are in `OutcomeLaws`.
use Rattle.std.specs.Prelude.{◌≡◌, List, ℕ, length}
use Rattle.table.specs.Table.{Row}
use Rattle.table.specs.Memory.{Layout, Holds}

-- what a call leaves of the rows: all as they were, or these
pub data Change (A : Type 0) : Type 0 where
  same : Change A
  become : List (Row A) → Change A

-- the rows after a change
abbrev pub changed_rows : {A : Type 0} → List (Row A) → Change A → List (Row A)
changed_rows rs same = rs
changed_rows rs (become xs) = xs

-- how many rows there are after a change
abbrev pub count_after : {A : Type 0} → ℕ → Change A → ℕ
count_after n same = n
count_after n (become rs) = length rs

-- lent memory that held n rows, after a change: every byte of it
abbrev pub Memory : {A : Type 0} → Layout A → List ℕ → List ℕ → ℕ → Change A → Type 0
Memory L before after n same = after ≡ before
Memory L before after n (become rs) = Holds L before after n rs

-- an answer, and what becomes of the rows
pub record Outcome (A R : Type 0) : Type 0 where
  pub answer : R
  pub change : Change A

-- a call gave this answer and left this memory
pub record Meets {A : Type 0} (L : Layout A) {R : Type 0} (answer : R) (before after : List ℕ) (n : ℕ) (o : Outcome A R) : Type 0 where
  pub answers : answer ≡ o.answer
  pub leaves : Memory L before after n o.change
