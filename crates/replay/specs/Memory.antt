-- What the contracts of `replay` say of a lent memory. Definitions only.
use Rattle.std.specs.Prelude.{◌≡◌, Bool, cond, List, ℕ, ◌+◌, leb, length}
use Rattle.lent_bytes.specs.LentBytes.{put, bytes}

-- whether a memory has eight bytes at a place
abbrev pub has_room : List ℕ → ℕ → Bool
has_room memory at = leb (at + 8) (length memory)

-- a word is written where there is room for it, and the answer says whether it was
abbrev pub WordPut : List ℕ → ℕ → ℕ → Bool → List ℕ → Type 0
WordPut before at word answer after =
    (answer ≡ has_room before at) × (after ≡ cond (has_room before at) (put before at (bytes 8 word)) before)
