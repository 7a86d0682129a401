-- Rows whose entries are the bytes behind the key as they stand: every layout of the same widths reads these rows with their entries
-- decoded, so a function that only looks at keys says what it does by them. Definitions only; their laws are in `RawLaws`.
use Rattle.std.specs.Prelude.{Bool, true, List, [], ◌∷◌, ◌++◌, ℕ, ◌-◌, take}
use Rattle.lent_bytes.specs.LentBytes.{zeros}
use Rattle.table.specs.Table.{Row}
use Rattle.table.specs.Memory.{Layout}

-- rows of w bytes, the first k of which are the key. An entry takes the w - k bytes behind it: longer ones are cut, shorter ones filled
-- up with zeros
abbrev pub raw_layout : ℕ → ℕ → Layout (List ℕ)
raw_layout k w = record { key_width = k; width = w; encode = λ b. take (w - k) (b ++ zeros (w - k)); decode = λ b. b }

-- the row with another entry under the same key
abbrev pub map_row : {A B : Type 0} → (A → B) → Row A → Row B
map_row f r = record { key = r.key; entry = f r.entry }

-- the rows with other entries under the same keys
unfoldable pub map_entries : {A B : Type 0} → (A → B) → List (Row A) → List (Row B)
map_entries f [] = []
map_entries f (r ∷ rs) = map_row f r ∷ map_entries f rs

-- the rule that every row keeps
abbrev pub any_row : {A : Type 0} → Row A → Bool
any_row r = true
