-- A table's rows as bytes in lent memory, and the one definition of memory after a call, `laid`. Definitions only; their laws are
-- in `MemoryLaws`.
use Rattle.std.specs.Prelude.{◌≡◌, List, [], ◌∷◌, ◌++◌, ℕ, zero, suc, ◌-◌, ◌*◌, max, length, take, drop}
use Rattle.lent_bytes.specs.LentBytes.{bytes, le, part, zeros}
use Rattle.table.specs.Table.{Row}

-- how the rows of a table stand in bytes: the width of a key and of a row, and what stands behind the key
pub record Layout (A : Type 0) : Type 0 where
  pub key_width : ℕ
  pub width : ℕ
  pub encode : A → List ℕ
  pub decode : List ℕ → A

-- numbers one after another, eight bytes each
unfoldable pub word_bytes : List ℕ → List ℕ
word_bytes [] = []
word_bytes (v ∷ vs) = bytes 8 v ++ word_bytes vs

-- the number that the i-th eight bytes spell
abbrev pub word_of : List ℕ → ℕ → ℕ
word_of s i = le (part s (8 * i) 8)

-- the k numbers that stand from the i-th eight bytes on
abbrev pub words : ℕ → ℕ → List ℕ → List ℕ
words i zero s = []
words i (suc k) s = word_of s i ∷ words (suc i) k s

module _ {A : Type 0} (L : Layout A) where
  -- a row's bytes
  unfoldable pub row_bytes : Row A → List ℕ
  row_bytes r = r.key ++ L.encode r.entry

  -- rows one after another
  unfoldable pub table_bytes : List (Row A) → List ℕ
  table_bytes [] = []
  table_bytes (r ∷ rs) = row_bytes r ++ table_bytes rs

  -- the row that bytes spell
  unfoldable pub row_of : List ℕ → Row A
  row_of s = record { key = take L.key_width s; entry = L.decode (drop L.key_width s) }

  -- the n rows at the beginning of lent memory
  unfoldable pub rows : List ℕ → ℕ → List (Row A)
  rows s zero = []
  rows s (suc n) = row_of (take L.width s) ∷ rows (drop L.width s) n

  -- memory that held n rows and now holds these: their bytes, zeros in the places freed, and every further byte as it was
  unfoldable pub laid : List ℕ → ℕ → List (Row A) → List ℕ
  laid s n rs =
      table_bytes rs
      ++ (zeros (L.width * (n - length rs)) ++ drop (L.width * max n (length rs)) s)

  -- memory that held n rows now holds these, and they read back
  pub record Holds (before after : List ℕ) (n : ℕ) (rs : List (Row A)) : Type 0 where
    pub memory : after ≡ laid before n rs
    pub reads : rows after (length rs) ≡ rs
