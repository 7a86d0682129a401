-- What one walk over the rows in lent memory knows, which judges each row and finds a key's place. For any layout, rule and width of
-- the fronts that it compares. Definitions only; their laws are in `WalkLaws`.
use Rattle.std.specs.Prelude.{Bool, true, false, ◌&&◌, ◌≡◌, List, ℕ, zero, suc, ◌-◌, ◌*◌, ◌<◌, ◌≤◌, length, drop}
use Rattle.lent_bytes.specs.LentBytes.{part, Bytes}
use Rattle.lent_bytes.specs.Private.{front}
use Rattle.pubkey.specs.Order.{compare_bytes}
use Rattle.table.specs.Table.{Row, by_order, below, ascending, every}
use Rattle.table.specs.Private.{place_from}
use Rattle.table.specs.Memory.{Layout, row_of, rows}

-- whether the i-th row of w bytes comes after the one before it, if there is one, by the first k bytes of both
abbrev pub rises : ℕ → ℕ → List ℕ → ℕ → Bool
rises w k s zero = true
rises w k s (suc i) = by_order (compare_bytes (part s (w * i) k) (part s (w * suc i) k)) true false false

module _ {A : Type 0} (L : Layout A) where
  -- the i-th row in memory
  abbrev pub row_at : List ℕ → ℕ → Row A
  row_at s i = row_of L (part s (L.width * i) L.width)

  -- whether the rows from the i-th on come after the one before them, if there is one
  abbrev pub follows : List ℕ → ℕ → ℕ → Bool
  follows s n zero = true
  follows s n (suc i) = below (row_at s i).key (drop (suc i) (rows L s n))

  -- whether the rows from the i-th on are sound and come after the one before them
  unfoldable pub sound_from : (Row A → Bool) → List ℕ → ℕ → ℕ → Bool
  sound_from rule s n i = follows s n i && (every rule (drop i (rows L s n)) && ascending (drop i (rows L s n)))

  -- n rows lie in memory, and their keys and the key sought are no shorter than fronts of m bytes
  pub record Walkable (m : ℕ) (s : List ℕ) (n : ℕ) (k : List ℕ) : Type 0 where
    pub key_fits : L.key_width ≤ L.width
    pub front_fits : m ≤ L.key_width
    pub rows_fit : L.width * n ≤ length s
    pub memory_bytes : Bytes s
    pub key_bytes_lem : Bytes k
    pub key_length : length k ≡ L.key_width

  -- the invariant of the walk at the i-th row. The rows are sound just where those from the i-th on are and come after the one before
  -- them; `last` is the front of that one; and where all rows ascend, the key's place is that among those from `place` on
  pub record Walking (rule : Row A → Bool) (m : ℕ) (s : List ℕ) (n : ℕ) (k : List ℕ) (i last place : ℕ) : Type 0 where
    pub inside : i ≤ n
    pub judged : sound_from rule s n 0 ≡ sound_from rule s n i
    pub carried : 0 < i → last ≡ front m s (L.width * (i - 1))
    pub place_inside : place ≤ i
    pub passed : ascending (rows L s n) ≡ true → place_from 0 k (rows L s n) ≡ place_from place k (drop place (rows L s n))
