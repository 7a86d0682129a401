-- A table lent to a call: the record's own rules and the memory's length are judged, then the rows. For any layout, row rule, own
-- rules and limit. Definitions only; their laws are in `LentLaws`.
use Rattle.std.specs.Prelude.{Bool, ◌&&◌, List, ℕ, ◌*◌, leb, length}
use Rattle.table.specs.Table.{Row, every, ascending}
use Rattle.table.specs.Memory.{Layout, rows}

module _ {A : Type 0} (L : Layout A) where
  -- lent memory has room for as many rows as the limit says
  abbrev pub long_enough : ℕ → List ℕ → Bool
  long_enough limit s = leb (L.width * limit) (length s)

  module _ (rule : Row A → Bool) where
    -- every row keeps its rule, and the keys ascend
    abbrev pub rows_sound : List ℕ → ℕ → Bool
    rows_sound s n = every rule (rows L s n) && ascending (rows L s n)

    module _ (own : Bool) (limit : ℕ) (s : List ℕ) (n : ℕ) where
      -- a record whose own rules hold or not, with the memory that is lent to it
      unfoldable pub lent_sound : Bool
      lent_sound = own && (long_enough limit s && rows_sound s n)
