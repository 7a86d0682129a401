-- What a call on a lent table must keep, for any layout, row rule and limit: soundness of the rows, the memory's length, and bytes.
-- Definitions only; their laws are in `KeptLaws`.
use Rattle.std.specs.Prelude.{◌≡◌, Bool, true, List, [], ◌∷◌, ℕ, ◌-◌, ◌*◌, ◌≤◌, length}
use Rattle.lent_bytes.specs.LentBytes.{Bytes}
use Rattle.table.specs.Table.{Row, every, ascending}
use Rattle.table.specs.Memory.{Layout, rows}
use Rattle.table.specs.Outcome.{Change, same, become, count_after}

module _ {A : Type 0} (L : Layout A) where
  -- a key of the width that the layout says
  abbrev pub Key : List ℕ → Type 0
  Key k = (length k ≡ L.key_width) × Bytes k

  -- every row's key has that width
  abbrev pub Keyed : List (Row A) → Type 0
  Keyed [] = Unit {0}
  Keyed (r ∷ rs) = Key r.key × Keyed rs

  -- whatever an entry is, its bytes are bytes and take what the key leaves of the row
  pub record Encodes : Type 0 where
    pub key_fits : L.key_width ≤ L.width
    pub length_encode : (e : A) → length (L.encode e) ≡ L.width - L.key_width
    pub encode_bytes : (e : A) → Bytes (L.encode e)

  module _ (rule : Row A → Bool) (limit : ℕ) where
    -- rows that may stand in the table: no more than the limit, each with its rule kept, ascending, under keys of the right width
    pub record RowsHold (rs : List (Row A)) : Type 0 where
      pub few : length rs ≤ limit
      pub rules : every rule rs ≡ true
      pub order : ascending rs ≡ true
      pub keyed : Keyed rs

    -- a change to such rows
    abbrev pub ChangeHolds : Change A → Type 0
    ChangeHolds same = Unit {0}
    ChangeHolds (become rs) = RowsHold rs

    -- lent memory that holds n rows as it should
    pub record LentHolds (s : List ℕ) (n : ℕ) : Type 0 where
      pub few : n ≤ limit
      pub long : L.width * limit ≤ length s
      pub rules : every rule (rows L s n) ≡ true
      pub order : ascending (rows L s n) ≡ true

    -- what a change of n rows in memory leaves: memory that still holds its rows as it should, of the same length, and bytes
    pub record LentKept (s t : List ℕ) (n : ℕ) (change : Change A) : Type 0 where
      pub holds : LentHolds t (count_after n change)
      pub same_length : length t ≡ length s
      pub holds_bytes : Bytes t
