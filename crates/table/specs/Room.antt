-- Room for one row more in a table with a limit, as the Rust's maps make it. Definitions only; their laws are in `RoomLaws` of table_laws.
use Rattle.std.specs.Prelude.{Bool, cond, List, ℕ, ltb, length}
use Rattle.table.specs.Table.{Row, Best, nothing, best, retain, remove_at}

module _ {A : Type 0} where
  -- the row that a search found is taken out; where nothing was found, none
  abbrev pub remove_found : Best → List (Row A) → List (Row A)
  remove_found nothing rs = rs
  remove_found (best j n) rs = remove_at j rs

  -- a full table gives way by one row or more; one that is not full stays as it is
  abbrev pub if_full : ℕ → (List (Row A) → List (Row A)) → List (Row A) → List (Row A)
  if_full limit give rs = cond (ltb (length rs) limit) rs (give rs)

  -- in a full table the rows that fail the test go, and where it is still full, one row more
  unfoldable pub room_made : ℕ → (Row A → Bool) → (List (Row A) → List (Row A)) → List (Row A) → List (Row A)
  room_made limit test evict rs = if_full limit (λ qs. if_full limit evict (retain test qs)) rs
