-- Private: cited by contracts inside the proved code alone; no entry point's contract rests on it. Definitions only.
use Rattle.std.specs.Prelude.{Bool, ◌&&◌, cond, List, [], ◌∷◌, ◌++◌, ℕ, ◌+◌, take, drop}
use Rattle.pubkey.specs.Order.{compare_bytes}
use Rattle.table.specs.declared.seek.Seek.{Seek}
use Rattle.table.specs.declared.seek.Seek.TheVariants.{Unsound, At, Gap}
use Rattle.table.specs.Table.{Row, by_order, ascending, every}

module _ {A : Type 0} where
  -- the place of a key among ascending rows, the first of which is the i-th
  unfoldable pub place_from : ℕ → List ℕ → List (Row A) → Seek
  place_from i k [] = Gap i
  place_from i k (r ∷ rs) = by_order (compare_bytes k r.key) (Gap i) (At i) (place_from (i + 1) k rs)

  -- judge, then find: the rows are unsound, or the key stands at a place, or would stand at a gap
  unfoldable pub seek : (Row A → Bool) → List ℕ → List (Row A) → Seek
  seek rule k rs = cond (every rule rs && ascending rs) (place_from 0 k rs) Unsound

  -- the n neighbouring rows from an index on, taken out
  unfoldable pub remove_run : ℕ → ℕ → List (Row A) → List (Row A)
  remove_run i n rs = take i rs ++ drop (i + n) rs

  -- a row put in at an index
  unfoldable pub insert_at : ℕ → Row A → List (Row A) → List (Row A)
  insert_at i r rs = take i rs ++ (r ∷ drop i rs)
