-- A table as a list of rows, ordered by key: what the Rust's maps are here. Definitions only; their laws are in `TableLaws`.
use Rattle.std.specs.Prelude.{Bool, true, false, ◌&&◌, cond, List, [], ◌∷◌, ◌++◌, ℕ, ◌+◌, ltb, take, drop}
use Rattle.std.proofs.Math.Option.{Option, none, some}
use Rattle.std.specs.declared.cmp.Ordering.{Ordering}
use Rattle.std.specs.declared.cmp.Ordering.TheVariants.{Less, Equal, Greater}
use Rattle.pubkey.specs.Order.{compare_bytes}

-- a row: the bytes of its key, and what stands beside them
pub record Row (A : Type 0) : Type 0 where
  pub key : List ℕ
  pub entry : A

-- the row of an entry under its key
abbrev pub row_under : {A : Type 0} → List ℕ → A → Row A
row_under k e = record { key = k; entry = e }

-- one of three, by an order
abbrev pub by_order {ℓ} : {B : Type ℓ} → Ordering → B → B → B → B
by_order Less a b c = a
by_order Equal a b c = b
by_order Greater a b c = c

module _ {A : Type 0} where
  -- whether the key is below that of the first row, if there is one
  abbrev pub below : List ℕ → List (Row A) → Bool
  below k [] = true
  below k (r ∷ rs) = by_order (compare_bytes k r.key) true false false

  -- keys strictly ascending
  unfoldable pub ascending : List (Row A) → Bool
  ascending [] = true
  ascending (r ∷ rs) = below r.key rs && ascending rs

  -- every row keeps the rule
  unfoldable pub every : (Row A → Bool) → List (Row A) → Bool
  every rule [] = true
  every rule (r ∷ rs) = rule r && every rule rs

  -- HashMap::get
  unfoldable pub look : List ℕ → List (Row A) → Option A
  look k [] = none
  look k (r ∷ rs) = by_order (compare_bytes k r.key) none (some r.entry) (look k rs)

  -- HashMap::insert: in the place of the row of that key, or before the first row above it
  unfoldable pub store : List ℕ → A → List (Row A) → List (Row A)
  store k e [] = row_under k e ∷ []
  store k e (r ∷ rs) =
      by_order (compare_bytes k r.key)
      (row_under k e ∷ r ∷ rs)
      (row_under k e ∷ rs)
      (r ∷ store k e rs)

  -- HashMap::remove
  unfoldable pub erase : List ℕ → List (Row A) → List (Row A)
  erase k [] = []
  erase k (r ∷ rs) = by_order (compare_bytes k r.key) (r ∷ rs) rs (r ∷ erase k rs)

  -- HashMap::retain
  unfoldable pub retain : (Row A → Bool) → List (Row A) → List (Row A)
  retain test [] = []
  retain test (r ∷ rs) = cond (test r) (r ∷ retain test rs) (retain test rs)

  -- the row at an index, taken out
  unfoldable pub remove_at : ℕ → List (Row A) → List (Row A)
  remove_at i rs = take i rs ++ drop (i + 1) rs

-- a search for the least: nothing yet, or the index and the measure of the best so far
pub data Best : Type 0 where
  nothing : Best
  best : ℕ → ℕ → Best

-- the better of what was found and a row at an index with its measure, if it has one; the earlier where they are equal
abbrev pub better : Best → ℕ → Option ℕ → Best
better b i none = b
better nothing i (some m) = best i m
better (best j n) i (some m) = cond (ltb m n) (best i m) (best j n)

module _ {A : Type 0} where
  -- the first row with the least measure among those that have one, the rows counted from i
  unfoldable pub minimum_from : (Row A → Option ℕ) → Best → ℕ → List (Row A) → Best
  minimum_from measure b i [] = b
  minimum_from measure b i (r ∷ rs) = minimum_from measure (better b i (measure r)) (i + 1) rs
