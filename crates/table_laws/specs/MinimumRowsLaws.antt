-- The search for the least row in memory, for a table of any layout and measure: a loop over the rows, whose invariant says that the
-- least of all is that of what was found and the rows from the i-th on. Assumes nothing.
use Rattle.std.specs.Prelude.{Bool, cond, ◌≡◌, refl, List, [], ℕ, ◌+◌, ◌*◌, ◌≤◌, ◌<◌, ltb, drop}
use Rattle.std.proofs.Common.{sym, ap, ◌∙◌, arith}
use Rattle.std.proofs.Math.Option.{Option, some}
use Rattle.truths.specs.TruthLaws.{by_test}
use Rattle.lent_bytes.specs.LentBytes.{part}
use Rattle.table.specs.Table.{Row, Best, nothing, best, better, minimum_from}
use Rattle.table.specs.Memory.{Layout, row_of, rows}
use Rattle.table.specs.MinimumLaws.{least_ends, least_goes_on, least_found}
use Rattle.table.specs.MemoryLaws.{length_rows, get_d_rows}

module _ {A : Type 0} (L : Layout A) (measure : Row A → Option ℕ) (s : List ℕ) (n : ℕ) where
  module _ (i : ℕ) (found : Best) (from : minimum_from measure nothing 0 (rows L s n) ≡ minimum_from measure found i (drop i (rows L s n))) where
    -- no row is left
    pub first_ends : n ≤ i → found ≡ minimum_from measure nothing 0 (rows L s n)
    first_ends h = sym (least_ends measure (rows L s n) i found (omega (arith, length_rows L s n)) from)

    -- the row at the i-th place is taken in
    pub first_goes_on : (m : Option ℕ) (next : Best) → i < n → m ≡ measure (row_of L (part s (L.width * i) L.width)) → next ≡ better found i m
        → minimum_from measure nothing 0 (rows L s n) ≡ minimum_from measure next (i + 1) (drop (i + 1) (rows L s n))
    first_goes_on m next h e f =
        let row : Row A = row_of L (part s (L.width * i) L.width) in
        least_goes_on measure (rows L s n) i found row (omega (arith, length_rows L s n)) from
        ∙ ap (λ (r : Row A). minimum_from measure (better found i (measure r)) (i + 1) (drop (i + 1) (rows L s n))) (get_d_rows L s n i row h)
        ∙ ap (λ (b : Best). minimum_from measure b (i + 1) (drop (i + 1) (rows L s n))) (sym (f ∙ ap (better found i) e))

  -- what is found is the index of a row
  pub found_inside : {j m : ℕ} → minimum_from measure nothing 0 (rows L s n) ≡ best j m → j < n
  found_inside h = omega (arith, (least_found measure (rows L s n) (row_of L []) h).inside, length_rows L s n)

-- ════ A search that carries the index alone, where every row has a measure ════

module _ {A : Type 0} (L : Layout A) (measure : Row A → ℕ) (s : List ℕ) (n : ℕ) where
  -- what the row at the i-th place is measured by
  abbrev pub measured_at : ℕ → ℕ
  measured_at i = measure (row_of L (part s (L.width * i) L.width))

  -- the invariant: the least of all is that of the j-th row and those from the i-th on
  abbrev pub FirstSo : ℕ → ℕ → Type 0
  FirstSo i j =
      minimum_from (λ (r : Row A). some (measure r)) nothing 0 (rows L s n)
      ≡ minimum_from (λ (r : Row A). some (measure r)) (best j (measured_at j)) i (drop i (rows L s n))

  -- the search begins with the first row
  pub search_begins : 0 < n → FirstSo 1 0
  search_begins h =
      first_goes_on L (λ (r : Row A). some (measure r)) s n 0 nothing refl (some (measured_at 0)) (best 0 (measured_at 0)) h refl refl

  -- the row at the i-th place is taken in
  pub search_goes_on : (i j next : ℕ) → i < n → FirstSo i j → next ≡ cond (ltb (measured_at i) (measured_at j)) i j → FirstSo (i + 1) next
  search_goes_on i j next h from e =
      first_goes_on L (λ (r : Row A). some (measure r)) s n i (best j (measured_at j)) from (some (measured_at i)) (best next (measured_at next)) h refl
      (by_test (ltb (measured_at i) (measured_at j))
      (λ t. ap (λ (x : ℕ). best x (measured_at x)) (e ∙ ap (λ (b : Bool). cond b i j) t) ∙ sym (ap (λ (b : Bool). cond b (best i (measured_at i)) (best j (measured_at j))) t))
      (λ t. ap (λ (x : ℕ). best x (measured_at x)) (e ∙ ap (λ (b : Bool). cond b i j) t) ∙ sym (ap (λ (b : Bool). cond b (best i (measured_at i)) (best j (measured_at j))) t)))

  -- no row is left
  pub search_ends : (i j : ℕ) → n ≤ i → FirstSo i j → minimum_from (λ (r : Row A). some (measure r)) nothing 0 (rows L s n) ≡ best j (measured_at j)
  search_ends i j h from = sym (first_ends L (λ (r : Row A). some (measure r)) s n i (best j (measured_at j)) from h)
