-- Laws of the search for the least measure: it finds the first row with the least measure among those that have one. The i-th row
-- is `get_or rs i d`, with any row d. In order: measures at indexes; the search as a loop; what is found. Assumes nothing.
use Rattle.std.specs.Prelude.{◌≡◌, List, ◌∷◌, ltb, drop, get_or}
use Rattle.std.proofs.Math.Path.{refl}
use Rattle.std.proofs.Common.{sym, ap, ◌∙◌, add-one, ltb-true, ltb-false, drop_of_length-le, drop-cons}
use Rattle.std.proofs.Math.Option.{Option, none, some}
use Prim.Native.Nat.{ℕ, zero, suc, ◌+◌, ◌≤◌, ◌<◌}
use native.Mathlib.Omega.{arith}
use Rattle.std.proofs.Math.ListN.{length}
use Rattle.truths.specs.TruthLaws.{by_test}
use Rattle.table.specs.Table.{Row, Best, nothing, best, better, minimum_from}
use Rattle.table.specs.LookLaws.{some_is_not_none}

-- ════ Measures at indexes ════

-- the measure at j is n, it is least among those before the index i, and those before j are greater
pub record LeastBefore (f : ℕ → Option ℕ) (i j n : ℕ) : Type 0 where
  pub inside : j < i
  pub measured : f j ≡ some n
  pub least : (q x : ℕ) → q < i → f q ≡ some x → n ≤ x
  pub earliest : (q x : ℕ) → q < j → f q ≡ some x → n < x

-- what was found before the index i is right
abbrev pub RightBefore : (ℕ → Option ℕ) → ℕ → Best → Type 0
RightBefore f i nothing = (q : ℕ) → q < i → f q ≡ none
RightBefore f i (best j n) = LeastBefore f i j n

-- an index before i + 1 is before i, or is i
before_or_at : {B : Type 0} (q i : ℕ) → q < i + 1 → (q < i → B) → (q ≡ i → B) → B
before_or_at q i h before same =
    by_test (ltb q i) (λ t. before (ltb-true q i t)) (λ t. let k = ltb-false q i t in same (omega arith))

module _ (f : ℕ → Option ℕ) (i : ℕ) where
  -- the measure at i is below all those before
  least_new : {m : ℕ} → f i ≡ some m → ((q x : ℕ) → q < i → f q ≡ some x → m < x) → LeastBefore f (i + 1) i m
  least_new {m} h under = record {
    inside = omega arith;
    measured = h;
    least = λ q x below k. before_or_at q i below (λ l. let g = under q x l k in omega arith) (λ same. let e : m ≡ x = cc in omega arith);
    earliest = under;
  }

  -- the measure at i, if there is one, is not below the least before
  least_stays : {j n : ℕ} → LeastBefore f i j n → ((x : ℕ) → f i ≡ some x → n ≤ x) → LeastBefore f (i + 1) j n
  least_stays right over = record {
    inside = let h = right.inside in omega arith;
    measured = right.measured;
    least = λ q x below k. before_or_at q i below (λ l. right.least q x l k) (λ same. over x (ap f (sym same) ∙ k));
    earliest = right.earliest;
  }

  -- the same, by the two cases of the next measure
  right_better_by : (b : Best) (o : Option ℕ) → f i ≡ o → RightBefore f i b → RightBefore f (i + 1) (better b i o)
  right_better_by nothing none h right = λ q below. before_or_at q i below (λ k. right q k) (λ e. ap f e ∙ h)
  right_better_by nothing (some m) h right = least_new h (λ q x below k. absurd (some_is_not_none k (right q below)))
  right_better_by (best j n) none h right = least_stays right (λ x k. absurd (some_is_not_none k h))
  right_better_by (best j n) (some m) h right =
      by_test (ltb m n)
      (λ t. rw t (let l = ltb-true m n t in
      least_new h (λ q x below k. let g = right.least q x below k in omega arith)))
      (λ t. rw t (let l = ltb-false m n t in
      least_stays right (λ x k. let e : m ≡ x = cc in omega arith)))

  -- what was found stays right when the next measure is taken in
  pub right_better : (b : Best) → RightBefore f i b → RightBefore f (i + 1) (better b i (f i))
  right_better b = right_better_by b (f i) refl

module _ {A : Type 0} (measure : Row A → Option ℕ) where
  -- ════ The search as a loop, whose invariant says that what is found is that of b and the rows from the i-th on ════

  -- a first row is taken in
  least_cons : (b : Best) (i : ℕ) (r : Row A) (rs : List (Row A))
      → minimum_from measure b i (r ∷ rs) ≡ minimum_from measure (better b i (measure r)) (i + 1) rs
  unfolding minimum_from
  least_cons b i r rs = refl

  module _ (rs : List (Row A)) (i : ℕ) (b : Best) where
    -- the loop ends: no row is left
    pub least_ends : length rs ≤ i → minimum_from measure nothing 0 rs ≡ minimum_from measure b i (drop i rs) → minimum_from measure nothing 0 rs ≡ b
    unfolding minimum_from
    least_ends h from = from ∙ rw (drop_of_length-le rs h)

    module _ (d : Row A) (inside : i < length rs) where
      -- the i-th row is taken in
      pub least_from : minimum_from measure b i (drop i rs) ≡ minimum_from measure (better b i (measure (get_or rs i d))) (i + 1) (drop (i + 1) rs)
      least_from = rw (drop-cons rs i d) (least_cons b i (get_or rs i d) (drop (suc i) rs) ∙ rw (add-one i))

      -- the i-th row is taken in: the invariant at the next
      pub least_goes_on : minimum_from measure nothing 0 rs ≡ minimum_from measure b i (drop i rs)
          → minimum_from measure nothing 0 rs ≡ minimum_from measure (better b i (measure (get_or rs i d))) (i + 1) (drop (i + 1) rs)
      least_goes_on from = from ∙ least_from

  module _ (rs : List (Row A)) (d : Row A) where
    -- ════ What is found ════

    -- the measure of the row at an index
    abbrev pub measure_at : ℕ → Option ℕ
    measure_at i = measure (get_or rs i d)

    -- the search goes on rightly from what was right before the index i
    right_after : (left i : ℕ) (b : Best) → i + left ≡ length rs → RightBefore measure_at i b
        → RightBefore measure_at (length rs) (minimum_from measure b i (drop i rs))
    unfolding minimum_from
    right_after zero i b h right =
        let e : i ≡ length rs = omega arith in
        let l : length rs ≤ i = omega arith in
        rw (drop_of_length-le rs l, ← e) right
    right_after (suc left) i b h right =
        let inside : i < length rs = omega arith in
        rw (least_from rs i b d inside) (right_after left (i + 1) (better b i (measure_at i)) (omega arith) (right_better measure_at i b right))

    -- what the search finds is right
    pub least_right : RightBefore measure_at (length rs) (minimum_from measure nothing 0 rs)
    least_right = right_after (length rs) 0 nothing (omega arith) (λ q h. absurd (omega arith))

    -- the row that is found is the first with the least measure
    pub least_found : {j n : ℕ} → minimum_from measure nothing 0 rs ≡ best j n → LeastBefore measure_at (length rs) j n
    least_found h = rw h at least_right

    -- where nothing is found no row has a measure
    pub least_nothing : minimum_from measure nothing 0 rs ≡ nothing → (q : ℕ) → q < length rs → measure (get_or rs q d) ≡ none
    least_nothing h = rw h at least_right
