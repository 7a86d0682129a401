-- A retain in memory, for a table of any layout, test, and entries rewritten on the way: each step of the walk keeps one row more or
-- drops one, and then the places freed become zeros. The walk's invariant is `KeptSo L test s qs i t k`: of the first i of the rows qs
-- those that pass stand at the front of t, and k counts them. In order: the walk over any rows; the walk that rewrites entries; the plain
-- walk. Assumes nothing.
use Rattle.std.specs.Prelude.{Bool, true, false, cond, ◌≡◌, refl, ℕ, zero, suc, ◌+◌, ◌-◌, ◌*◌, ◌≤◌, ◌<◌, take, get_or}
use Rattle.std.proofs.Common.{sym, ◌∙◌, arith, length-append}
use Rattle.std.proofs.Math.Path.{ap}
use mathlib.Core.List.{List, [], ◌∷◌, ◌++◌, append-nil}
use Rattle.std.proofs.Math.ListN.{length}
use Rattle.truths.specs.TruthLaws.{by_test}
use Rattle.lent_bytes.specs.LentBytes.{part, put, zeros, Bytes}
use Rattle.lent_bytes.specs.LentBytesLaws.{put_nil, put_put, length_part, Bytes_part}
use Rattle.table.specs.Table.{Row, every, retain}
use Rattle.table.specs.Memory.{Layout, row_bytes, row_of, rows, table_bytes, Holds}
use Rattle.table.specs.TableLaws.{every_at}
use Rattle.table.specs.RetainLaws.{retain_keeps, retain_drops, retain_ends, length_retain_tried}
use Rattle.table.specs.MemoryLaws.{Faithful, AllFit, length_rows, get_d_rows, row_bytes_row_of, length_table_bytes, table_bytes_append}
use Rattle.table.specs.MemoryLaws.{fit_rows, fit_take, fit_retain, part_kept, put_retained, holds}
use Rattle.table_laws.specs.Raw.{map_row, map_entries}
use Rattle.table_laws.specs.RawLaws.{length_map}
use Rattle.table_laws.specs.WalkLaws.{row_in}
use Rattle.table_laws.specs.Private.{Gathered, rewritten}

-- ════ The walk over any rows ════

-- of the first i rows those that pass stand at the front of the memory, and this is their number
pub record KeptSo {A : Type 0} (L : Layout A) (test : Row A → Bool) (s : List ℕ) (qs : List (Row A)) (i : ℕ) (t : List ℕ) (k : ℕ) : Type 0 where
  pub memory : t ≡ put s 0 (table_bytes L (retain test (take i qs)))
  pub count : k ≡ length (retain test (take i qs))

module _ {A : Type 0} {L : Layout A} {test : Row A → Bool} {s : List ℕ} {qs : List (Row A)} where
  -- no more rows are kept than were tried
  pub kept_most : {i k : ℕ} {t : List ℕ} → KeptSo L test s qs i t k → k ≤ i
  kept_most {i} h = omega (arith, h.count, length_retain_tried test qs i)

-- the walk begins: nothing is kept
pub kept_begins : {A : Type 0} (L : Layout A) (test : Row A → Bool) (s : List ℕ) (qs : List (Row A)) → KeptSo L test s qs 0 s 0
unfolding retain table_bytes
kept_begins L test s qs = record { memory = sym (put_nil s 0); count = refl }

module _ {A : Type 0} {L : Layout A} {Good : A → Type 0} (ok : Faithful L Good) (test : Row A → Bool) (s : List ℕ) (qs : List (Row A)) (fit : AllFit L Good qs) where
  kept_fit : (i : ℕ) → AllFit L Good (retain test (take i qs))
  kept_fit i = fit_retain ok test (take i qs) (fit_take ok i qs fit)

  -- the row at the i-th place of memory is as it was
  pub kept_place : {i k : ℕ} {t : List ℕ} → KeptSo L test s qs i t k → part t (L.width * i) L.width ≡ part s (L.width * i) L.width
  kept_place {i} h =
      ap (λ (x : List ℕ). part x (L.width * i) L.width) h.memory
      ∙ part_kept ok s i (retain test (take i qs)) (kept_fit i) (length_retain_tried test qs i)

  module _ {i k : ℕ} {t : List ℕ} (inside : i < length qs) (so : KeptSo L test s qs i t k) (r : Row A) (row : get_or qs i r ≡ r) where
    -- the i-th row fails: the rows kept stay
    step_drops : test r ≡ false → retain test (take (i + 1) qs) ≡ retain test (take i qs)
    step_drops h = retain_drops test qs i r inside (ap test row ∙ h)

    -- the i-th row passes: it comes behind those kept
    step_keeps : test r ≡ true → retain test (take (i + 1) qs) ≡ retain test (take i qs) ++ (r ∷ [])
    step_keeps h =
        retain_keeps test qs i r inside (ap test row ∙ h) ∙ ap (λ (q : Row A). retain test (take i qs) ++ (q ∷ [])) row

    -- what stands in memory when the i-th row was written behind those kept
    step_written : test r ≡ true → put t (L.width * k) (row_bytes L r) ≡ put s 0 (table_bytes L (retain test (take (i + 1) qs)))
    unfolding table_bytes
    step_written h =
        let kept : List (Row A) = retain test (take i qs) in
        let place : L.width * k ≡ 0 + length (table_bytes L kept) =
        ap (λ (m : ℕ). L.width * m) so.count ∙ omega (arith, length_table_bytes ok kept (kept_fit i)) in
        ap (λ (m : ℕ). put t m (row_bytes L r)) place
        ∙ ap (λ (x : List ℕ). put x (0 + length (table_bytes L kept)) (row_bytes L r)) so.memory
        ∙ put_put s 0 (table_bytes L kept) (row_bytes L r) (omega arith)
        ∙ ap (λ (l : List ℕ). put s 0 (table_bytes L kept ++ l)) (sym (append-nil (row_bytes L r)))
        ∙ ap (λ (l : List ℕ). put s 0 l) (sym (table_bytes_append L kept (r ∷ [])))
        ∙ ap (λ (rs : List (Row A)). put s 0 (table_bytes L rs)) (sym (step_keeps h))

    -- one step, with the i-th row r
    pub kept_step : (u : List ℕ) (l : ℕ) → u ≡ cond (test r) (put t (L.width * k) (row_bytes L r)) t → l ≡ cond (test r) (k + 1) k
        → KeptSo L test s qs (i + 1) u l
    kept_step u l after next =
        by_test (test r)
        (λ q. record {
          memory = after ∙ ap (λ (c : Bool). cond c (put t (L.width * k) (row_bytes L r)) t) q ∙ step_written q;
          count = next ∙ ap (λ (c : Bool). cond c (k + 1) k) q ∙ ap (λ (m : ℕ). m + 1) so.count
              ∙ sym (ap length (step_keeps q) ∙ length-append (retain test (take i qs)) (r ∷ []));
        })
        (λ q. record {
          memory = after ∙ ap (λ (c : Bool). cond c (put t (L.width * k) (row_bytes L r)) t) q ∙ so.memory
              ∙ ap (λ (rs : List (Row A)). put s 0 (table_bytes L rs)) (sym (step_drops q));
          count = next ∙ ap (λ (c : Bool). cond c (k + 1) k) q ∙ so.count ∙ ap length (sym (step_drops q));
        })

  -- the walk has ended: all rows have been tried
  pub kept_ends : {i k : ℕ} {t : List ℕ} → length qs ≤ i → KeptSo L test s qs i t k → Gathered L s t k (retain test qs)
  kept_ends {i} h so =
      let all : retain test (take i qs) ≡ retain test qs = retain_ends test qs i h in
      (so.memory ∙ ap (λ (rs : List (Row A)). put s 0 (table_bytes L rs)) all, so.count ∙ ap length all)

  -- and the places freed of n are zeros
  pub kept_removed : (n : ℕ) (t u : List ℕ) (k : ℕ) → t ≡ put s 0 (table_bytes L (retain test qs)) → k ≡ length (retain test qs)
      → u ≡ put t (L.width * k) (zeros (L.width * (n - k))) → Holds L s u n (retain test qs)
  kept_removed n t u k before many after =
      let left : List (Row A) = retain test qs in
      let left-fit : AllFit L Good left = fit_retain ok test qs fit in
      holds ok s u n left left-fit
      (after ∙ ap (λ (m : ℕ). put t (L.width * m) (zeros (L.width * (n - m)))) many
      ∙ ap (λ (x : List ℕ). put x (L.width * length left) (zeros (L.width * (n - length left)))) before
      ∙ put_retained ok s n left left-fit)

-- ════ The walk that rewrites entries on the way ════

-- the row at an index, with another entry
get_d_map : {A B : Type 0} (f : A → B) (rs : List (Row A)) (i : ℕ) (d : Row A) → get_or (map_entries f rs) i (map_row f d) ≡ map_row f (get_or rs i d)
unfolding map_entries
get_d_map f [] i d = refl
get_d_map f (r ∷ rs) zero d = refl
get_d_map f (r ∷ rs) (suc i) d = get_d_map f rs i d

module _ {A : Type 0} {L : Layout A} {Good : A → Type 0} (ok : Faithful L Good) (test : Row A → Bool) (f : A → A) (s : List ℕ) (n : ℕ) (fit : AllFit L Good (map_entries f (rows L s n))) where
  -- there are as many rows as before
  pub length_rewritten : length (map_entries f (rows L s n)) ≡ n
  length_rewritten = length_map f (rows L s n) ∙ length_rows L s n

  module _ {i k : ℕ} {t : List ℕ} (inside : i < n) (so : KeptSo L test s (map_entries f (rows L s n)) i t k) where
    -- the i-th of the rewritten rows is that of the place
    row_rewritten : get_or (map_entries f (rows L s n)) i (rewritten L f t i) ≡ rewritten L f t i
    row_rewritten =
        get_d_map f (rows L s n) i (row_of L (part t (L.width * i) L.width))
        ∙ ap (map_row f) (get_d_rows L s n i (row_of L (part t (L.width * i) L.width)) inside
        ∙ ap (row_of L) (sym (kept_place ok test s (map_entries f (rows L s n)) fit so)))

    -- one step: the row is written, rewritten, behind those kept, if it then passes
    pub keep_step : (u : List ℕ) (l : ℕ) → u ≡ cond (test (rewritten L f t i)) (put t (L.width * k) (row_bytes L (rewritten L f t i))) t
        → l ≡ cond (test (rewritten L f t i)) (k + 1) k → KeptSo L test s (map_entries f (rows L s n)) (i + 1) u l
    keep_step =
        kept_step ok test s (map_entries f (rows L s n)) fit (omega (arith, length_rewritten)) so (rewritten L f t i) row_rewritten

    -- a row that the walk has not come to still keeps the rule that all rows kept
    pub kept_rule : (rule : Row A → Bool) → every rule (rows L s n) ≡ true → rule (row_of L (part t (L.width * i) L.width)) ≡ true
    kept_rule rule h =
        let row : Row A = row_of L (part s (L.width * i) L.width) in
        ap (λ (x : List ℕ). rule (row_of L x)) (kept_place ok test s (map_entries f (rows L s n)) fit so)
        ∙ ap rule (sym (get_d_rows L s n i row inside)) ∙ every_at rule (rows L s n) i row h (omega (arith, length_rows L s n))

-- ════ The plain walk: no entry is rewritten ════

module _ {A : Type 0} {L : Layout A} {Good : A → Type 0} (ok : Faithful L Good) (test : Row A → Bool) (s : List ℕ) (n : ℕ) (b : Bytes s) (h : L.width * n ≤ length s) where
  -- one step: the row at the i-th place moves behind those kept, if it passes
  pub plain_step : {i k : ℕ} {t : List ℕ} → i < n → KeptSo L test s (rows L s n) i t k → (u : List ℕ) (l : ℕ)
      → u ≡ cond (test (row_of L (part t (L.width * i) L.width))) (put t (L.width * k) (part t (L.width * i) L.width)) t
      → l ≡ cond (test (row_of L (part t (L.width * i) L.width))) (k + 1) k → KeptSo L test s (rows L s n) (i + 1) u l
  plain_step {i} {k} {t} inside so u l after next =
      let fit : AllFit L Good (rows L s n) = fit_rows ok s n b h in
      let p : List ℕ = part t (L.width * i) L.width in
      let q : List ℕ = part s (L.width * i) L.width in
      let place : p ≡ q = kept_place ok test s (rows L s n) fit so in
      let spelt : row_bytes L (row_of L p) ≡ p =
      ap (λ (x : List ℕ). row_bytes L (row_of L x)) place
      ∙ row_bytes_row_of ok q (Bytes_part s (L.width * i) L.width b)
      (length_part s (L.width * i) L.width (row_in L.width i n (length s) inside h))
      ∙ sym place in
      kept_step ok test s (rows L s n) fit (omega (arith, length_rows L s n)) so (row_of L p)
      (get_d_rows L s n i (row_of L p) inside ∙ ap (row_of L) (sym place)) u l
      (after ∙ ap (λ (x : List ℕ). cond (test (row_of L p)) (put t (L.width * k) x) t) (sym spelt)) next

  -- the walk has ended: what stands in memory, and how many
  pub plain_ends : {i k : ℕ} {t : List ℕ} → n ≤ i → KeptSo L test s (rows L s n) i t k
      → Gathered L s t k (retain test (rows L s n))
  plain_ends e so = kept_ends ok test s (rows L s n) (fit_rows ok s n b h) (omega (arith, length_rows L s n)) so

  -- and the places freed are zeros
  pub plain_removed : (t u : List ℕ) (k : ℕ) → t ≡ put s 0 (table_bytes L (retain test (rows L s n))) → k ≡ length (retain test (rows L s n))
      → u ≡ put t (L.width * k) (zeros (L.width * (n - k))) → Holds L s u n (retain test (rows L s n))
  plain_removed = kept_removed ok test s (rows L s n) (fit_rows ok s n b h) n
