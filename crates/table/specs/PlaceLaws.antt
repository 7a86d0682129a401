-- Laws of places in a table: what a search answers, and what a store, an erase, a row taken out or put in do there. The i-th row is
-- `get_or rs i d`, with any row d. In order: answers; the first row; a key's place as a derivation, and what follows from it;
-- lengths; the laws of `At`; the laws of `Gap`; judging and searching; the row at an index; found or not. Assumes nothing.
use Rattle.std.specs.Prelude.{Bool, true, false, ◌&&◌, ◌⊎◌, ◌↔◌, ◌≡◌, List, [], ◌∷◌, ◌++◌, ℕ, zero, suc, ◌+◌, ◌≤◌, ◌<◌, length, take, drop, get_or, set}
use Rattle.std.proofs.Common.{inl, inr, ⊎_elim, sym, ◌∙◌, add-one, arith, length-append, length-drop, length-set}
use Rattle.std.proofs.Math.Path.{refl, ap}
use Rattle.std.proofs.Math.Option.{none, some}
use Rattle.std.proofs.Math.ListN.{length-take}
use Rattle.std.proofs.lemmas.List.{set_split}
use Rattle.truths.specs.TruthLaws.{by_test, both_parts}
use Rattle.std.specs.declared.cmp.Ordering.TheVariants.{Less, Equal, Greater}
use Rattle.pubkey.specs.Order.{compare_bytes}
use Rattle.pubkey.specs.OrderLaws.{compare_self, compare_equal, less_flip}
use Rattle.table.specs.declared.seek.Seek.{Seek}
use Rattle.table.specs.declared.seek.Seek.TheVariants.{Unsound, At, Gap}
use Rattle.table.specs.Table.{Row, ascending, every, look, store, erase, remove_at}
use Rattle.table.specs.Private.{place_from, seek, remove_run, insert_at}
use Rattle.table.specs.TableLaws.{by_answer, ascending_parts, below_each, remove_at_first, remove_at_later}
use Rattle.table.specs.LookLaws.{some_is_not_none, look_below, look_before, look_first, look_later, look_erase_same, look_erase_other}

-- ════ Answers ════

-- a key does not both stand at a place and miss
pub at_is_not_gap : {s : Seek} {i j : ℕ} → s ≡ At i → s ≡ Gap j → ⊥
at_is_not_gap h k = let z : ◌≡◌ {A = ℕ} 0 1 = cc in omega arith

-- where a key stands, the rows are not unsound
pub at_is_not_unsound : {s : Seek} {i : ℕ} → s ≡ At i → s ≡ Unsound → ⊥
at_is_not_unsound h k = let z : ◌≡◌ {A = ℕ} 0 1 = cc in omega arith

-- where a key misses, the rows are not unsound
pub gap_is_not_unsound : {s : Seek} {i : ℕ} → s ≡ Gap i → s ≡ Unsound → ⊥
gap_is_not_unsound h k = let z : ◌≡◌ {A = ℕ} 0 1 = cc in omega arith

module _ {A : Type 0} where
  -- ════ The first row ════

  module _ (i : ℕ) (k : List ℕ) (r : Row A) (rs : List (Row A)) where
    -- a key that comes before the first row misses there
    pub place_before : compare_bytes k r.key ≡ Less → place_from i k (r ∷ rs) ≡ Gap i
    unfolding place_from
    place_before h = rw h

    -- the key of the first row stands there
    pub place_first : compare_bytes k r.key ≡ Equal → place_from i k (r ∷ rs) ≡ At i
    unfolding place_from
    place_first h = rw h

    -- a key that comes after the first row is searched for in the others
    pub place_later : compare_bytes k r.key ≡ Greater → place_from i k (r ∷ rs) ≡ place_from (i + 1) k rs
    unfolding place_from
    place_later h = rw h

  -- ════ A key's place, as a derivation ════

  -- the key is that of the j-th row, and comes after those before it
  pub data Stands (k : List ℕ) : ℕ → List (Row A) → Type 0 where
    first : {r : Row A} {rs : List (Row A)} → compare_bytes k r.key ≡ Equal → Stands k 0 (r ∷ rs)
    later : {j : ℕ} {r : Row A} {rs : List (Row A)} → compare_bytes k r.key ≡ Greater → Stands k j rs → Stands k (suc j) (r ∷ rs)

  -- the key comes after the j rows before the gap, and before the row behind it, if there is one
  pub data Fits (k : List ℕ) : ℕ → List (Row A) → Type 0 where
    end : Fits k 0 []
    before : {r : Row A} {rs : List (Row A)} → compare_bytes k r.key ≡ Less → Fits k 0 (r ∷ rs)
    after : {j : ℕ} {r : Row A} {rs : List (Row A)} → compare_bytes k r.key ≡ Greater → Fits k j rs → Fits k (suc j) (r ∷ rs)

  -- every key stands somewhere or fits somewhere
  pub stands_or_fits : (k : List ℕ) (rs : List (Row A)) → ((j : ℕ) × Stands k j rs) ⊎ ((j : ℕ) × Fits k j rs)
  stands_or_fits k [] = inr (0, end)
  stands_or_fits k (r ∷ rs) =
      let rest = stands_or_fits k rs in
      by_answer (compare_bytes k r.key)
      (λ h. inr (0, before h))
      (λ h. inl (0, first h))
      (λ h. ⊎_elim (λ s. inl (suc s.0, later h s.1)) (λ f. inr (suc f.0, after h f.1)) rest)

  -- where a key stands is the place that a search answers, counted from i
  pub stands_place : {k : List ℕ} (i : ℕ) {j : ℕ} {rs : List (Row A)} → Stands k j rs → place_from i k rs ≡ At (i + j)
  stands_place {k} i (first {r} {rs} h) = place_first i k r rs h ∙ ap At (omega arith)
  stands_place {k} i (later {j} {r} {rs} h s) = place_later i k r rs h ∙ stands_place (i + 1) s ∙ ap At (omega arith)

  -- where a key fits is the gap that a search answers, counted from i
  pub fits_place : {k : List ℕ} (i : ℕ) {j : ℕ} {rs : List (Row A)} → Fits k j rs → place_from i k rs ≡ Gap (i + j)
  unfolding place_from
  fits_place i end = ap Gap (omega arith)
  fits_place {k} i (before {r} {rs} h) = place_before i k r rs h ∙ ap Gap (omega arith)
  fits_place {k} i (after {j} {r} {rs} h s) = place_later i k r rs h ∙ fits_place (i + 1) s ∙ ap Gap (omega arith)

  -- the place that a search answers, counted from i, is where the key stands
  pub place_stands : (i : ℕ) (k : List ℕ) (rs : List (Row A)) {j : ℕ} → place_from i k rs ≡ At j → (m : ℕ) × (j ≡ i + m) × Stands k m rs
  place_stands i k rs {j} h =
      ⊎_elim (λ s. let p = stands_place i s.1 in let e : j ≡ i + s.0 = cc in (s.0, e, s.1))
      (λ f. absurd (at_is_not_gap h (fits_place i f.1)))
      (stands_or_fits k rs)

  -- the gap that a search answers, counted from i, is where the key fits
  pub place_fits : (i : ℕ) (k : List ℕ) (rs : List (Row A)) {j : ℕ} → place_from i k rs ≡ Gap j → (m : ℕ) × (j ≡ i + m) × Fits k m rs
  place_fits i k rs {j} h =
      ⊎_elim (λ s. absurd (at_is_not_gap (stands_place i s.1) h))
      (λ f. let p = fits_place i f.1 in let e : j ≡ i + f.0 = cc in (f.0, e, f.1))
      (stands_or_fits k rs)

  -- a search never answers that the rows are unsound
  pub place_is_sound : (i : ℕ) (k : List ℕ) (rs : List (Row A)) → place_from i k rs ≡ Unsound → ⊥
  place_is_sound i k rs h =
      ⊎_elim (λ s. at_is_not_unsound (stands_place i s.1) h) (λ f. gap_is_not_unsound (fits_place i f.1) h) (stands_or_fits k rs)

  -- the same, counted from the first row
  pub stands_at : (k : List ℕ) (rs : List (Row A)) {j : ℕ} → place_from 0 k rs ≡ At j → Stands k j rs
  stands_at k rs {j} h =
      let s = place_stands 0 k rs h in
      let e : s.0 ≡ j = omega (arith, s.1) in
      rw e at s.2

  -- the same for a gap
  pub fits_at : (k : List ℕ) (rs : List (Row A)) {j : ℕ} → place_from 0 k rs ≡ Gap j → Fits k j rs
  fits_at k rs {j} h =
      let s = place_fits 0 k rs h in
      let e : s.0 ≡ j = omega (arith, s.1) in
      rw e at s.2

  -- ════ What follows from a derivation; the public laws, of `At` and of `Gap`, are below ════

  module _ {k : List ℕ} where
    stands_inside : {j : ℕ} {rs : List (Row A)} → Stands k j rs → j < length rs
    stands_inside (first h) = omega arith
    stands_inside (later h s) = let rest = stands_inside s in omega arith

    stands_key : {j : ℕ} {rs : List (Row A)} (d : Row A) → Stands k j rs → (get_or rs j d).key ≡ k
    stands_key d (first {r} h) = sym (compare_equal k r.key h)
    stands_key d (later h s) = stands_key d s

    stands_look : {j : ℕ} {rs : List (Row A)} (d : Row A) → Stands k j rs → look k rs ≡ some (get_or rs j d).entry
    stands_look d (first {r} {rs} h) = look_first k r rs h
    stands_look d (later {j} {r} {rs} h s) = look_later k r rs h ∙ stands_look d s

    stands_some : {j : ℕ} {rs : List (Row A)} → Stands k j rs → (e : A) × (look k rs ≡ some e)
    stands_some (first {r} {rs} h) = (r.entry, look_first k r rs h)
    stands_some (later {j} {r} {rs} h s) =
        let rest = stands_some s in
        (rest.0, look_later k r rs h ∙ rest.1)

    stands_set : {j : ℕ} {rs : List (Row A)} (e : A) → Stands k j rs → store k e rs ≡ set rs j (record { key = k; entry = e })
    unfolding store
    stands_set e (first h) = rw h
    stands_set e (later h s) = rw (h, stands_set e s)

    stands_erase : {j : ℕ} {rs : List (Row A)} → Stands k j rs → erase k rs ≡ remove_at j rs
    unfolding erase
    stands_erase (first {r} {rs} h) = rw (h, remove_at_first r rs)
    stands_erase (later {j} {r} {rs} h s) = rw (h, remove_at_later j r rs, stands_erase s)

    fits_inside : {j : ℕ} {rs : List (Row A)} → Fits k j rs → j ≤ length rs
    fits_inside end = omega arith
    fits_inside (before h) = omega arith
    fits_inside (after h s) = let rest = fits_inside s in omega arith

    fits_look : {j : ℕ} {rs : List (Row A)} → Fits k j rs → look k rs ≡ none
    fits_look end = look_below k [] refl
    fits_look (before {r} {rs} h) = look_before k r rs h
    fits_look (after {j} {r} {rs} h s) = look_later k r rs h ∙ fits_look s

    fits_store : {j : ℕ} {rs : List (Row A)} (e : A) → Fits k j rs → store k e rs ≡ insert_at j (record { key = k; entry = e }) rs
    unfolding store insert_at
    fits_store e end = refl
    fits_store e (before h) = rw h
    fits_store e (after h s) = rw (h, fits_store e s)

    fits_erase : {j : ℕ} {rs : List (Row A)} → Fits k j rs → erase k rs ≡ rs
    unfolding erase
    fits_erase end = refl
    fits_erase (before h) = rw h
    fits_erase (after h s) = rw (h, fits_erase s)

  -- ════ Lengths, with a row taken out or put in ════

  -- n rows fewer, when n neighbouring rows are taken out
  pub length_remove_run : (i n : ℕ) (rs : List (Row A)) → i + n ≤ length rs → length (remove_run i n rs) + n ≡ length rs
  unfolding remove_run
  length_remove_run i n rs inside = simp (length-append, length-take, length-drop) (omega arith)

  -- one row fewer, when a row is taken out
  pub length_remove_at : (j : ℕ) (rs : List (Row A)) → j < length rs → length (remove_at j rs) + 1 ≡ length rs
  unfolding remove_at remove_run
  length_remove_at j rs inside = length_remove_run j 1 rs (omega arith)

  -- one row more, when a row is put in
  pub length_insert_at : (j : ℕ) (r : Row A) (rs : List (Row A)) → j ≤ length rs → length (insert_at j r rs) ≡ length rs + 1
  unfolding insert_at
  length_insert_at j r rs inside = simp (length-append, length-take, length-drop) (omega arith)

  -- ════ The key stands at a place: `At` ════

  module _ (k : List ℕ) (rs : List (Row A)) {j : ℕ} (found : place_from 0 k rs ≡ At j) where
    -- the place is that of a row
    pub at_inside : j < length rs
    at_inside = stands_inside (stands_at k rs found)

    -- the row there has the key
    pub at_key : (d : Row A) → (get_or rs j d).key ≡ k
    at_key d = stands_key d (stands_at k rs found)

    -- its entry is what is found
    pub at_look : (d : Row A) → look k rs ≡ some (get_or rs j d).entry
    at_look d = stands_look d (stands_at k rs found)

    -- a store writes over that row
    pub at_set : (e : A) → store k e rs ≡ set rs j (record { key = k; entry = e })
    at_set e = stands_set e (stands_at k rs found)

    -- the same, by the rows before it and behind it
    pub at_store : (e : A) → store k e rs ≡ take j rs ++ (record { key = k; entry = e } ∷ drop (j + 1) rs)
    at_store e = at_set e ∙ rw (add-one, set_split rs j (record { key = k; entry = e }) at_inside)

    -- an erase takes that row out
    pub at_erase : erase k rs ≡ remove_at j rs
    at_erase = stands_erase (stands_at k rs found)

    -- as many rows after a store
    pub at_length_store : (e : A) → length (store k e rs) ≡ length rs
    at_length_store e = rw (at_set e) (length-set rs j (record { key = k; entry = e }))

    -- one row fewer after an erase
    pub at_length_erase : length (erase k rs) + 1 ≡ length rs
    at_length_erase = rw at_erase (length_remove_at j rs at_inside)

  -- ════ The key would stand at a gap: `Gap` ════

  module _ (k : List ℕ) (rs : List (Row A)) {j : ℕ} (gap : place_from 0 k rs ≡ Gap j) where
    -- the gap is before a row or behind the last
    pub gap_inside : j ≤ length rs
    gap_inside = fits_inside (fits_at k rs gap)

    -- the key is not found
    pub gap_look : look k rs ≡ none
    gap_look = fits_look (fits_at k rs gap)

    -- a store puts a row in there
    pub gap_store : (e : A) → store k e rs ≡ insert_at j (record { key = k; entry = e }) rs
    gap_store e = fits_store e (fits_at k rs gap)

    -- an erase changes nothing
    pub gap_erase : erase k rs ≡ rs
    gap_erase = fits_erase (fits_at k rs gap)

    -- one row more after a store
    pub gap_length_store : (e : A) → length (store k e rs) ≡ length rs + 1
    gap_length_store e = rw (gap_store e) (length_insert_at j (record { key = k; entry = e }) rs gap_inside)

    -- as many rows after an erase
    pub gap_length_erase : length (erase k rs) ≡ length rs
    gap_length_erase = rw gap_erase

  -- ════ Judging and searching ════

  -- the rows are sound, and the search answered this
  pub record Sought (rule : Row A → Bool) (k : List ℕ) (rs : List (Row A)) (answer : Seek) : Type 0 where
    pub rules : every rule rs ≡ true
    pub order : ascending rs ≡ true
    pub place : place_from 0 k rs ≡ answer

  module _ (rule : Row A → Bool) (k : List ℕ) (rs : List (Row A)) where
    -- in sound rows the key is searched for
    pub seek_sound : (every rule rs && ascending rs) ≡ true → seek rule k rs ≡ place_from 0 k rs
    unfolding seek
    seek_sound h = rw h

    -- the answer is that the rows are unsound just where they are
    pub seek_unsound : seek rule k rs ≡ Unsound ↔ ((every rule rs && ascending rs) ≡ false)
    unfolding seek
    seek_unsound = (
      λ h. by_test (every rule rs && ascending rs) (λ t. absurd (place_is_sound 0 k rs (rw t at h))) (λ t. t),
      λ h. rw h,
    )

    -- any other answer is that of a search in sound rows
    pub seek_sought : {answer : Seek} → seek rule k rs ≡ answer → (answer ≡ Unsound → ⊥) → Sought rule k rs answer
    seek_sought {answer} h sound =
        by_test (every rule rs && ascending rs)
        (λ t. let parts = both_parts (every rule rs) (ascending rs) t in
        record { rules = parts.0; order = parts.1; place = sym (seek_sound t) ∙ h })
        (λ t. absurd (sound (sym h ∙ seek_unsound.1 t)))

    -- the key stands at a place in sound rows
    pub seek_at : {j : ℕ} → seek rule k rs ≡ At j → Sought rule k rs (At j)
    seek_at h = seek_sought h (at_is_not_unsound refl)

    -- the key misses in sound rows
    pub seek_gap : {j : ℕ} → seek rule k rs ≡ Gap j → Sought rule k rs (Gap j)
    seek_gap h = seek_sought h (gap_is_not_unsound refl)

  -- ════ The row at an index ════

  -- the key of a row of ascending rows stands at that row
  stands_row : (rs : List (Row A)) (j : ℕ) (d : Row A) → ascending rs ≡ true → j < length rs → Stands (get_or rs j d).key j rs
  stands_row [] j d order inside = absurd (omega arith)
  stands_row (r ∷ rs) zero d order inside = first (compare_self r.key)
  stands_row (r ∷ rs) (suc j) d order inside =
      let parts = ascending_parts r rs order in
      let within : j < length rs = omega arith in
      later (less_flip r.key (get_or rs j d).key (below_each r.key rs j d parts.0 parts.1 within))
      (stands_row rs j d parts.1 within)

  module _ (rs : List (Row A)) (j : ℕ) (d : Row A) (order : ascending rs ≡ true) (inside : j < length rs) where
    -- a search for the key of a row finds that row
    pub row_place_lem : place_from 0 (get_or rs j d).key rs ≡ At j
    row_place_lem = stands_place 0 (stands_row rs j d order inside) ∙ ap At (omega arith)

    -- its entry is found for its key
    pub row_look : look (get_or rs j d).key rs ≡ some (get_or rs j d).entry
    row_look = stands_look d (stands_row rs j d order inside)

    -- to take a row out is to erase its key
    pub remove_at_erase : remove_at j rs ≡ erase (get_or rs j d).key rs
    remove_at_erase = sym (stands_erase (stands_row rs j d order inside))

    -- the key of a row taken out is not found
    pub look_remove_at_same : look (get_or rs j d).key (remove_at j rs) ≡ none
    look_remove_at_same = rw remove_at_erase (look_erase_same (get_or rs j d).key rs order)

    -- what is found for any other key is as before
    pub look_remove_at_other : (other : List ℕ) → (other ≡ (get_or rs j d).key → ⊥) → look other (remove_at j rs) ≡ look other rs
    look_remove_at_other other ne = rw remove_at_erase (look_erase_other (get_or rs j d).key other ne rs order)

  -- ════ Found or not ════

  module _ (k : List ℕ) (rs : List (Row A)) where
    -- what is found stands at a place
    pub look_some_at : {e : A} → look k rs ≡ some e → (j : ℕ) × (place_from 0 k rs ≡ At j)
    look_some_at h =
        ⊎_elim (λ s. (0 + s.0, stands_place 0 s.1)) (λ f. absurd (some_is_not_none h (fits_look f.1))) (stands_or_fits k rs)

    -- what is not found would stand at a gap
    pub look_none_gap : look k rs ≡ none → (j : ℕ) × (place_from 0 k rs ≡ Gap j)
    look_none_gap h =
        ⊎_elim (λ s. absurd (some_is_not_none (stands_some s.1).1 h)) (λ f. (0 + f.0, fits_place 0 f.1)) (stands_or_fits k rs)

    -- a store over what is found leaves as many rows
    pub length_store_some : {x : A} (e : A) → look k rs ≡ some x → length (store k e rs) ≡ length rs
    length_store_some e h = at_length_store k rs (look_some_at h).1 e

    -- a store of what is not found leaves one row more
    pub length_store_none : (e : A) → look k rs ≡ none → length (store k e rs) ≡ length rs + 1
    length_store_none e h = gap_length_store k rs (look_none_gap h).1 e

    -- an erase of what is found leaves one row fewer
    pub length_erase_some : {x : A} → look k rs ≡ some x → length (erase k rs) + 1 ≡ length rs
    length_erase_some h = at_length_erase k rs (look_some_at h).1

    -- an erase of what is not found leaves as many rows
    pub length_erase_none : look k rs ≡ none → length (erase k rs) ≡ length rs
    length_erase_none h = gap_length_erase k rs (look_none_gap h).1
