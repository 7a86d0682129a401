-- Rows changed in memory, for a table of any layout: a write leaves memory that holds the rows changed. What the writes are is said by
-- the contracts of crate `table`'s `rows`. In order: writes; places; stored and erased by key; two changes are one; from
-- raw rows to those of any layout. Assumes nothing.
use Rattle.std.specs.Prelude.{◌≡◌, refl, ℕ, ◌+◌, ◌-◌, ◌*◌, ◌≤◌, ◌<◌, max, length, take, drop}
use Rattle.std.proofs.Common.{sym, ◌∙◌, subst, mul-le-mul_left, arith, take-append-drop}
use Rattle.std.proofs.Math.Path.{ap}
use mathlib.Core.List.{List, [], ◌∷◌, ◌++◌}
use Rattle.std.proofs.Math.Option.{Option, none, some}
use Rattle.lent_bytes.specs.LentBytes.{part, put, zeros, Bytes}
use Rattle.lent_bytes.specs.LentBytesLaws.{length_part, Bytes_part}
use Rattle.table.specs.declared.seek.Seek.TheVariants.{At, Gap}
use Rattle.table.specs.Table.{Row, row_under, look, store, erase, remove_at}
use Rattle.table.specs.Private.{place_from, insert_at, remove_run}
use Rattle.table.specs.Memory.{Layout, row_bytes, row_of, rows, laid, Holds}
use Rattle.table.specs.TableLaws.{sub_remove_at, sub_remove_run}
use Rattle.table.specs.PlaceLaws.{at_inside, at_key, at_store, at_erase, at_length_store, at_length_erase, gap_inside, gap_store, gap_length_store, length_store_some, length_store_none}
use Rattle.table.specs.MemoryLaws.{Faithful, AllFit, Fit, length_rows, rows_cons, fit_rows, fit_append, fit_take, fit_drop, fit_insert_at, sub_fit}
use Rattle.table.specs.MemoryLaws.{put_remove, put_remove_run, put_insert, put_entry, holds, key_rows, key_row_of, laid_rows, laid_laid}
use Rattle.table_laws.specs.Raw.{raw_layout, map_entries}
use Rattle.table_laws.specs.RawLaws.{length_map, store_map, raw_rows, rows_raw, holds_raw}
use Rattle.table_laws.specs.WalkLaws.{row_in}
use Rattle.table_laws.specs.Private.{over, Counted, RawStored}

-- memory that holds rows, by an equation of the rows
pub holds_same : {A : Type 0} {L : Layout A} {s t : List ℕ} {n : ℕ} {rs qs : List (Row A)} → rs ≡ qs → Holds L s t n rs → Holds L s t n qs
holds_same {A} {L} {s} {t} {n} e h = subst (λ (l : List (Row A)). Holds L s t n l) e h

module _ {A : Type 0} {L : Layout A} {Good : A → Type 0} (ok : Faithful L Good) where
  -- ════ Writes ════

  module _ (s t : List ℕ) (n : ℕ) (b : Bytes s) (h : L.width * n ≤ length s) where
    all_fit : AllFit L Good (rows L s n)
    all_fit = fit_rows ok s n b h

    -- a row taken out
    pub removed : (i : ℕ) → i < n
        → t ≡ put s (L.width * i) (part s (L.width * (i + 1)) (L.width * (n - (i + 1))) ++ zeros L.width)
        → Holds L s t n (remove_at i (rows L s n))
    removed i k e =
        holds ok s t n (remove_at i (rows L s n)) (sub_fit ok (sub_remove_at i (rows L s n)) all_fit) (e ∙ put_remove ok s n i b h k)

    -- m neighbouring rows taken out
    pub removed_run : (i m : ℕ) → i + m ≤ n
        → t ≡ put s (L.width * i) (part s (L.width * (i + m)) (L.width * (n - (i + m))) ++ zeros (L.width * m))
        → Holds L s t n (remove_run i m (rows L s n))
    removed_run i m k e =
        holds ok s t n (remove_run i m (rows L s n)) (sub_fit ok (sub_remove_run i m (rows L s n)) all_fit) (e ∙ put_remove_run ok s n i m b h k)

    -- an entry's bytes written over those of the i-th
    pub overwritten : (i : ℕ) (e : A) (bytes : List ℕ) → i < n → Good e → bytes ≡ L.encode e
        → t ≡ put s (L.width * i + L.key_width) bytes → Holds L s t n (over L s n i e)
    overwritten i e bytes k good same w =
        let key : List ℕ = part s (L.width * i) L.key_width in
        let rs : List (Row A) = rows L s n in
        let inside : L.width * i + L.key_width ≤ length s = omega (arith, row_in L.width i n (length s) k h, ok.key_fits) in
        let fit : Fit L Good (row_under key e) =
        record {
          key_length = length_part s (L.width * i) L.key_width inside;
          key_bytes_lem = Bytes_part s (L.width * i) L.key_width b;
          entry_good = good;
        } in
        holds ok s t n (over L s n i e)
        (fit_append ok (take i rs) (row_under key e ∷ drop (i + 1) rs) (fit_take ok i rs all_fit) (fit, fit_drop ok (i + 1) rs all_fit))
        (w ∙ ap (λ (l : List ℕ). put s (L.width * i + L.key_width) l) same ∙ put_entry ok s n i (row_under key e) b h k refl good)

    -- a row put in before the i-th
    pub inserted : (i : ℕ) (key : List ℕ) (e : A) (bytes : List ℕ) → i ≤ n → length key ≡ L.key_width → Bytes key → Good e
        → bytes ≡ L.encode e → t ≡ put s (L.width * i) ((key ++ bytes) ++ part s (L.width * i) (L.width * (n - i)))
        → Holds L s t n (insert_at i (row_under key e) (rows L s n))
    unfolding row_bytes
    inserted i key e bytes k long key_bytes_lem good same w =
        let fit : Fit L Good (row_under key e) = record { key_length = long; key_bytes_lem = key_bytes_lem; entry_good = good } in
        holds ok s t n (insert_at i (row_under key e) (rows L s n)) (fit_insert_at ok i (row_under key e) (rows L s n) fit all_fit)
        (w ∙ ap (λ (l : List ℕ). put s (L.width * i) ((key ++ l) ++ part s (L.width * i) (L.width * (n - i)))) same
        ∙ put_insert ok s n i (row_under key e) b h k fit)

    -- nothing changed
    pub unchanged : t ≡ s → Holds L s t n (rows L s n)
    unchanged e = holds ok s t n (rows L s n) all_fit (e ∙ sym (laid_rows ok s n b h))

-- ════ Places ════

module _ {A : Type 0} (L : Layout A) (s : List ℕ) (n : ℕ) (k : List ℕ) (j : ℕ) where
  -- where the key stands is the index of a row
  pub place_inside : place_from 0 k (rows L s n) ≡ At j → j < n
  place_inside h = omega (arith, at_inside k (rows L s n) h, length_rows L s n)

  -- where the key would stand is before a row or behind the last
  pub gap_within : place_from 0 k (rows L s n) ≡ Gap j → j ≤ n
  gap_within h = omega (arith, gap_inside k (rows L s n) h, length_rows L s n)

-- ════ Stored and erased by key ════

module _ {A : Type 0} {L : Layout A} {Good : A → Type 0} (ok : Faithful L Good) (s t : List ℕ) (n : ℕ) (k : List ℕ) (j : ℕ) where
  -- the key that stands at its place
  own_key : place_from 0 k (rows L s n) ≡ At j → part s (L.width * j) L.key_width ≡ k
  own_key h =
      let d : Row A = row_of L [] in
      sym (key_rows ok s n j d (place_inside L s n k j h)) ∙ at_key k (rows L s n) h d

  -- a write over the row of the key is a store
  pub over_store : (e : A) → place_from 0 k (rows L s n) ≡ At j → over L s n j e ≡ store k e (rows L s n)
  over_store e h =
      ap (λ (l : List ℕ). take j (rows L s n) ++ (row_under l e ∷ drop (j + 1) (rows L s n))) (own_key h)
      ∙ sym (at_store k (rows L s n) h e)

  -- a store over the row of the key
  pub stored_at : (e : A) → place_from 0 k (rows L s n) ≡ At j → Holds L s t n (over L s n j e)
      → Counted L s t n n (store k e (rows L s n))
  stored_at e h held =
      (holds_same (over_store e h) held, sym (at_length_store k (rows L s n) h e ∙ length_rows L s n))

  -- a store into a row put in
  pub stored_gap : (e : A) → place_from 0 k (rows L s n) ≡ Gap j → Holds L s t n (insert_at j (row_under k e) (rows L s n))
      → Counted L s t n (n + 1) (store k e (rows L s n))
  stored_gap e h held = (
    holds_same (sym (gap_store k (rows L s n) h e)) held,
    sym (gap_length_store k (rows L s n) h e ∙ ap (λ (m : ℕ). m + 1) (length_rows L s n)),
  )

  -- the row of the key taken out is an erase
  pub erased_at : place_from 0 k (rows L s n) ≡ At j → Holds L s t n (remove_at j (rows L s n))
      → Counted L s t n (n - 1) (erase k (rows L s n))
  erased_at h held = (
    holds_same (sym (at_erase k (rows L s n) h)) held,
    omega (arith, at_length_erase k (rows L s n) h, length_rows L s n),
  )

  -- the entry that stands under the key, stored again: the rows as they are
  pub store_again : (e : A) → place_from 0 k (rows L s n) ≡ At j → e ≡ (row_of L (part s (L.width * j) L.width)).entry
      → store k e (rows L s n) ≡ rows L s n
  store_again e h read =
      let row : Row A = row_of L (part s (L.width * j) L.width) in
      let stands : row_under (part s (L.width * j) L.key_width) e ≡ row =
      ap (λ (l : List ℕ). row_under l e) (sym (key_row_of ok s (L.width * j))) ∙ ap (row_under row.key) read in
      sym (over_store e h) ∙ ap (λ (r : Row A). take j (rows L s n) ++ (r ∷ drop (j + 1) (rows L s n))) stands
      ∙ ap (λ (l : List (Row A)). take j (rows L s n) ++ l) (sym (rows_cons L s n j (place_inside L s n k j h)))
      ∙ take-append-drop j (rows L s n)

-- ════ Two changes are one ════

-- of two changes the second decides, where it wipes or covers what the first wrote behind the n rows
pub holds_holds : {A : Type 0} {L : Layout A} {Good : A → Type 0} → Faithful L Good → (s t u : List ℕ) (n : ℕ) (rs qs : List (Row A))
    → AllFit L Good rs → length rs ≤ max n (length qs) → Holds L s t n rs → Holds L t u (length rs) qs → Holds L s u n qs
holds_holds {L = L} ok s t u n rs qs f h first second =
    record {
      memory = second.memory ∙ ap (λ (l : List ℕ). laid L l (length rs) qs) first.memory ∙ laid_laid ok s n rs qs f h;
      reads = second.reads;
    }

-- ════ From raw rows to those of any layout ════

-- a store leaves at most one row more
pub length_store_most : {A : Type 0} (k : List ℕ) (e : A) (rs : List (Row A)) → length (store k e rs) ≤ length rs + 1
length_store_most {A} k e rs = by (look k rs) refl
  where
    by : (found : Option A) → look k rs ≡ found → length (store k e rs) ≤ length rs + 1
    by none h = omega (arith, length_store_none k rs e h)
    by (some x) h = omega (arith, length_store_some k rs e h)

-- a store among raw rows, of an entry's bytes, is a store of the entry among the rows
module _ {A : Type 0} {L : Layout A} {Good : A → Type 0} (ok : Faithful L Good) (s t : List ℕ) (n m : ℕ) (k : List ℕ) (e : A) (bytes : List ℕ) where
  stored_raw : Bytes t → L.width * (n + 1) ≤ length t → Good e → bytes ≡ L.encode e
      → Counted (raw_layout L.key_width L.width) s t n m (store k bytes (raw_rows L s n))
      → Counted L s t n m (store k e (rows L s n))
  stored_raw b room good same held =
      let raw : List (Row (List ℕ)) = raw_rows L s n in
      let most : length (store k bytes raw) ≤ n + 1 =
      omega (arith, length_store_most k bytes raw, length_rows (raw_layout L.key_width L.width) s n) in
      let fits : L.width * length (store k bytes raw) ≤ length t = omega (arith, mul-le-mul_left L.width most) in
      let decoded : L.decode bytes ≡ e = ap L.decode same ∙ ok.decode_encode e good in
      let stored : map_entries L.decode (store k bytes raw) ≡ store k e (rows L s n) =
      sym (store_map L.decode k bytes raw) ∙ ap (λ (x : A). store k x (map_entries L.decode raw)) decoded
      ∙ ap (store k e) (sym (rows_raw L s n)) in (
        holds_same stored (holds_raw ok s t n (store k bytes raw) b fits held.0),
        held.1 ∙ sym (length_map L.decode (store k bytes raw)) ∙ ap length stored,
      )

  -- the same of `keyed_rows::change::store`, which takes the keys' width from the key
  pub stored_under : Bytes t → L.width * (n + 1) ≤ length t → Good e → bytes ≡ L.encode e → length k ≡ L.key_width
      → RawStored L.width s t n m k bytes → Counted L s t n m (store k e (rows L s n))
  stored_under b room good same long held =
      stored_raw b room good same
      (subst
      (λ (w : ℕ). Counted (raw_layout w L.width) s t n m (store k bytes (rows (raw_layout w L.width) s n)))
      long held)
