-- Laws of a table lent to a call: what soundness says part by part, what the first walk's answer says, and what is found for a key that
-- has a row or has none. In order: the memory's length; the walk's answer; soundness; a key with a row; a key without. Assumes nothing.
use Rattle.std.specs.Prelude.{◌≡◌, refl, Bool, true, false, ◌&&◌, cond, List, ℕ, ◌+◌, ◌*◌, ◌/◌, ◌≤◌, ◌<◌, length}
use Rattle.std.proofs.Common.{sym, ap, ◌∙◌, mul_comm, mul-le-mul_left, le-div_iff_mul-le, div-lt_iff_lt-mul, arith, leb-true, le-leb}
use Rattle.std.proofs.Math.Option.{none, some}
use Rattle.std.proofs.lemmas.Bool.{lt-leb}
use Rattle.truths.specs.TruthLaws.{both, both_parts}
use Rattle.lent_bytes.specs.LentBytes.{part}
use Rattle.table.specs.declared.seek.Seek.{Seek}
use Rattle.table.specs.declared.seek.Seek.TheVariants.{Unsound, At, Gap}
use Rattle.table.specs.Table.{Row, every, ascending, look}
use Rattle.table.specs.Private.{seek}
use Rattle.table.specs.Memory.{Layout, row_of, rows}
use Rattle.table.specs.TableLaws.{every_at}
use Rattle.table.specs.PlaceLaws.{Sought, at_is_not_unsound, gap_is_not_unsound, seek_sought, seek_unsound, at_look, gap_look}
use Rattle.table.specs.MemoryLaws.{length_rows, get_d_rows}
use Rattle.table_laws.specs.ChangeLaws.{place_inside, gap_within}
use Rattle.table_laws.specs.WalkLaws.{row_in}
use Rattle.table_laws.specs.Lent.{long_enough, rows_sound, lent_sound}
use Rattle.table_laws.specs.Private.{lent_sought, Known, Unknown}

-- ════ The memory's length, by whole rows ════

module _ {A : Type 0} (L : Layout A) (limit : ℕ) (s : List ℕ) (wide : 0 < L.width) where
  -- the limit's rows go into it
  pub long_enough_lem : limit ≤ length s / L.width → long_enough L limit s ≡ true
  long_enough_lem h = le-leb (L.width * limit) (length s) (omega (arith, (le-div_iff_mul-le wide).0 h, mul_comm limit L.width))

  -- they don't
  pub too_short_lem : length s / L.width < limit → long_enough L limit s ≡ false
  too_short_lem h = lt-leb (L.width * limit) (length s) (omega (arith, (div-lt_iff_lt-mul wide).0 h, mul_comm limit L.width))

-- ════ What the walk answers ════

refused_by : (own long sound : Bool) (found : Seek) → (found ≡ Unsound → sound ≡ false) → cond (own && long) found Unsound ≡ Unsound
    → (own && (long && sound)) ≡ false
refused_by true true r found f h = f h
refused_by true false r found f h = refl
refused_by false l r found f h = refl

-- own rules and length were sound, and the walk over the rows answered
record Walked (own long : Bool) (found answer : Seek) : Type 0 where
  first : own ≡ true
  second : long ≡ true
  third : found ≡ answer

walked_by : (own long : Bool) (found answer : Seek) → (answer ≡ Unsound → ⊥) → cond (own && long) found Unsound ≡ answer
    → Walked own long found answer
walked_by true true found answer n h = record { first = refl; second = refl; third = h }
walked_by true false found answer n h = absurd (n (sym h))
walked_by false l found answer n h = absurd (n (sym h))

module _ {A : Type 0} (L : Layout A) (rule : Row A → Bool) (own : Bool) (limit : ℕ) (s : List ℕ) (n : ℕ) where
  module _ (k : List ℕ) where
    -- the walk over the rows is the answer, where own rules and length are sound
    pub sought_rows : own ≡ true → long_enough L limit s ≡ true → lent_sought L rule own limit s n k ≡ seek rule k (rows L s n)
    unfolding lent_sought
    sought_rows h l = rw (h, l)

    -- the record breaks its own rules
    pub sought_own : own ≡ false → lent_sought L rule own limit s n k ≡ Unsound
    unfolding lent_sought
    sought_own h = rw h

    -- the memory is too short
    pub sought_length : own ≡ true → long_enough L limit s ≡ false → lent_sought L rule own limit s n k ≡ Unsound
    unfolding lent_sought
    sought_length h l = rw (h, l)

    -- Unsound: record and memory are unsound
    pub sought_unsound : lent_sought L rule own limit s n k ≡ Unsound → lent_sound L rule own limit s n ≡ false
    unfolding lent_sought lent_sound
    sought_unsound h =
        refused_by own (long_enough L limit s) (rows_sound L rule s n) (seek rule k (rows L s n))
        (λ u. (seek_unsound rule k (rows L s n)).0 u) h

    -- the answer of a search in a sound record and memory
    record Judged (answer : Seek) : Type 0 where
      is_sound : lent_sound L rule own limit s n ≡ true
      sought : Sought rule k (rows L s n) answer

    judged_by : {answer : Seek} → (answer ≡ Unsound → ⊥) → lent_sought L rule own limit s n k ≡ answer → Judged answer
    unfolding lent_sought lent_sound
    judged_by {answer} not_unsound h =
        let w = walked_by own (long_enough L limit s) (seek rule k (rows L s n)) answer not_unsound h in
        let found = seek_sought rule k (rows L s n) w.third not_unsound in
        record { is_sound = both w.first (both w.second (both found.rules found.order)); sought = found }

    -- At: the key's row is there
    pub sought_known : {i : ℕ} → lent_sought L rule own limit s n k ≡ At i → Known L rule own limit s n k i
    sought_known h =
        let j = judged_by (at_is_not_unsound refl) h in
        record { is_sound = j.is_sound; place = j.sought.place }

    -- Gap: the key has no row
    pub sought_unknown : {i : ℕ} → lent_sought L rule own limit s n k ≡ Gap i → Unknown L rule own limit s n k i
    sought_unknown h =
        let j = judged_by (gap_is_not_unsound refl) h in
        record { is_sound = j.is_sound; place = j.sought.place }

  -- ════ What soundness says ════

  module _ (h : lent_sound L rule own limit s n ≡ true) where
    -- the record keeps its own rules
    pub own_sound_lem : own ≡ true
    unfolding lent_sound
    own_sound_lem = (both_parts own _ h).0

    memory_sound : (long_enough L limit s && rows_sound L rule s n) ≡ true
    unfolding lent_sound
    memory_sound = (both_parts own _ h).1

    -- the memory has room for the limit
    pub limit_fits : L.width * limit ≤ length s
    limit_fits = leb-true (L.width * limit) (length s) (both_parts (long_enough L limit s) _ memory_sound).0

    rows_sound_lem : rows_sound L rule s n ≡ true
    rows_sound_lem = (both_parts (long_enough L limit s) _ memory_sound).1

    -- every row keeps its rule
    pub rules_kept : every rule (rows L s n) ≡ true
    rules_kept = (both_parts (every rule (rows L s n)) (ascending (rows L s n)) rows_sound_lem).0

    -- the keys ascend
    pub order_kept : ascending (rows L s n) ≡ true
    order_kept = (both_parts (every rule (rows L s n)) (ascending (rows L s n)) rows_sound_lem).1

    -- the memory has room for the rows, which are no more than the limit
    pub rows_fit : n ≤ limit → L.width * n ≤ length s
    rows_fit few = omega (arith, mul-le-mul_left L.width few, limit_fits)

  -- ════ A key that has a row ════

  module _ (k : List ℕ) (i : ℕ) (h : Known L rule own limit s n k i) where
    -- its row is one of the n
    pub known_inside : i < n
    known_inside = place_inside L s n k i h.place

    -- and stands within the memory
    pub known_fits : n ≤ limit → L.width * i + L.width ≤ length s
    known_fits few = row_in L.width i n (length s) known_inside (rows_fit h.is_sound few)

    -- the row keeps its rule
    pub known_rule : rule (row_of L (part s (L.width * i) L.width)) ≡ true
    known_rule =
        let row : Row A = row_of L (part s (L.width * i) L.width) in
        ap rule (sym (get_d_rows L s n i row known_inside))
        ∙ every_at rule (rows L s n) i row (rules_kept h.is_sound) (omega (arith, known_inside, length_rows L s n))

    -- the entry read there is what is found
    pub known_look : (e : A) → e ≡ (row_of L (part s (L.width * i) L.width)).entry → look k (rows L s n) ≡ some e
    known_look e read =
        let row : Row A = row_of L (part s (L.width * i) L.width) in
        at_look k (rows L s n) h.place row ∙ ap (λ (r : Row A). some r.entry) (get_d_rows L s n i row known_inside)
        ∙ ap some (sym read)

  -- ════ A key that has none ════

  module _ (k : List ℕ) (i : ℕ) (h : Unknown L rule own limit s n k i) where
    -- it would stand before a row or behind the last
    pub unknown_within : i ≤ n
    unknown_within = gap_within L s n k i h.place

    -- nothing is found
    pub unknown_look : look k (rows L s n) ≡ none
    unknown_look = gap_look k (rows L s n) h.place
