-- Laws of a walk over the rows in lent memory, which the proofs of such loops cite: for any layout, rule and width of a key. In order:
-- places; keys; judging; the rule alone, for a table that judges it in a loop of its own; finding from a row on; rows whose fronts are
-- below the key's; rows passed, where they ascend; the walk that does both. Assumes nothing.
use Rattle.std.proofs.Math.Bool.{Bool, true}
use Rattle.std.specs.Prelude.{false, ◌&&◌, ◌≡◌, refl, ◌⊎◌, get_or}
use Rattle.std.proofs.Math.Path.{sym, ap}
use Rattle.std.proofs.Common.{◌∙◌, inl, inr, mul-suc, mul-le-mul_left, add-one, arith, drop_of_length-le}
use mathlib.Core.List.{List, [], ◌∷◌}
use Prim.Native.Nat.{ℕ, zero, suc, ◌+◌, ◌-◌, ◌*◌, ◌<◌, ◌≤◌}
use Rattle.std.proofs.Math.ListN.{length, drop}
use Rattle.std.proofs.Math.Seq.{take-take}
use Rattle.truths.specs.TruthLaws.{both_parts, second_fails}
use Rattle.lent_bytes.specs.LentBytes.{part, Bytes}
use Rattle.lent_bytes.specs.Private.{front}
use Rattle.lent_bytes.specs.LentBytesLaws.{part_all}
use Rattle.std.specs.declared.cmp.Ordering.TheVariants.{Less, Equal, Greater}
use Rattle.pubkey.specs.Order.{compare_bytes}
use Rattle.pubkey.specs.OrderLaws.{transitive, less_flip, greater_flip}
use Rattle.pubkey.specs.FrontLaws.{front_less}
use Rattle.table.specs.declared.seek.Seek.{Seek}
use Rattle.table.specs.declared.seek.Seek.TheVariants.{Unsound, At, Gap}
use Rattle.table.specs.Table.{Row, by_order, below, ascending, every}
use Rattle.table.specs.Private.{place_from, seek}
use Rattle.table.specs.Memory.{Layout, row_of, rows}
use Rattle.table.specs.TableLaws.{below_each, ascending_parts, sound_cons}
use Rattle.table.specs.PlaceLaws.{place_before, place_first, place_later, seek_sound, seek_unsound}
use Rattle.table.specs.MemoryLaws.{length_rows, get_d_rows, rows_cons}
use Rattle.table_laws.specs.Walk.{rises, row_at, follows, sound_from, Walkable, Walking}

-- ════ Places ════

-- a row lies in memory that n rows fit
pub row_in : (w i n m : ℕ) → i < n → w * n ≤ m → w * i + w ≤ m
row_in w i n m h k = omega (arith, mul-le-mul_left w h, mul-suc w i)

-- a row begins where the one before it ends
pub row_before : (w i : ℕ) → 0 < i → w * (i - 1) + w ≡ w * i
row_before w zero h = absurd (omega arith)
row_before w (suc i) h =
    let back : suc i - 1 ≡ i = omega arith in
    omega (arith, ap (λ (j : ℕ). w * j) back, mul-suc w i)

-- ════ Keys ════

-- a row but the first rises by its key and that of the one before it
pub rises_later : (w k : ℕ) (s : List ℕ) (i : ℕ) → 0 < i
    → rises w k s i ≡ by_order (compare_bytes (part s (w * (i - 1)) k) (part s (w * i) k)) true false false
rises_later w k s zero h = absurd (omega arith)
rises_later w k s (suc i) h =
    let e : suc i - 1 ≡ i = omega arith in
    sym (ap (λ (j : ℕ). by_order (compare_bytes (part s (w * j) k) (part s (w * suc i) k)) true false false) e)

-- a row whose front is above that of the one before it rises
pub rises_front : (m w k : ℕ) (s : List ℕ) (i : ℕ) → m ≤ k → k ≤ w → Bytes s → w * i + w ≤ length s
    → (0 < i → front m s (w * (i - 1)) < front m s (w * i)) → rises w k s i ≡ true
rises_front m w k s zero narrow fits b h above = refl
rises_front m w k s (suc i) narrow fits b h above =
    let e : suc i - 1 ≡ i = omega arith in
    let less : front m s (w * i) < front m s (w * suc i) =
    omega (arith, ap (λ (j : ℕ). front m s (w * j)) e, above (omega arith)) in
    ap (λ o. by_order o true false false)
    (front_less m k s (w * i) s (w * suc i) narrow b b (omega (arith, mul-suc w i)) (omega arith) less)

module _ {A : Type 0} (L : Layout A) where
  -- where the key of a row stands
  pub key_at : L.key_width ≤ L.width → (s : List ℕ) (i : ℕ) → (row_at L s i).key ≡ part s (L.width * i) L.key_width
  unfolding row_of part
  key_at fits s i = take-take L.key_width L.width (drop (L.width * i) s) fits

  -- ════ Judging ════

  module _ (fits : L.key_width ≤ L.width) (s : List ℕ) (n : ℕ) where
    -- the rows from the i-th on come after the one before them where the i-th rises
    follows_rises : (i : ℕ) → i < n → follows L s n i ≡ rises L.width L.key_width s i
    follows_rises zero h = refl
    follows_rises (suc i) h =
        let key : (row_at L s i).key ≡ part s (L.width * i) L.key_width = key_at fits s i in
        let next : (row_at L s (suc i)).key ≡ part s (L.width * suc i) L.key_width = key_at fits s (suc i) in
        ap (λ (rs : List (Row A)). below (row_at L s i).key rs) (rows_cons L s n (suc i) h)
        ∙ ap (λ (l : List ℕ). by_order (compare_bytes l (row_at L s (suc i)).key) true false false) key
        ∙ ap (λ (l : List ℕ). by_order (compare_bytes (part s (L.width * i) L.key_width) l) true false false) next

    module _ (rule : Row A → Bool) (i : ℕ) where
      -- no row is left
      pub sound_ends : n ≤ i → sound_from L rule s n i ≡ true
      unfolding sound_from every ascending
      sound_ends h =
          let most : length (rows L s n) ≤ i = omega (arith, length_rows L s n) in
          ended i (drop_of_length-le (rows L s n) most)
        where
          ended : (j : ℕ) → drop j (rows L s n) ≡ [] → sound_from L rule s n j ≡ true
          ended zero e = ap (λ (rs : List (Row A)). every rule rs && ascending rs) e
          ended (suc j) e = ap (λ (rs : List (Row A)). below (row_at L s j).key rs && (every rule rs && ascending rs)) e

      module _ (inside : i < n) where
        -- the next rows come after the i-th
        follows_next : follows L s n (i + 1) ≡ below (row_at L s i).key (drop (i + 1) (rows L s n))
        follows_next =
            ap (follows L s n) (add-one i) ∙ ap (λ (j : ℕ). below (row_at L s i).key (drop j (rows L s n))) (sym (add-one i))

        -- one row: it rises and keeps the rule, and so on
        sound_step : sound_from L rule s n i
            ≡ (rises L.width L.key_width s i && (rule (row_at L s i) && sound_from L rule s n (i + 1)))
        unfolding sound_from
        sound_step =
            let up : Bool = rises L.width L.key_width s i in
            let ruled : Bool = rule (row_at L s i) in
            let rest : List (Row A) = drop (i + 1) (rows L s n) in
            ap (λ (b : Bool). b && (every rule (drop i (rows L s n)) && ascending (drop i (rows L s n)))) (follows_rises i inside)
            ∙ ap (λ (rs : List (Row A)). up && (every rule rs && ascending rs)) (rows_cons L s n i inside)
            ∙ ap (λ (b : Bool). up && b) (sound_cons rule (row_at L s i) rest)
            ∙ ap (λ (b : Bool). up && (ruled && (b && (every rule rest && ascending rest)))) (sym follows_next)

        -- the i-th row breaks the rule
        pub sound_breaks_rule : rule (row_at L s i) ≡ false → sound_from L rule s n i ≡ false
        sound_breaks_rule h = sound_step ∙ second_fails (rises L.width L.key_width s i) (rw h)

        -- the i-th row does not come after the one before it
        pub sound_breaks_order : rises L.width L.key_width s i ≡ false → sound_from L rule s n i ≡ false
        sound_breaks_order h = sound_step ∙ rw h

        -- the i-th row is sound
        pub sound_goes_on : rule (row_at L s i) ≡ true → rises L.width L.key_width s i ≡ true
            → sound_from L rule s n i ≡ sound_from L rule s n (i + 1)
        sound_goes_on h k = sound_step ∙ rw (k, h)

  -- ════ The rule alone: the invariant says that every row keeps it just where those from the i-th on do ════

  module _ (rule : Row A → Bool) (s : List ℕ) (n i : ℕ) (from : every rule (rows L s n) ≡ every rule (drop i (rows L s n))) where
    -- no row is left
    pub rules_end : n ≤ i → every rule (rows L s n) ≡ true
    unfolding every
    rules_end h =
        let most : length (rows L s n) ≤ i = omega (arith, length_rows L s n) in
        from ∙ ap (every rule) (drop_of_length-le (rows L s n) most)

    module _ (inside : i < n) where
      rules_step : every rule (rows L s n) ≡ (rule (row_at L s i) && every rule (drop (i + 1) (rows L s n)))
      unfolding every
      rules_step = from ∙ ap (every rule) (rows_cons L s n i inside)

      -- the i-th row breaks the rule
      pub rules_break : rule (row_at L s i) ≡ false → every rule (rows L s n) ≡ false
      rules_break h = rules_step ∙ rw h

      -- the i-th row keeps the rule
      pub rules_go_on : rule (row_at L s i) ≡ true → every rule (rows L s n) ≡ every rule (drop (i + 1) (rows L s n))
      rules_go_on h = rules_step ∙ rw h

  -- rows that do not all keep the rule are unsound
  pub rules_fail : (rule : Row A → Bool) (s : List ℕ) (n : ℕ) (k : List ℕ) → every rule (rows L s n) ≡ false → Unsound ≡ seek rule k (rows L s n)
  rules_fail rule s n k h = sym ((seek_unsound rule k (rows L s n)).1 (rw h))

  -- ════ Finding from a row on: the invariant says that the answer is the key's place among the rows from the i-th on ════

  module _ (fits : L.key_width ≤ L.width) (k s : List ℕ) (n : ℕ) (answer : Seek) (i : ℕ)
      (from : answer ≡ place_from i k (drop i (rows L s n))) where
    -- no row is left
    pub find_ends : n ≤ i → answer ≡ Gap i
    unfolding place_from
    find_ends h =
        let most : length (rows L s n) ≤ i = omega (arith, length_rows L s n) in
        from ∙ rw (drop_of_length-le (rows L s n) most)

    module _ (inside : i < n) where
      -- the answer, by the i-th row and those behind it
      from_row : answer ≡ place_from i k (row_at L s i ∷ drop (i + 1) (rows L s n))
      from_row = from ∙ ap (λ (rs : List (Row A)). place_from i k rs) (rows_cons L s n i inside)

      -- the key comes before the i-th row
      pub find_before : compare_bytes k (part s (L.width * i) L.key_width) ≡ Less → answer ≡ Gap i
      find_before h = from_row ∙ place_before i k (row_at L s i) (drop (i + 1) (rows L s n)) (rw (key_at fits s i) h)

      -- the key is that of the i-th row
      pub find_finds : compare_bytes k (part s (L.width * i) L.key_width) ≡ Equal → answer ≡ At i
      find_finds h = from_row ∙ place_first i k (row_at L s i) (drop (i + 1) (rows L s n)) (rw (key_at fits s i) h)

      -- the key comes after the i-th row
      pub find_goes_on : compare_bytes k (part s (L.width * i) L.key_width) ≡ Greater
          → answer ≡ place_from (i + 1) k (drop (i + 1) (rows L s n))
      find_goes_on h = from_row ∙ place_later i k (row_at L s i) (drop (i + 1) (rows L s n)) (rw (key_at fits s i) h)

-- ════ Rows whose fronts are below the key's ════

module _ {A : Type 0} (L : Layout A) (m : ℕ) (s : List ℕ) (n : ℕ) (k : List ℕ) (on : Walkable L m s n k) (i : ℕ) (inside : i < n)
    (less : front m s (L.width * i) < front m k 0) where
  -- the key comes after such a row
  passes : compare_bytes k (part s (L.width * i) L.key_width) ≡ Greater
  passes =
      let w : ℕ = L.key_width in
      let own : List ℕ = part s (L.width * i) w in
      let all : part k 0 w ≡ k = ap (part k 0) (sym on.key_length) ∙ part_all k in
      let room : L.width * i + w ≤ length s = omega (arith, row_in L.width i n (length s) inside on.rows_fit, on.key_fits) in
      let first : compare_bytes own (part k 0 w) ≡ Less =
      front_less m w s (L.width * i) k 0 on.front_fits on.memory_bytes on.key_bytes_lem room (omega (arith, on.key_length)) less in
      less_flip own k (ap (compare_bytes own) (sym all) ∙ first)

  -- so a search goes on behind it, whatever the order of the rows
  pub find_passes : (answer : Seek) → answer ≡ place_from i k (drop i (rows L s n))
      → answer ≡ place_from (i + 1) k (drop (i + 1) (rows L s n))
  find_passes answer from = find_goes_on L on.key_fits k s n answer i from inside passes

-- ════ Rows passed, where they ascend ════

module _ {A : Type 0} where
  -- where a key comes after one of ascending rows, it comes after each up to that one
  after_earlier : (k : List ℕ) (rs : List (Row A)) (p i : ℕ) (d : Row A) → ascending rs ≡ true → p ≤ i → i < length rs
      → compare_bytes k (get_or rs i d).key ≡ Greater → compare_bytes k (get_or rs p d).key ≡ Greater
  after_earlier k [] p i d order most inside after = absurd (omega arith)
  after_earlier k (r ∷ rs) zero zero d order most inside after = after
  after_earlier k (r ∷ rs) (suc p) zero d order most inside after = absurd (omega arith)
  after_earlier k (r ∷ rs) (suc p) (suc i) d order most inside after =
      after_earlier k rs p i d (ascending_parts r rs order).1 (omega arith) (omega arith) after
  after_earlier k (r ∷ rs) zero (suc i) d order most inside after =
      let parts = ascending_parts r rs order in
      let own : List ℕ = (get_or rs i d).key in
      let less : compare_bytes r.key own ≡ Less = below_each r.key rs i d parts.0 parts.1 (omega arith) in
      less_flip r.key k (transitive r.key own k less (greater_flip k own after))

  -- the same in memory
  after_row : (L : Layout A) → L.key_width ≤ L.width → (k s : List ℕ) (n p i : ℕ) → ascending (rows L s n) ≡ true → p ≤ i → i < n
      → compare_bytes k (part s (L.width * i) L.key_width) ≡ Greater → compare_bytes k (part s (L.width * p) L.key_width) ≡ Greater
  after_row L fits k s n p i order most inside after =
      let d : Row A = row_at L s i in
      let key : (j : ℕ) → j < n → (get_or (rows L s n) j d).key ≡ part s (L.width * j) L.key_width =
      λ j h. ap (λ (r : Row A). r.key) (get_d_rows L s n j d h) ∙ key_at L fits s j in
      ap (compare_bytes k) (sym (key p (omega arith)))
      ∙ after_earlier k (rows L s n) p i d order most (omega (arith, length_rows L s n)) (ap (compare_bytes k) (key i inside) ∙ after)

-- ════ The walk that judges and finds ════

module _ {A : Type 0} (L : Layout A) (rule : Row A → Bool) (m : ℕ) (s : List ℕ) (n : ℕ) (k : List ℕ) where
  -- before the first row nothing is known
  pub walk_begins : (last : ℕ) → Walking L rule m s n k 0 last 0
  walk_begins last =
      record { inside = omega arith; judged = refl; carried = λ h. absurd (omega arith); place_inside = omega arith; passed = λ order. refl }

  -- rows that are not sound from the first on are not sound
  walk_fails : sound_from L rule s n 0 ≡ false → Unsound ≡ seek rule k (rows L s n)
  unfolding sound_from
  walk_fails h = sym ((seek_unsound rule k (rows L s n)).1 h)

  module _ (on : Walkable L m s n k) (i last place : ℕ) (at : Walking L rule m s n k i last place) where
    -- the i-th row breaks the rule
    pub walk_breaks_rule : i < n → rule (row_at L s i) ≡ false → Unsound ≡ seek rule k (rows L s n)
    walk_breaks_rule h broken = walk_fails (at.judged ∙ sound_breaks_rule L on.key_fits s n rule i h broken)

    -- the i-th row does not come after the one before it
    pub walk_breaks_order : i < n → rises L.width L.key_width s i ≡ false → Unsound ≡ seek rule k (rows L s n)
    walk_breaks_order h broken = walk_fails (at.judged ∙ sound_breaks_order L on.key_fits s n rule i h broken)

    -- the key comes after a row whose front is below its own, so after the one at the place, which is no later: it is sought behind that
    counts : i < n → front m s (L.width * i) < front m k 0 → ascending (rows L s n) ≡ true
        → place_from 0 k (rows L s n) ≡ place_from (place + 1) k (drop (place + 1) (rows L s n))
    counts h less order =
        find_goes_on L on.key_fits k s n (place_from 0 k (rows L s n)) place (at.passed order) (omega (arith, at.place_inside))
        (after_row L on.key_fits k s n place i order at.place_inside h (passes L m s n k on i h less))

    module _ (inside : i < n) (ruled : rule (row_at L s i) ≡ true) (risen : rises L.width L.key_width s i ≡ true)
        (own next : ℕ) (front_is : own ≡ front m s (L.width * i)) where
      -- the i-th row is sound, and the key's place is that among the rows from the next place on
      stepped : (from : ℕ) → next ≡ from → from ≤ i + 1
          → (ascending (rows L s n) ≡ true → place_from 0 k (rows L s n) ≡ place_from from k (drop from (rows L s n)))
          → Walking L rule m s n k (i + 1) own next
      stepped from e most found =
          let back : i ≡ i + 1 - 1 = omega arith in
          record {
            inside = omega arith;
            judged = at.judged ∙ sound_goes_on L on.key_fits s n rule i inside ruled risen;
            carried = λ h. front_is ∙ ap (λ (j : ℕ). front m s (L.width * j)) back;
            place_inside = omega arith;
            passed = λ order. rw e (found order);
          }

      -- the i-th row is sound: the invariant at the next. The place may stay, and counts the row only where its front is below the key's
      pub walk_goes_on : ((own < front m k 0) × (next ≡ place + 1)) ⊎ (next ≡ place) → Walking L rule m s n k (i + 1) own next
      walk_goes_on (inl w) = stepped (place + 1) w.1 (omega (arith, at.place_inside)) (counts inside (omega (arith, front_is, w.0)))
      walk_goes_on (inr e) = stepped place e (omega (arith, at.place_inside)) at.passed

    -- no row is left, and the key was sought from its place on
    pub walk_ends : {r : Seek} → n ≤ i → r ≡ place_from place k (drop place (rows L s n)) → r ≡ seek rule k (rows L s n)
    unfolding sound_from
    walk_ends h found =
        let sound : (every rule (rows L s n) && ascending (rows L s n)) ≡ true = at.judged ∙ sound_ends L on.key_fits s n rule i h in
        let order : ascending (rows L s n) ≡ true = (both_parts (every rule (rows L s n)) (ascending (rows L s n)) sound).1 in
        found ∙ sym (seek_sound rule k (rows L s n) sound ∙ at.passed order)
