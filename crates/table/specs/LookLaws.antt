-- Laws of looking a key up in a table: what is found by the first row, after a store or an erase, what rule it keeps, and what is found
-- after rows are taken out. Another key is one that is not equal: `other ≡ k → ⊥`. After a retain: `RetainLaws`; after a row is taken out at an index: `PlaceLaws`. Assumes nothing.
use Rattle.std.specs.Prelude.{Bool, true, ◌⊎◌, ◌≡◌, ℕ}
use Rattle.std.proofs.Common.{inl, inr, ⊎_elim, ◌∙◌, arith}
use Rattle.std.proofs.Math.Path.{refl, sym}
use mathlib.Core.List.{List, [], ◌∷◌}
use Rattle.std.proofs.Math.Option.{Option, none, some}
use Rattle.std.specs.declared.cmp.Ordering.TheVariants.{Less, Equal, Greater}
use Rattle.pubkey.specs.Order.{compare_bytes}
use Rattle.pubkey.specs.OrderLaws.{compare_self, compare_equal, transitive}
use Rattle.table.specs.Table.{Row, row_under, by_order, below, ascending, every, look, store, erase}
use Rattle.table.specs.TableLaws.{by_answer, below_less, ascending_parts, equal_below, before_below, every_parts, Sub, done, keep, leave, sub_below}

module _ {A : Type 0} where
  -- an entry is not both found and not found
  pub some_is_not_none : {o : Option A} {e : A} → o ≡ some e → o ≡ none → ⊥
  some_is_not_none h k = let z : ◌≡◌ {A = ℕ} 0 1 = cc in omega arith

  -- ════ By the first row ════

  module _ (k : List ℕ) (r : Row A) (rs : List (Row A)) where
    -- a key that comes before the first row is not found
    pub look_before : compare_bytes k r.key ≡ Less → look k (r ∷ rs) ≡ none
    unfolding look
    look_before h = rw h

    -- the key of the first row is found with its entry
    pub look_first : compare_bytes k r.key ≡ Equal → look k (r ∷ rs) ≡ some r.entry
    unfolding look
    look_first h = rw h

    -- a key that comes after the first row is looked up in the others
    pub look_later : compare_bytes k r.key ≡ Greater → look k (r ∷ rs) ≡ look k rs
    unfolding look
    look_later h = rw h

    -- of a row with another key only the key counts
    look_past : (k ≡ r.key → ⊥) → look k (r ∷ rs) ≡ by_order (compare_bytes k r.key) none none (look k rs)
    unfolding look
    look_past ne =
        by_answer (compare_bytes k r.key) (λ o. rw o) (λ o. absurd (ne (compare_equal k r.key o))) (λ o. rw o)

    -- a row with another key may be left out, if the key is not found behind it where it comes before it
    look_skip : (k ≡ r.key → ⊥) → (compare_bytes k r.key ≡ Less → look k rs ≡ none) → look k (r ∷ rs) ≡ look k rs
    look_skip ne behind =
        by_answer (compare_bytes k r.key) (λ o. look_before o ∙ sym (behind o)) (λ o. absurd (ne (compare_equal k r.key o))) look_later

  -- behind the same row the same is found where it is without that row
  look_same_first : (k : List ℕ) (r : Row A) (xs ys : List (Row A)) → look k xs ≡ look k ys → look k (r ∷ xs) ≡ look k (r ∷ ys)
  unfolding look
  look_same_first k r xs ys h = rw h

  -- a key below the rows is not found
  pub look_below : (k : List ℕ) (rs : List (Row A)) → below k rs ≡ true → look k rs ≡ none
  unfolding look
  look_below k [] h = refl
  look_below k (r ∷ rs) h = look_before k r rs (below_less k r rs h)

  -- ════ After a store ════

  module _ (k : List ℕ) (e : A) where
    -- what is stored is found
    pub look_store_same : (rs : List (Row A)) → look k (store k e rs) ≡ some e
    unfolding store
    look_store_same [] = look_first k (record { key = k; entry = e }) [] (compare_self k)
    look_store_same (r ∷ rs) =
        let stored : Row A = record { key = k; entry = e } in
        let rest : look k (store k e rs) ≡ some e = look_store_same rs in
        by_answer (compare_bytes k r.key)
        (λ o. rw o (look_first k stored (r ∷ rs) (compare_self k)))
        (λ o. rw o (look_first k stored rs (compare_self k)))
        (λ o. rw o (look_later k r (store k e rs) o ∙ rest))

    -- what is found for any other key is as before
    pub look_store_other : (other : List ℕ) → (other ≡ k → ⊥) → (rs : List (Row A)) → look other (store k e rs) ≡ look other rs
    unfolding store
    look_store_other other ne [] = look_skip other (record { key = k; entry = e }) [] ne (λ p. look_below other [] refl)
    look_store_other other ne (r ∷ rs) =
        let stored : Row A = record { key = k; entry = e } in
        let rest : look other (store k e rs) ≡ look other rs = look_store_other other ne rs in
        by_answer (compare_bytes k r.key)
        (λ o. rw o (look_skip other stored (r ∷ rs) ne (λ p. look_before other r rs (transitive other k r.key p o))))
        (λ o. let same : k ≡ r.key = compare_equal k r.key o in
        rw o (look_past other stored rs ne ∙ rw same (sym (look_past other r rs (λ q. ne (q ∙ sym same))))))
        (λ o. rw o (look_same_first other r (store k e rs) rs rest))

  -- ════ After an erase ════

  module _ (k : List ℕ) where
    -- what is erased is not found
    pub look_erase_same : (rs : List (Row A)) → ascending rs ≡ true → look k (erase k rs) ≡ none
    unfolding erase
    look_erase_same [] order = look_below k [] refl
    look_erase_same (r ∷ rs) order =
        let rest : look k (erase k rs) ≡ none = look_erase_same rs (ascending_parts r rs order).1 in
        by_answer (compare_bytes k r.key)
        (λ o. rw o (look_before k r rs o))
        (λ o. rw o (look_below k rs (equal_below r rs k order o)))
        (λ o. rw o (look_later k r (erase k rs) o ∙ rest))

    -- what is found for any other key is as before
    pub look_erase_other : (other : List ℕ) → (other ≡ k → ⊥) → (rs : List (Row A)) → ascending rs ≡ true
        → look other (erase k rs) ≡ look other rs
    unfolding erase
    look_erase_other other ne [] order = refl
    look_erase_other other ne (r ∷ rs) order =
        let rest : look other (erase k rs) ≡ look other rs = look_erase_other other ne rs (ascending_parts r rs order).1 in
        by_answer (compare_bytes k r.key) (λ o. rw o)
        (λ o. rw o (sym (look_skip other r rs (λ q. ne (q ∙ sym (compare_equal k r.key o)))
        (λ p. look_below other rs (before_below r rs other order p)))))
        (λ o. rw o (look_same_first other r (erase k rs) rs rest))

  -- ════ What rule it keeps ════

  -- what is found keeps what rule all rows keep
  pub look_rule : (rule : Row A → Bool) (k : List ℕ) (rs : List (Row A)) {e : A} → every rule rs ≡ true → look k rs ≡ some e
      → rule (row_under k e) ≡ true
  look_rule rule k [] h found = absurd (some_is_not_none found (look_below k [] refl))
  look_rule rule k (r ∷ rs) {e} h found =
      let parts = every_parts rule r rs h in
      by_answer (compare_bytes k r.key)
      (λ o. absurd (some_is_not_none found (look_before k r rs o)))
      (λ o. let z : r.entry ≡ e = cc (look_first k r rs o) in rw (compare_equal k r.key o, ← z) parts.0)
      (λ o. look_rule rule k rs parts.1 (sym (look_later k r rs o) ∙ found))

  -- ════ After rows are taken out ════

  -- what is found after rows are taken out of ascending rows is what was found, or nothing
  pub sub_look : {xs ys : List (Row A)} → Sub xs ys → ascending ys ≡ true → (k : List ℕ) → (look k xs ≡ look k ys) ⊎ (look k xs ≡ none)
  sub_look done order k = inl refl
  sub_look (keep {r} {xs} {ys} s) order k =
      let rest = sub_look s (ascending_parts r ys order).1 k in
      by_answer (compare_bytes k r.key)
      (λ o. inl (look_before k r xs o ∙ sym (look_before k r ys o)))
      (λ o. inl (look_first k r xs o ∙ sym (look_first k r ys o)))
      (λ o. ⊎_elim (λ e. inl (look_later k r xs o ∙ e ∙ sym (look_later k r ys o))) (λ e. inr (look_later k r xs o ∙ e)) rest)
  sub_look (leave {r} {xs} {ys} s) order k =
      let behind : ascending ys ≡ true = (ascending_parts r ys order).1 in
      let rest = sub_look s behind k in
      by_answer (compare_bytes k r.key)
      (λ o. inr (look_below k xs (sub_below k s behind (before_below r ys k order o))))
      (λ o. inr (look_below k xs (sub_below k s behind (equal_below r ys k order o))))
      (λ o. ⊎_elim (λ e. inl (e ∙ sym (look_later k r ys o))) inr rest)

  -- what was not found is not found
  pub sub_look_none : {xs ys : List (Row A)} → Sub xs ys → ascending ys ≡ true → (k : List ℕ) → look k ys ≡ none → look k xs ≡ none
  sub_look_none s order k h = ⊎_elim (λ e. e ∙ h) (λ e. e) (sub_look s order k)

  -- what was found is found as it was, or not at all
  pub sub_look_some : {xs ys : List (Row A)} → Sub xs ys → ascending ys ≡ true → (k : List ℕ) {e : A} → look k ys ≡ some e
      → (look k xs ≡ some e) ⊎ (look k xs ≡ none)
  sub_look_some s order k h = ⊎_elim (λ e. inl (e ∙ h)) inr (sub_look s order k)
