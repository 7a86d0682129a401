-- Laws of a retain: what is found after it, a retain as a loop over the rows, and how many it leaves. The i-th row is `get_or rs i d`,
-- with any row d. That it keeps rows sound is in `TableLaws`. Assumes nothing.
use Rattle.std.specs.Prelude.{Bool, cond, ◌≡◌, ℕ, ◌+◌, ◌≤◌, ◌<◌, take, get_or}
use Rattle.std.proofs.Math.Bool.{true, false}
use Rattle.std.proofs.Math.Path.{refl, ap}
use Rattle.std.proofs.Common.{◌∙◌, add-one, arith, length-take, take-suc, take_all}
use mathlib.Core.List.{List, [], ◌∷◌, ◌++◌, append-nil}
use Rattle.std.proofs.Math.Option.{Option, none, some}
use Rattle.std.proofs.Math.ListN.{length}
use Rattle.truths.specs.TruthLaws.{by_test, true_is_not_false}
use Rattle.pubkey.specs.Order.{compare_bytes}
use Rattle.pubkey.specs.OrderLaws.{compare_equal}
use Rattle.table.specs.Table.{Row, row_under, below, ascending, every, look, retain}
use Rattle.table.specs.TableLaws.{by_answer, ascending_parts, equal_below, before_below}
use Rattle.table.specs.TableLaws.{every_parts, every_cons, every_fails, sub_length, sub_below, sub_retain}
use Rattle.table.specs.LookLaws.{look_below, look_before, look_first, look_later}

module _ {A : Type 0} (test : Row A → Bool) where
  -- ════ The first row ════

  -- a first row that passes is retained
  pub retain_pass : (r : Row A) (rs : List (Row A)) → test r ≡ true → retain test (r ∷ rs) ≡ r ∷ retain test rs
  unfolding retain
  retain_pass r rs h = rw h

  -- a first row that fails is not
  pub retain_fail : (r : Row A) (rs : List (Row A)) → test r ≡ false → retain test (r ∷ rs) ≡ retain test rs
  unfolding retain
  retain_fail r rs h = rw h

  -- ════ What is found ════

  -- what was found for a key, if its row passes the test
  abbrev pub passing : List ℕ → Option A → Option A
  passing k none = none
  passing k (some e) = cond (test (row_under k e)) (some e) none

  -- after a retain a key is found if it was found in a row that passes
  pub look_retain : (k : List ℕ) (rs : List (Row A)) → ascending rs ≡ true → look k (retain test rs) ≡ passing k (look k rs)
  unfolding retain
  look_retain k [] order = rw (look_below k [] refl)
  look_retain k (r ∷ rs) order =
      let parts = ascending_parts r rs order in
      let rest : look k (retain test rs) ≡ passing k (look k rs) = look_retain k rs parts.1 in
      let left : below k rs ≡ true → look k (retain test rs) ≡ none =
      λ h. look_below k (retain test rs) (sub_below k (sub_retain test rs) parts.1 h) in
      by_answer (compare_bytes k r.key)
      (λ o. rw (look_before k r rs o) (by_test (test r)
      (λ t. rw t (look_before k r (retain test rs) o))
      (λ t. rw t (left (before_below r rs k order o)))))
      (λ o. let same : test (row_under k r.entry) ≡ test r = ap (λ (l : List ℕ). test (row_under l r.entry)) (compare_equal k r.key o) in
      rw (look_first k r rs o, same) (by_test (test r)
      (λ t. rw t (look_first k r (retain test rs) o))
      (λ t. rw t (left (equal_below r rs k order o)))))
      (λ o. rw (look_later k r rs o) (by_test (test r)
      (λ t. rw t (look_later k r (retain test rs) o ∙ rest))
      (λ t. rw t rest)))

  module _ (k : List ℕ) (rs : List (Row A)) (order : ascending rs ≡ true) where
    -- an entry whose row passes is found as before
    pub look_retain_pass : {e : A} → look k rs ≡ some e → test (row_under k e) ≡ true → look k (retain test rs) ≡ some e
    look_retain_pass h t = look_retain k rs order ∙ rw (h, t)

    -- an entry whose row fails is not found any more
    pub look_retain_fail : {e : A} → look k rs ≡ some e → test (row_under k e) ≡ false → look k (retain test rs) ≡ none
    look_retain_fail h t = look_retain k rs order ∙ rw (h, t)

    -- what was not found is not found
    pub look_retain_none : look k rs ≡ none → look k (retain test rs) ≡ none
    look_retain_none h = look_retain k rs order ∙ rw h

  -- ════ A retain as a loop ════

  -- a retain goes through rows one part after the other
  pub retain_append : (xs ys : List (Row A)) → retain test (xs ++ ys) ≡ retain test xs ++ retain test ys
  unfolding retain
  retain_append [] ys = refl
  retain_append (r ∷ xs) ys =
      let rest : retain test (xs ++ ys) ≡ retain test xs ++ retain test ys = retain_append xs ys in
      by_test (test r) (λ h. rw (h, rest)) (λ h. rw (h, rest))

  -- the loop begins: nothing is retained
  pub retain_begins : (rs : List (Row A)) → retain test (take 0 rs) ≡ []
  unfolding retain
  retain_begins rs = refl

  module _ (rs : List (Row A)) (i : ℕ) (d : Row A) (inside : i < length rs) where
    -- one turn: what the i-th row adds
    retain_step : retain test (take (i + 1) rs) ≡ retain test (take i rs) ++ retain test (get_or rs i d ∷ [])
    retain_step = rw (add-one, take-suc rs i d) (retain_append (take i rs) (get_or rs i d ∷ []))

    -- the i-th row passes: it comes behind those retained
    pub retain_keeps : test (get_or rs i d) ≡ true → retain test (take (i + 1) rs) ≡ retain test (take i rs) ++ (get_or rs i d ∷ [])
    unfolding retain
    retain_keeps h = retain_step ∙ rw (retain_pass (get_or rs i d) [] h)

    -- the i-th row fails: those retained stay
    pub retain_drops : test (get_or rs i d) ≡ false → retain test (take (i + 1) rs) ≡ retain test (take i rs)
    unfolding retain
    retain_drops h = retain_step ∙ rw (retain_fail (get_or rs i d) [] h) (append-nil (retain test (take i rs)))

  -- the loop ends: all rows have been tried
  pub retain_ends : (rs : List (Row A)) (i : ℕ) → length rs ≤ i → retain test (take i rs) ≡ retain test rs
  retain_ends rs i h = rw (take_all i rs h)

  -- no more rows are retained than were tried
  pub length_retain_tried : (rs : List (Row A)) (i : ℕ) → length (retain test (take i rs)) ≤ i
  length_retain_tried rs i = omega (arith, sub_length (sub_retain test (take i rs)), length-take i rs)

  -- ════ How many are left ════

  -- no more rows are left than there were
  pub length_retain : (rs : List (Row A)) → length (retain test rs) ≤ length rs
  length_retain rs = sub_length (sub_retain test rs)

  -- every row that is left passes
  pub retain_passes : (rs : List (Row A)) → every test (retain test rs) ≡ true
  unfolding retain every
  retain_passes [] = refl
  retain_passes (r ∷ rs) =
      let rest : every test (retain test rs) ≡ true = retain_passes rs in
      by_test (test r) (λ h. rw h (every_cons test r (retain test rs) h rest)) (λ h. rw h rest)

  -- rows that all pass are left as they are
  pub retain_all : (rs : List (Row A)) → every test rs ≡ true → retain test rs ≡ rs
  unfolding retain
  retain_all [] h = refl
  retain_all (r ∷ rs) h =
      let parts = every_parts test r rs h in
      rw (parts.0, retain_all rs parts.1)

  -- where not every row passes, fewer are left
  pub length_retain_fewer : (rs : List (Row A)) → every test rs ≡ false → length (retain test rs) < length rs
  unfolding retain every
  length_retain_fewer [] h = absurd (true_is_not_false refl h)
  length_retain_fewer (r ∷ rs) h =
      let rest : every test rs ≡ false → length (retain test rs) < length rs = length_retain_fewer rs in
      let most : length (retain test rs) ≤ length rs = length_retain rs in
      by_test (test r)
      (λ t. rw t (let fewer = rest (rw t at h) in omega arith))
      (λ t. rw t (omega arith))

  -- where the row at an index fails, fewer are left
  pub length_retain_fails : (rs : List (Row A)) (i : ℕ) (d : Row A) → i < length rs → test (get_or rs i d) ≡ false
      → length (retain test rs) < length rs
  length_retain_fails rs i d inside h = length_retain_fewer rs (every_fails test rs i d inside h)
