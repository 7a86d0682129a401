-- Laws of a table's rows: when they are sound, and that they stay so. What is found after a change is in `LookLaws`, what a retain
-- leaves in `RetainLaws`, places in `PlaceLaws`, the least row in `MinimumLaws`. In all of them the i-th row is `get_or rs i d`, with any
-- row d. In order: tests; the first row; the row at an index; rows taken out; soundness kept. Assumes nothing.
use Rattle.std.specs.Prelude.{Bool, false, ◌&&◌, ◌≡◌, length, drop, get_or}
use Rattle.std.proofs.Math.Bool.{true}
use Rattle.std.proofs.Math.Path.{refl}
use mathlib.Core.List.{List, [], ◌∷◌}
use Prim.Native.Nat.{ℕ, zero, suc, ◌+◌, ◌≤◌, ◌<◌}
use Rattle.std.proofs.Common.{suc-add, arith}
use Rattle.std.proofs.Math.Numerals.{add-one}
use Rattle.truths.specs.TruthLaws.{true_is_not_false, both_parts, by_test, both}
use Rattle.std.specs.declared.cmp.Ordering.{Ordering}
use Rattle.std.specs.declared.cmp.Ordering.TheVariants.{Less, Equal, Greater}
use Rattle.pubkey.specs.Order.{compare_bytes}
use Rattle.pubkey.specs.OrderLaws.{compare_equal, transitive, greater_flip}
use Rattle.table.specs.Table.{Row, row_under, below, ascending, every, store, erase, retain, remove_at}
use Rattle.table.specs.Private.{remove_run}

-- ════ Tests ════

-- a fact by the three answers of a comparison, each with the equation that says it
pub by_answer {ℓ} : {B : Type ℓ} (o : Ordering) → (o ≡ Less → B) → (o ≡ Equal → B) → (o ≡ Greater → B) → B
by_answer Less a b c = a refl
by_answer Equal a b c = b refl
by_answer Greater a b c = c refl

-- the rules of all, then their order: the rule of the first, its order, then those of the others
regroup : (a b c d : Bool) → ((a && b) && (c && d)) ≡ (a && (c && (b && d)))
regroup true true c d = refl
regroup true false true d = refl
regroup true false false d = refl
regroup false b c d = refl

module _ {A : Type 0} where
  -- ════ The first row ════

  module _ (k : List ℕ) (r : Row A) (rs : List (Row A)) where
    -- a key below the rows comes before that of the first
    pub below_less : below k (r ∷ rs) ≡ true → compare_bytes k r.key ≡ Less
    below_less h =
        by_answer (compare_bytes k r.key) (λ e. e)
        (λ e. absurd (true_is_not_false h (rw e)))
        (λ e. absurd (true_is_not_false h (rw e)))

    -- a key that comes before that of the first row is below the rows
    pub less_below : compare_bytes k r.key ≡ Less → below k (r ∷ rs) ≡ true
    less_below h = rw h

  -- what comes before a key that is below the rows is below them
  pub below_from_less : (a b : List ℕ) (rs : List (Row A)) → compare_bytes a b ≡ Less → below b rs ≡ true → below a rs ≡ true
  below_from_less a b [] h k = refl
  below_from_less a b (r ∷ rs) h k = less_below a r rs (transitive a b r.key h (below_less b r rs k))

  module _ (r : Row A) (rs : List (Row A)) where
    -- of ascending rows the first is below the others, which are ascending
    pub ascending_parts : ascending (r ∷ rs) ≡ true → (below r.key rs ≡ true) × (ascending rs ≡ true)
    unfolding ascending
    ascending_parts h = both_parts (below r.key rs) (ascending rs) h

    -- a row below ascending rows, put before them
    pub ascending_cons : below r.key rs ≡ true → ascending rs ≡ true → ascending (r ∷ rs) ≡ true
    unfolding ascending
    ascending_cons h k = both h k

    -- the key of the first of ascending rows is below the others
    pub equal_below : (k : List ℕ) → ascending (r ∷ rs) ≡ true → compare_bytes k r.key ≡ Equal → below k rs ≡ true
    equal_below k order o = rw (compare_equal k r.key o) (ascending_parts order).0

    -- what comes before the first of ascending rows is below the others
    pub before_below : (k : List ℕ) → ascending (r ∷ rs) ≡ true → compare_bytes k r.key ≡ Less → below k rs ≡ true
    before_below k order o = below_from_less k r.key rs o (ascending_parts order).0

  module _ (rule : Row A → Bool) (r : Row A) (rs : List (Row A)) where
    -- of rows that keep a rule the first does, and the others do
    pub every_parts : every rule (r ∷ rs) ≡ true → (rule r ≡ true) × (every rule rs ≡ true)
    unfolding every
    every_parts h = both_parts (rule r) (every rule rs) h

    -- a row that keeps a rule, put before rows that do
    pub every_cons : rule r ≡ true → every rule rs ≡ true → every rule (r ∷ rs) ≡ true
    unfolding every
    every_cons h k = both h k

    -- rows are sound where the first keeps the rule and is below the others, and those are sound
    pub sound_cons : (every rule (r ∷ rs) && ascending (r ∷ rs))
        ≡ (rule r && (below r.key rs && (every rule rs && ascending rs)))
    unfolding every ascending
    sound_cons = regroup (rule r) (every rule rs) (below r.key rs) (ascending rs)

  -- ════ The row at an index ════

  -- a key below ascending rows comes before the key of each
  pub below_each : (k : List ℕ) (rs : List (Row A)) (i : ℕ) (d : Row A) → below k rs ≡ true → ascending rs ≡ true → i < length rs
      → compare_bytes k (get_or rs i d).key ≡ Less
  below_each k [] i d h order inside = absurd (omega arith)
  below_each k (r ∷ rs) zero d h order inside = below_less k r rs h
  below_each k (r ∷ rs) (suc i) d h order inside =
      below_each k rs i d (before_below r rs k order (below_less k r rs h)) (ascending_parts r rs order).1 (omega arith)

  -- where every row keeps a rule, the row at an index does
  pub every_at : (rule : Row A → Bool) (rs : List (Row A)) (i : ℕ) (d : Row A) → every rule rs ≡ true → i < length rs
      → rule (get_or rs i d) ≡ true
  every_at rule [] i d h inside = absurd (omega arith)
  every_at rule (r ∷ rs) zero d h inside = (every_parts rule r rs h).0
  every_at rule (r ∷ rs) (suc i) d h inside = every_at rule rs i d (every_parts rule r rs h).1 (omega arith)

  -- where the row at an index breaks a rule, not every row keeps it
  pub every_fails : (rule : Row A → Bool) (rs : List (Row A)) (i : ℕ) (d : Row A) → i < length rs → rule (get_or rs i d) ≡ false
      → every rule rs ≡ false
  every_fails rule rs i d inside h =
      by_test (every rule rs) (λ e. absurd (true_is_not_false (every_at rule rs i d e inside) h)) (λ e. e)

  -- ════ Rows taken out ════

  -- the first rows are the second with some taken out, in the same order
  pub data Sub : List (Row A) → List (Row A) → Type 0 where
    done : Sub [] []
    keep : {r : Row A} {xs ys : List (Row A)} → Sub xs ys → Sub (r ∷ xs) (r ∷ ys)
    leave : {r : Row A} {xs ys : List (Row A)} → Sub xs ys → Sub xs (r ∷ ys)

  -- nothing taken out
  pub sub_all : (rs : List (Row A)) → Sub rs rs
  sub_all [] = done
  sub_all (r ∷ rs) = keep (sub_all rs)

  -- rows left are no more than the rows were
  pub sub_length : {xs ys : List (Row A)} → Sub xs ys → length xs ≤ length ys
  sub_length done = omega arith
  sub_length (keep s) = let h = sub_length s in omega arith
  sub_length (leave s) = let h = sub_length s in omega arith

  -- rows left keep what rule the rows kept
  pub sub_every : (rule : Row A → Bool) {xs ys : List (Row A)} → Sub xs ys → every rule ys ≡ true → every rule xs ≡ true
  sub_every rule done h = h
  sub_every rule (keep {r} {xs} {ys} s) h =
      let parts = every_parts rule r ys h in
      every_cons rule r xs parts.0 (sub_every rule s parts.1)
  sub_every rule (leave {r} {xs} {ys} s) h = sub_every rule s (every_parts rule r ys h).1

  -- what is below ascending rows is below those left
  pub sub_below : (k : List ℕ) {xs ys : List (Row A)} → Sub xs ys → ascending ys ≡ true → below k ys ≡ true → below k xs ≡ true
  sub_below k done order h = h
  sub_below k (keep s) order h = h
  sub_below k (leave {r} {xs} {ys} s) order h =
      sub_below k s (ascending_parts r ys order).1 (before_below r ys k order (below_less k r ys h))

  -- rows left of ascending rows are ascending
  pub sub_ascending : {xs ys : List (Row A)} → Sub xs ys → ascending ys ≡ true → ascending xs ≡ true
  sub_ascending done order = order
  sub_ascending (keep {r} {xs} {ys} s) order =
      let parts = ascending_parts r ys order in
      ascending_cons r xs (sub_below r.key s parts.1 parts.0) (sub_ascending s parts.1)
  sub_ascending (leave {r} {xs} {ys} s) order = sub_ascending s (ascending_parts r ys order).1

  -- an erase takes rows out
  pub sub_erase : (k : List ℕ) (rs : List (Row A)) → Sub (erase k rs) rs
  unfolding erase
  sub_erase k [] = done
  sub_erase k (r ∷ rs) =
      let rest : Sub (erase k rs) rs = sub_erase k rs in
      by_answer (compare_bytes k r.key)
      (λ h. rw h (sub_all (r ∷ rs)))
      (λ h. rw h (leave (sub_all rs)))
      (λ h. rw h (keep rest))

  -- a retain takes rows out
  pub sub_retain : (test : Row A → Bool) (rs : List (Row A)) → Sub (retain test rs) rs
  unfolding retain
  sub_retain test [] = done
  sub_retain test (r ∷ rs) =
      let rest : Sub (retain test rs) rs = sub_retain test rs in
      by_test (test r) (λ h. rw h (keep rest)) (λ h. rw h (leave rest))

  -- the first row, taken out
  pub remove_at_first : (r : Row A) (rs : List (Row A)) → remove_at 0 (r ∷ rs) ≡ rs
  unfolding remove_at
  remove_at_first r rs = refl

  -- the row at a later index, taken out
  pub remove_at_later : (j : ℕ) (r : Row A) (rs : List (Row A)) → remove_at (suc j) (r ∷ rs) ≡ r ∷ remove_at j rs
  unfolding remove_at
  remove_at_later j r rs = rw (add-one (suc j), add-one j)

  -- the first rows, taken out
  pub sub_drop : (n : ℕ) (rs : List (Row A)) → Sub (drop n rs) rs
  sub_drop zero rs = sub_all rs
  sub_drop (suc n) [] = done
  sub_drop (suc n) (r ∷ rs) = leave (sub_drop n rs)

  -- neighbouring rows, taken out
  pub sub_remove_run : (i n : ℕ) (rs : List (Row A)) → Sub (remove_run i n rs) rs
  unfolding remove_run
  sub_remove_run zero n rs = sub_drop (0 + n) rs
  sub_remove_run (suc i) n [] = rw (suc-add i n) done
  sub_remove_run (suc i) n (r ∷ rs) = rw (suc-add i n) (keep (sub_remove_run i n rs))

  -- a row at an index, taken out
  pub sub_remove_at : (j : ℕ) (rs : List (Row A)) → Sub (remove_at j rs) rs
  unfolding remove_at remove_run
  sub_remove_at j rs = sub_remove_run j 1 rs

  -- rows taken out of rows taken out
  pub sub_trans : {xs ys zs : List (Row A)} → Sub xs ys → Sub ys zs → Sub xs zs
  sub_trans s done = s
  sub_trans (keep {r} {xs} s) (keep t) = keep (sub_trans {xs = xs} s t)
  sub_trans (leave s) (keep t) = leave (sub_trans s t)
  sub_trans s (leave t) = leave (sub_trans s t)

  -- ════ Soundness kept ════

  -- rows that keep a rule keep it after an erase
  pub every_erase : (rule : Row A → Bool) (k : List ℕ) (rs : List (Row A)) → every rule rs ≡ true → every rule (erase k rs) ≡ true
  every_erase rule k rs = sub_every rule (sub_erase k rs)

  -- rows that keep a rule keep it after a retain
  pub every_retain : (rule test : Row A → Bool) (rs : List (Row A)) → every rule rs ≡ true → every rule (retain test rs) ≡ true
  every_retain rule test rs = sub_every rule (sub_retain test rs)

  -- rows that keep a rule keep it when a row is taken out
  pub every_remove_at : (rule : Row A → Bool) (j : ℕ) (rs : List (Row A)) → every rule rs ≡ true → every rule (remove_at j rs) ≡ true
  every_remove_at rule j rs = sub_every rule (sub_remove_at j rs)

  -- ascending rows are ascending after an erase
  pub ascending_erase : (k : List ℕ) (rs : List (Row A)) → ascending rs ≡ true → ascending (erase k rs) ≡ true
  ascending_erase k rs = sub_ascending (sub_erase k rs)

  -- ascending rows are ascending after a retain
  pub ascending_retain : (test : Row A → Bool) (rs : List (Row A)) → ascending rs ≡ true → ascending (retain test rs) ≡ true
  ascending_retain test rs = sub_ascending (sub_retain test rs)

  -- ascending rows are ascending when a row is taken out
  pub ascending_remove_at : (j : ℕ) (rs : List (Row A)) → ascending rs ≡ true → ascending (remove_at j rs) ≡ true
  ascending_remove_at j rs = sub_ascending (sub_remove_at j rs)

  module _ (k : List ℕ) (e : A) where
    -- rows that keep a rule keep it after a row that does is stored
    pub every_store : (rule : Row A → Bool) (rs : List (Row A)) → rule (row_under k e) ≡ true → every rule rs ≡ true → every rule (store k e rs) ≡ true
    unfolding store
    every_store rule [] h rules = every_cons rule (row_under k e) [] h rules
    every_store rule (r ∷ rs) h rules =
        let stored : Row A = row_under k e in
        let parts = every_parts rule r rs rules in
        let rest : every rule (store k e rs) ≡ true = every_store rule rs h parts.1 in
        by_answer (compare_bytes k r.key)
        (λ o. rw o (every_cons rule stored (r ∷ rs) h rules))
        (λ o. rw o (every_cons rule stored rs h parts.1))
        (λ o. rw o (every_cons rule r (store k e rs) parts.0 rest))

    -- what is below the rows and before the stored key is below the rows after
    pub below_store : (a : List ℕ) (rs : List (Row A)) → compare_bytes a k ≡ Less → below a rs ≡ true → below a (store k e rs) ≡ true
    unfolding store
    below_store a [] h under = rw h
    below_store a (r ∷ rs) h under =
        by_answer (compare_bytes k r.key) (λ o. rw (o, h)) (λ o. rw (o, h)) (λ o. rw o under)

    -- ascending rows are ascending after a store
    pub ascending_store : (rs : List (Row A)) → ascending rs ≡ true → ascending (store k e rs) ≡ true
    unfolding store
    ascending_store [] order = ascending_cons (row_under k e) [] refl order
    ascending_store (r ∷ rs) order =
        let stored : Row A = row_under k e in
        let parts = ascending_parts r rs order in
        let rest : ascending (store k e rs) ≡ true = ascending_store rs parts.1 in
        by_answer (compare_bytes k r.key)
        (λ o. rw o (ascending_cons stored (r ∷ rs) (less_below k r rs o) order))
        (λ o. rw o (ascending_cons stored rs (equal_below r rs k order o) parts.1))
        (λ o. rw o (ascending_cons r (store k e rs) (below_store r.key rs (greater_flip k r.key o) parts.0) rest))
