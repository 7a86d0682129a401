-- A row stored where one was erased, and two changes of the rows in memory that are one. Assumes nothing.
use Rattle.std.specs.Prelude.{true, ◌≡◌, ℕ, ◌≤◌, max, length}
use Rattle.std.proofs.Math.Path.{refl}
use Rattle.std.proofs.Common.{ap, ◌∙◌, subst}
use mathlib.Core.List.{List, [], ◌∷◌}
use Rattle.pubkey.specs.Order.{compare_bytes}
use Rattle.table.specs.Table.{Row, row_under, below, ascending, store, erase}
use Rattle.table.specs.Memory.{Layout, rows, Holds}
use Rattle.table.specs.TableLaws.{by_answer, below_less, ascending_parts, equal_below}
use Rattle.table.specs.MemoryLaws.{Faithful, AllFit}
use Rattle.table_laws.specs.Private.{Counted}
use Rattle.table_laws.specs.ChangeLaws.{holds_holds}

module _ {A : Type 0} (k : List ℕ) (e : A) where
  -- below all rows, the row comes first
  store_below : (rs : List (Row A)) → below k rs ≡ true → store k e rs ≡ row_under k e ∷ rs
  unfolding store
  store_below [] h = refl
  store_below (r ∷ rs) h = rw (below_less k r rs h)

  -- a row erased and stored anew is a row stored over it
  pub store_erase : (rs : List (Row A)) → ascending rs ≡ true → store k e (erase k rs) ≡ store k e rs
  unfolding store erase
  store_erase [] h = refl
  store_erase (r ∷ rs) h =
      let rest : store k e (erase k rs) ≡ store k e rs = store_erase rs (ascending_parts r rs h).1 in
      by_answer (compare_bytes k r.key) (λ o. rw (o, o)) (λ o. rw o (store_below rs (equal_below r rs k h o))) (λ o. rw (o, o, rest))

-- rows that were left in memory, then changed there: one change of the rows that there were
pub counted_then : {A : Type 0} {L : Layout A} {Good : A → Type 0} → Faithful L Good → (change : List (Row A) → List (Row A)) (s t u : List ℕ) (n m l : ℕ) (rs : List (Row A))
    → AllFit L Good rs → length rs ≤ max n (length (change rs)) → Counted L s t n m rs → Counted L t u m l (change (rows L t m)) → Counted L s u n l (change rs)
counted_then {A} {L} ok change s t u n m l rs fit most first second =
    let reads : rows L t m ≡ rs = ap (rows L t) first.1 ∙ first.0.reads in
    let held : Counted L t u m l (change rs) = subst (λ (qs : List (Row A)). Counted L t u m l (change qs)) reads second in
    let here : Holds L t u (length rs) (change rs) = subst (λ (c : ℕ). Holds L t u c (change rs)) first.1 held.0 in
    (holds_holds ok s t u n rs (change rs) fit most first.0 here, held.1)
