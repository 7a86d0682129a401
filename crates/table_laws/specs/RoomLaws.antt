-- Laws of making room, for any layout, limit, test and way to evict a row: which rows are left, that there is room for one more, and the
-- memory that is left. In order: what a search found; the three ways; rows left; memory. Assumes nothing.
use Rattle.std.specs.Prelude.{Bool, ◌≡◌, refl, List, ℕ, ◌+◌, ◌-◌, ◌*◌, ◌≤◌, ◌<◌, ltb, length}
use Rattle.std.proofs.Common.{sym, ap, ◌∙◌, subst, arith}
use borrow.Author.Tests.{ltb-true, ltb-false, lt-ltb, le-ltb}
use Rattle.truths.specs.TruthLaws.{by_test}
use Rattle.lent_bytes.specs.LentBytes.{Bytes}
use Rattle.table.specs.Table.{Row, Best, nothing, best, retain, remove_at}
use Rattle.table.specs.Memory.{Layout, rows, Holds}
use Rattle.table.specs.TableLaws.{Sub, sub_all, sub_retain, sub_remove_at, sub_trans}
use Rattle.table.specs.RetainLaws.{length_retain}
use Rattle.table.specs.PlaceLaws.{length_remove_at}
use Rattle.table.specs.MemoryLaws.{Faithful, AllFit, length_rows, fit_rows, sub_fit}
use Rattle.table_laws.specs.ChangeLaws.{unchanged, holds_holds}
use Rattle.table.specs.Room.{remove_found, room_made}

-- ════ What a search found ════

-- a fact by the two answers of a search, each with the equation that says it
pub by_best : {B : Type 0} (b : Best) → (b ≡ nothing → B) → ((j n : ℕ) → b ≡ best j n → B) → B
by_best nothing f g = f refl
by_best (best j n) f g = g j n refl

-- at most one row is taken out
pub sub_remove_found : {A : Type 0} (b : Best) (rs : List (Row A)) → Sub (remove_found b rs) rs
sub_remove_found nothing rs = sub_all rs
sub_remove_found (best j n) rs = sub_remove_at j rs

module _ {A : Type 0} (limit : ℕ) (test : Row A → Bool) (evict : List (Row A) → List (Row A)) (rs : List (Row A)) where
  -- ════ The three ways ════

  -- a table that is not full stays as it is
  pub room_free : length rs < limit → room_made limit test evict rs ≡ rs
  unfolding room_made
  room_free h = rw (lt-ltb (length rs) limit h)

  -- in a full table the rows that fail go, and if that makes room, nothing else
  pub room_pruned : limit ≤ length rs → length (retain test rs) < limit → room_made limit test evict rs ≡ retain test rs
  unfolding room_made
  room_pruned h k = rw (le-ltb (length rs) limit h, lt-ltb (length (retain test rs)) limit k)

  -- a table that is still full gives way by what is evicted
  pub room_evicted : limit ≤ length rs → limit ≤ length (retain test rs) → room_made limit test evict rs ≡ evict (retain test rs)
  unfolding room_made
  room_evicted h k = rw (le-ltb (length rs) limit h, le-ltb (length (retain test rs)) limit k)

  -- a fact by the three ways of making room
  by_room : (B : List (Row A) → Type 0) → (length rs < limit → B rs)
      → (limit ≤ length rs → length (retain test rs) < limit → B (retain test rs))
      → (limit ≤ length rs → limit ≤ length (retain test rs) → B (evict (retain test rs)))
      → B (room_made limit test evict rs)
  by_room B free pruned evicted =
      by_test (ltb (length rs) limit)
      (λ t. let h = ltb-true (length rs) limit t in
      subst B (sym (room_free h)) (free h))
      (λ t. let h = ltb-false (length rs) limit t in
      by_test (ltb (length (retain test rs)) limit)
      (λ u. let k = ltb-true (length (retain test rs)) limit u in
      subst B (sym (room_pruned h k)) (pruned h k))
      (λ u. let k = ltb-false (length (retain test rs)) limit u in
      subst B (sym (room_evicted h k)) (evicted h k)))

  -- ════ Rows left ════

  -- rows are taken out, and no more
  pub sub_room : ((qs : List (Row A)) → Sub (evict qs) qs) → Sub (room_made limit test evict rs) rs
  sub_room sub_evict =
      by_room (λ (qs : List (Row A)). Sub qs rs) (λ h. sub_all rs) (λ h k. sub_retain test rs)
      (λ h k. sub_trans (sub_evict (retain test rs)) (sub_retain test rs))

  -- a table that had at most the limit has room for one more afterwards, where one row goes of any that there are
  pub room_for_one : 0 < limit → ((qs : List (Row A)) → 0 < length qs → length (evict qs) + 1 ≡ length qs) → length rs ≤ limit
      → length (room_made limit test evict rs) + 1 ≤ limit
  room_for_one some-room one-goes most =
      by_room (λ (qs : List (Row A)). length qs + 1 ≤ limit) (λ h. omega arith) (λ h k. omega arith)
      (λ h k. omega (arith, length_retain test rs, one-goes (retain test rs) (omega arith)))

-- ════ Memory ════

-- memory that held n rows holds these, and this is their number
abbrev pub Left : {A : Type 0} → Layout A → List ℕ → List ℕ → ℕ → ℕ → List (Row A) → Type 0
Left L s t n k rs = Holds L s t n rs × (k ≡ length rs)

-- the same, by an equation of the rows
pub left_same : {A : Type 0} (L : Layout A) {s t : List ℕ} {n k : ℕ} {rs qs : List (Row A)} → rs ≡ qs → Left L s t n k rs → Left L s t n k qs
left_same {A} L {s} {t} {n} {k} e h = subst (λ (l : List (Row A)). Left L s t n k l) e h

module _ {A : Type 0} {L : Layout A} {Good : A → Type 0} (ok : Faithful L Good) (s : List ℕ) (n : ℕ) where
  -- a change, and then another of the rows that it left
  pub changed_again : (change : List (Row A) → List (Row A)) {t u : List ℕ} {k m : ℕ} {rs : List (Row A)} → AllFit L Good rs → length rs ≤ n
      → Left L s t n k rs → Left L t u k m (change (rows L t k)) → Left L s u n m (change rs)
  changed_again change {t} {u} {k} {m} {rs} fit fewer left then =
      let reads : rows L t k ≡ rs = ap (λ (j : ℕ). rows L t j) left.1 ∙ left.0.reads in
      let after : Left L t u k m (change rs) = left_same L (ap change reads) then in
      let held : Holds L t u (length rs) (change rs) = subst (λ (j : ℕ). Holds L t u j (change rs)) left.1 after.0 in
      (holds_holds ok s t u n rs (change rs) fit (omega arith) left.0 held, after.1)

  -- the row that was found is taken out
  pub evicted_row : (t : List ℕ) {j : ℕ} {rs : List (Row A)} → j < n → rs ≡ remove_at j (rows L s n) → Holds L s t n (remove_at j (rows L s n))
      → Left L s t n (n - 1) rs
  evicted_row t {j} inside e held =
      let count : length (rows L s n) ≡ n = length_rows L s n in
      left_same L (sym e) (held, omega (arith, length_remove_at j (rows L s n) (omega arith)))

  module _ (b : Bytes s) (h : L.width * n ≤ length s) where
    -- nothing is taken out
    pub left_alone : {rs : List (Row A)} → rs ≡ rows L s n → Left L s s n n rs
    left_alone e = left_same L (sym e) (unchanged ok s s n b h refl, sym (length_rows L s n))

    module _ (limit : ℕ) (test : Row A → Bool) (evict : List (Row A) → List (Row A)) where
      -- the table is not full
      pub made_free : n < limit → Left L s s n n (room_made limit test evict (rows L s n))
      made_free k = left_alone (room_free limit test evict (rows L s n) (omega (arith, length_rows L s n)))

      module _ (full : limit ≤ n) (t : List ℕ) (k : ℕ) (left : Left L s t n k (retain test (rows L s n))) where
        full_rows : limit ≤ length (rows L s n)
        full_rows = omega (arith, length_rows L s n)

        -- the rows that fail have gone, and there is room
        pub made_pruned : k < limit → Left L s t n k (room_made limit test evict (rows L s n))
        made_pruned l = left_same L (sym (room_pruned limit test evict (rows L s n) full_rows (omega (arith, left.1)))) left

        -- the table was still full, and one row more has gone
        pub made_evicted : limit ≤ k → (u : List ℕ) (r : ℕ) → Left L t u k r (evict (rows L t k))
            → Left L s u n r (room_made limit test evict (rows L s n))
        made_evicted l u r gone =
            left_same L (sym (room_evicted limit test evict (rows L s n) full_rows (omega (arith, left.1))))
            (changed_again evict (sub_fit ok (sub_retain test (rows L s n)) (fit_rows ok s n b h))
            (omega (arith, length_retain test (rows L s n), length_rows L s n)) left gone)
