-- Making room in memory, over plain lists and numbers: which rows go, and that two changes are one. Assumes nothing.
use mathlib.Core.Path.{◌≡◌, refl, sym, subst}
use mathlib.Core.List.{List}
use Prim.Native.Nat.{ℕ, ◌*◌, ◌≤◌, ◌<◌}
use native.Mathlib.Omega.{arith}
use lib.ListN.{length}
use Rattle.lent_bytes.specs.LentBytes.{Bytes}
use Rattle.table.specs.Memory.{rows}
use Rattle.table.specs.TableLaws.{sub_length}
use Rattle.table.specs.MemoryLaws.{AllFit, length_rows, fit_rows, fit_retain}
use Rattle.table_laws.specs.ChangeLaws.{unchanged}
use Rattle.table_laws.specs.Private.{Counted}
use Rattle.table_laws.specs.StoreLaws.{counted_then}
use Rattle.gossip_ban_rows.specs.Rows.{row_width, Bans, ban_layout}
use Rattle.gossip_ban_rows.specs.RowsLaws.{EntryFits, ban_faithful}
use Rattle.gossip_ban_rows.specs.Room.{unexpired, prune_expired, evict}
use Rattle.gossip_ban_rows.specs.Private.{room_for}
use Rattle.gossip_ban_rows.specs.RoomLaws.{sub_prune, room_free, room_pruned, room_evicted}

-- rows counted in memory, by an equation of the rows
counted_same : {s t : List ℕ} {n m : ℕ} {rs qs : Bans} → rs ≡ qs → Counted ban_layout s t n m rs → Counted ban_layout s t n m qs
counted_same {s} {t} {n} {m} e h = subst (λ (l : Bans). Counted ban_layout s t n m l) e h

module _ (limit duration now : ℕ) (s : List ℕ) (n : ℕ) (b : Bytes s) (h : row_width * n ≤ length s) where
  -- the table is not full
  pub made_free : n < limit → Counted ban_layout s s n n (room_for limit duration now (rows ban_layout s n))
  made_free k =
      let count : length (rows ban_layout s n) ≡ n = length_rows ban_layout s n in
      counted_same (sym (room_free limit duration now (rows ban_layout s n) (omega arith))) (unchanged ban_faithful s s n b h refl, sym count)

  module _ (full : limit ≤ n) (t : List ℕ) (k : ℕ) where
    full_rows : limit ≤ length (rows ban_layout s n)
    full_rows = omega (arith, length_rows ban_layout s n)

    -- the expired entries have gone, and there is room
    pub made_pruned : k < limit → Counted ban_layout s t n k (prune_expired duration now (rows ban_layout s n))
        → Counted ban_layout s t n k (room_for limit duration now (rows ban_layout s n))
    made_pruned l left =
        counted_same (sym (room_pruned limit duration now (rows ban_layout s n) full_rows (omega (arith, left.1)))) left

    -- the table was still full, and one row more has gone
    pub made_evicted : limit ≤ k → Counted ban_layout s t n k (prune_expired duration now (rows ban_layout s n)) → (u : List ℕ) (r : ℕ)
        → Counted ban_layout t u k r (evict now (rows ban_layout t k)) → Counted ban_layout s u n r (room_for limit duration now (rows ban_layout s n))
    made_evicted l left u r gone =
        let rs : Bans = prune_expired duration now (rows ban_layout s n) in
        let fit : AllFit ban_layout EntryFits rs = fit_retain ban_faithful (unexpired duration now) (rows ban_layout s n) (fit_rows ban_faithful s n b h) in
        let fewer : length rs ≤ n = omega (arith, sub_length (sub_prune duration now (rows ban_layout s n)), length_rows ban_layout s n) in
        counted_same (sym (room_evicted limit duration now (rows ban_layout s n) full_rows (omega (arith, left.1))))
        (counted_then ban_faithful (evict now) s t u n k r rs fit (omega arith) left gone)
