-- Rows written, over plain lists and numbers: what a write leaves is what the tracker goes on with. Assumes nothing.
use mathlib.Core.Path.{◌≡◌, ap, subst}
use mathlib.Core.List.{List}
use Prim.Native.Nat.{ℕ, ◌+◌, ◌-◌, ◌*◌, ◌≤◌, ◌<◌}
use native.Mathlib.Omega.{arith}
use lib.ListN.{length}
use Rattle.lent_bytes.specs.LentBytes.{Bytes}
use Rattle.table.specs.Table.{store, erase, remove_at}
use Rattle.table.specs.Memory.{rows, Holds}
use Rattle.table.specs.TableLaws.{Sub, sub_length}
use Rattle.table.specs.MemoryLaws.{AllFit, length_rows, fit_rows, sub_fit}
use Rattle.table_laws.specs.ChangeLaws.{stored_at, erased_at}
use Rattle.table_laws.specs.Private.{over, Counted}
use Rattle.table_laws.specs.StoreLaws.{counted_then}
use Rattle.gossip_ban_rows.specs.declared.entry.GossipBanEntry.{GossipBanEntry}
use Rattle.gossip_ban_rows.specs.Rows.{Bans, ban_layout}
use Rattle.gossip_ban_rows.specs.RowsLaws.{EntryFits, ban_faithful}
use Rattle.gossip_ban_rows.specs.Private.{room_for}
use Rattle.gossip_ban_rows.specs.RoomLaws.{sub_room, room_for_one}
use Rattle.gossip_bans.specs.declared.tracker.GossipBanTracker.{GossipBanTracker}
use Rattle.gossip_bans.specs.Tracker.{rows_of, limit_of}
use Rattle.gossip_bans.specs.Calls.{tracker_with}
use Rattle.gossip_bans.specs.Private.{Known, Unknown, Left}
use Rattle.gossip_bans.proofs.Judged.{few_rows, limit_fits, rows_fit}

-- rows counted in memory are what the tracker goes on with
pub left_counted : (t : GossipBanTracker) (s u : List ℕ) (m : ℕ) (rs : Bans) → Counted ban_layout s u t.rows m rs → Left t s rs (tracker_with t m) u
left_counted t s u m rs held = record { tracker = ap (tracker_with t) held.1; memory = held.0 }

module _ (t : GossipBanTracker) (s u : List ℕ) (k : List ℕ) (i : ℕ) (h : Known t s k i) where
  -- a write over the peer's row is a store
  pub left_over : (e : GossipBanEntry) → Holds ban_layout s u t.rows (over ban_layout s t.rows i e) → Left t s (store k e (rows_of t s)) t u
  left_over e held = left_counted t s u t.rows (store k e (rows_of t s)) (stored_at ban_faithful s u t.rows k i e h.place held)

  -- the peer's row taken out
  pub left_out : Holds ban_layout s u t.rows (remove_at i (rows_of t s)) → Left t s (erase k (rows_of t s)) (tracker_with t (t.rows - 1)) u
  left_out held = left_counted t s u (t.rows - 1) (erase k (rows_of t s)) (erased_at ban_faithful s u t.rows k i h.place held)

module _ (t : GossipBanTracker) (s : List ℕ) (k : List ℕ) (i now limit : ℕ) (h : Unknown t s k i) (is : limit ≡ limit_of t.max_entries) where
  -- the rows after room was made
  abbrev roomed : Bans
  roomed = room_for limit t.config.duration_ms now (rows_of t s)

  -- there is room for one row more
  pub one_more_fits : (n : ℕ) → n ≡ length roomed → 65 * (n + 1) ≤ length s
  one_more_fits n e =
      let within : length (rows_of t s) ≤ limit = omega (arith, few_rows t s h.is_sound) in
      let least : 0 < limit = omega arith in
      omega (arith, room_for_one limit t.config.duration_ms now (rows_of t s) least within, limit_fits t s h.is_sound)

  -- the entry stored among the rows that were left
  pub left_new : Bytes s → (v : List ℕ) (n : ℕ) → Counted ban_layout s v t.rows n roomed → (u : List ℕ) (m : ℕ) (e : GossipBanEntry)
      → Counted ban_layout v u n m (store k e (rows ban_layout v n))
      → Left t s (store k e (room_for (limit_of t.max_entries) t.config.duration_ms now (rows_of t s))) (tracker_with t m) u
  left_new b v n first u m e second =
      let taken : Sub roomed (rows_of t s) = sub_room limit t.config.duration_ms now (rows_of t s) in
      let fit : AllFit ban_layout EntryFits roomed = sub_fit ban_faithful taken (fit_rows ban_faithful s t.rows b (rows_fit t s h.is_sound)) in
      let fewer : length roomed ≤ t.rows = omega (arith, sub_length taken, length_rows ban_layout s t.rows) in
      let left : Left t s (store k e roomed) (tracker_with t m) u =
      left_counted t s u m (store k e roomed) (counted_then ban_faithful (store k e) s v u t.rows n m roomed fit (omega arith) first second) in
      subst (λ (l : ℕ). Left t s (store k e (room_for l t.config.duration_ms now (rows_of t s))) (tracker_with t m) u) is left
