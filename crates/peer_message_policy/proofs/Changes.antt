-- A policy's rows changed in memory: what a write of a private function leaves. Over plain values. Assumes nothing.
use Rattle.std.specs.Prelude.{Ok, Err}
use Rattle.refusal.specs.declared.Refusal.TheVariants as Refusal
use mathlib.Core.Path.{◌≡◌, refl, sym, ap, ◌∙◌}
use mathlib.Core.Bool.{Bool, true, false, ◌&&◌, cond}
use mathlib.Core.List.{List, []}
use Prim.Native.Nat.{ℕ, ◌+◌, ◌-◌, ◌*◌, ◌/◌, ◌≤◌, ◌<◌}
use native.Mathlib.Omega.{arith}
use borrow.Author.Tests.{eqb-true, ltb-true, lt-ltb, le-ltb}
use lib.Dec.{eqb, ltb, leb}
use lib.ListN.{length}
use Rattle.truths.specs.TruthLaws.{both_parts}
use Rattle.lent_bytes.specs.LentBytes.{put, zeros, Bytes}
use Rattle.table.specs.Table.{row_under, store, erase, remove_at}
use Rattle.table.specs.Private.{insert_at}
use Rattle.table.specs.Memory.{rows, Holds}
use Rattle.table.specs.MemoryLaws.{AllFit, sub_fit, length_rows, fit_rows, holds, put_clear}
use Rattle.table_laws.specs.ChangeLaws.{holds_same, gap_within, stored_at, stored_gap, erased_at, store_again}
use Rattle.table_laws.specs.Private.{over as rows-over}
use Rattle.table_laws.specs.RoomLaws.{changed_again, left_alone as alone}
use Rattle.table_laws.specs.LentLaws.{long_enough_lem, too_short_lem}
use Rattle.peer_settings.specs.declared.config.PeerMessagePolicyConfig.{PeerMessagePolicyConfig}
use Rattle.peer_state.specs.declared.entry.PeerMessagePolicyEntry.{PeerMessagePolicyEntry}
use Rattle.peer_state.specs.declared.entry.ViolationWindow.{ViolationWindow}
use Rattle.peer_state.specs.declared.ingress.FiberIngressBudget.{FiberIngressBudget}
use Rattle.peer_settings.specs.Config.{limit}
use Rattle.peer_state.specs.Entry.{window, window_expire, entry_expire_windows}
use Rattle.peer_state.specs.Private.{same_counts}
use Rattle.peer_rows.specs.Rows.{row_width, Peers, peer_layout}
use Rattle.peer_rows.specs.Private.{entry_at}
use Rattle.peer_table.specs.Room.{make_room}
use Rattle.peer_rows.specs.RowsLaws.{EntryFits, peer_faithful}
use Rattle.peer_table.specs.RoomLaws.{room_free, room_for_one, length_make_room, sub_make_room}
use Rattle.peer_message_policy.specs.declared.policy.PeerMessagePolicy.{PeerMessagePolicy}
use Rattle.peer_message_policy.specs.Policy.{rows_of}
use Rattle.peer_message_policy.specs.Calls.{policy_with, fresh, new_outcome, NewMeets}
use Rattle.peer_message_policy.specs.Private.{Known, Unknown, Left}
use Rattle.peer_message_policy.proofs.Judged.{rows_fit, few_rows, limit_fits}

-- the rows with an entry written over that of the i-th, whose key stays
abbrev pub over : List ℕ → ℕ → ℕ → PeerMessagePolicyEntry → Peers
over s n i e = rows-over peer_layout s n i e

module _ (p : PeerMessagePolicy) (s k : List ℕ) (i : ℕ) (h : Known p s k i) where
  -- an entry written over the peer's row
  pub left_over : (load : FiberIngressBudget) (t : List ℕ) (x e : PeerMessagePolicyEntry) → x ≡ e → Holds peer_layout s t p.rows (over s p.rows i x) → Left p load s (store k e (rows_of p s)) (policy_with p load p.rows) t
  left_over load t x e same held =
      let stored = stored_at peer_faithful s t p.rows k i x h.place held in
      let here : store k x (rows_of p s) ≡ store k e (rows_of p s) = ap (λ (y : PeerMessagePolicyEntry). store k y (rows_of p s)) same in
      record { policy = ap (policy_with p load) (stored.1 ∙ ap length here); memory = holds_same here stored.0 }

  -- the peer's row taken out
  pub left_out : (t : List ℕ) → Holds peer_layout s t p.rows (remove_at i (rows_of p s)) → Left p p.ingress s (erase k (rows_of p s)) (policy_with p p.ingress (p.rows - 1)) t
  left_out t held =
      let erased = erased_at peer_faithful s t p.rows k i h.place held in
      record { policy = ap (policy_with p p.ingress) erased.1; memory = erased.0 }

  -- nothing is written where the entry stands there already
  pub left_alone : Bytes s → (e : PeerMessagePolicyEntry) → e ≡ entry_at s i → Left p p.ingress s (store k e (rows_of p s)) p s
  left_alone b e read =
      let again : store k e (rows_of p s) ≡ rows_of p s = store_again peer_faithful s s p.rows k i e h.place read in
      let left = alone peer_faithful s p.rows b (rows_fit p s h.is_sound) again in
      record { policy = ap (policy_with p p.ingress) left.1; memory = left.0 }

-- ════ Windows that expire ════

-- a window that keeps its count stays as it is
expire_kept : (w : ViolationWindow) (now duration : ℕ) → (window_expire w now duration).count ≡ w.count → window_expire w now duration ≡ w
unfolding window_expire
expire_kept w now duration = by (ltb 0 w.count && leb duration (now - w.started_at_ms)) (λ t. ltb-true 0 w.count (both_parts (ltb 0 w.count) _ t).0)
  where
    by : (b : Bool) → (b ≡ true → 0 < w.count) → (cond b (window 0 now) w).count ≡ w.count → cond b (window 0 now) w ≡ w
    by true f e = absurd (let z : 0 < w.count = f refl in omega arith)
    by false f e = refl

-- an entry whose counts stay is left as it is
pub expire_same : (e : PeerMessagePolicyEntry) (now duration : ℕ) → same_counts (entry_expire_windows e now duration) e ≡ true → entry_expire_windows e now duration ≡ e
unfolding entry_expire_windows
expire_same e now duration h =
    let rate = window_expire e.rate_limit_violations now duration in
    let invalid = window_expire e.invalid_messages now duration in
    let parts = both_parts (eqb rate.count e.rate_limit_violations.count) (eqb invalid.count e.invalid_messages.count) h in
    rw (
      expire_kept e.rate_limit_violations now duration (eqb-true rate.count e.rate_limit_violations.count parts.0),
      expire_kept e.invalid_messages now duration (eqb-true invalid.count e.invalid_messages.count parts.1),
    )

-- so its row need not be written
pub left_unexpired : (p : PeerMessagePolicy) (s k : List ℕ) (i : ℕ) → Known p s k i → Bytes s → (e : PeerMessagePolicyEntry) → e ≡ entry_at s i → (now duration : ℕ) (x : PeerMessagePolicyEntry) → x ≡ entry_expire_windows e now duration → same_counts x e ≡ true → Left p p.ingress s (store k (entry_expire_windows e now duration) (rows_of p s)) p s
left_unexpired p s k i h b e read now duration x v same =
    let kept : entry_expire_windows e now duration ≡ e =
    expire_same e now duration (ap (λ (y : PeerMessagePolicyEntry). same_counts y e) (sym v) ∙ same) in
    left_alone p s k i h b (entry_expire_windows e now duration) (kept ∙ read)

-- ════ A row more ════

module _ (p : PeerMessagePolicy) (s k : List ℕ) (i : ℕ) (h : Unknown p s k i) (now : ℕ) where
  -- the rows that are left when room was made
  abbrev pub roomed : Peers
  roomed = make_room p.config now (rows_of p s)

  -- after room was made there is room for one row more
  pub one_more_fits : (n : ℕ) → n ≡ length roomed → row_width * (n + 1) ≤ length s
  one_more_fits n e =
      omega (arith, room_for_one p.config now (rows_of p s) (omega (arith, few_rows p s h.is_sound, length_rows peer_layout s p.rows)), limit_fits p s h.is_sound)

  -- the gap is inside, and where the table is not full there is room for a row
  pub gap_fits : i ≤ p.rows
  gap_fits = gap_within peer_layout s p.rows k i h.place

  pub row_fits : p.rows < limit p.config → row_width * (p.rows + 1) ≤ length s
  row_fits free = omega (arith, free, limit_fits p s h.is_sound)

  -- an entry put in at the gap, where nothing had to go
  pub left_gap : (load : FiberIngressBudget) (t : List ℕ) (e : PeerMessagePolicyEntry) → p.rows < limit p.config → Holds peer_layout s t p.rows (insert_at i (row_under k e) (rows_of p s)) → Left p load s (store k e roomed) (policy_with p load (p.rows + 1)) t
  left_gap load t e free held =
      let all : roomed ≡ rows_of p s = room_free p.config now (rows_of p s) (omega (arith, free, length_rows peer_layout s p.rows)) in
      let stored = stored_gap peer_faithful s t p.rows k i e h.place held in
      let here : store k e (rows_of p s) ≡ store k e roomed = ap (store k e) (sym all) in
      record { policy = ap (policy_with p load) (stored.1 ∙ ap length here); memory = holds_same here stored.0 }

  -- an entry stored among the rows that were left
  pub left_new : (load : FiberIngressBudget) → Bytes s → (t : List ℕ) (n : ℕ) → Holds peer_layout s t p.rows roomed × (n ≡ length roomed) → (u : List ℕ) (m : ℕ) (e : PeerMessagePolicyEntry) → Holds peer_layout t u n (store k e (rows peer_layout t n)) × (m ≡ length (store k e (rows peer_layout t n))) → Left p load s (store k e roomed) (policy_with p load m) u
  left_new load b t n first u m e second =
      let fit : AllFit peer_layout EntryFits roomed =
      sub_fit peer_faithful (sub_make_room p.config now (rows_of p s)) (fit_rows peer_faithful s p.rows b (rows_fit p s h.is_sound)) in
      let fewer : length roomed ≤ p.rows = omega (arith, length_make_room p.config now (rows_of p s), length_rows peer_layout s p.rows) in
      let stored = changed_again peer_faithful s p.rows (store k e) fit fewer first second in
      record { policy = ap (policy_with p load) stored.1; memory = stored.0 }

-- ════ A policy made ════

module _ (c : PeerMessagePolicyConfig) (s : List ℕ) where
  pub new_large : 1024 < c.max_tracked_peers → NewMeets c s (Err Refusal.LimitTooLarge) s
  unfolding NewMeets new_outcome
  new_large h = rw (lt-ltb 1024 c.max_tracked_peers h) (record { answers = refl; leaves = refl })

  module _ (h : c.max_tracked_peers ≤ 1024) where
    pub new_short : length s / row_width < limit c → NewMeets c s (Err Refusal.TooShort) s
    unfolding NewMeets new_outcome
    new_short l = rw (le-ltb 1024 c.max_tracked_peers h, too_short_lem peer_layout (limit c) s (omega arith) l) (record { answers = refl; leaves = refl })

    pub new_made : limit c ≤ length s / row_width → (t : List ℕ) → t ≡ put s 0 (zeros (row_width * limit c)) → NewMeets c s (Ok (fresh c)) t
    unfolding NewMeets new_outcome
    new_made l t e =
        rw (le-ltb 1024 c.max_tracked_peers h, long_enough_lem peer_layout (limit c) s (omega arith) l)
        (record { answers = refl; leaves = holds peer_faithful s t (limit c) [] tt (e ∙ put_clear peer_faithful s (limit c)) })
