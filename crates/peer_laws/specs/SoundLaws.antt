-- Laws of soundness, on settings, rows and changes: soundness part by part; what a change of the rows must keep, so that the policy after
-- it is sound; that each call's change keeps it; and that refusal 4 undoes everything. The calls themselves are in `CallLaws`. Assumes nothing.
use Rattle.std.specs.Prelude.{◌≡◌, refl, List, ℕ, ◌*◌, ◌≤◌, length}
use Rattle.std.proofs.Math.Bool.{true, and-eq-true_iff}
use Rattle.std.proofs.Math.Option.{Option, none, some}
use Rattle.std.proofs.Common.{arith, leb-true, le-leb}
use Rattle.truths.specs.TruthLaws.{true_is_not_false, chosen}
use Rattle.lent_bytes.specs.LentBytes.{Bytes}
use Rattle.table.specs.Table.{every, ascending, look, store}
use Rattle.table.specs.TableLaws.{Sub, sub_erase}
use Rattle.table.specs.LookLaws.{look_rule}
use Rattle.table.specs.PlaceLaws.{length_store_some, length_store_none}
use Rattle.table_laws.specs.Kept as kept
use Rattle.table_laws.specs.Kept.{LentHolds, LentKept}
use Rattle.table_laws.specs.KeptLaws as laws
use Rattle.table_laws.specs.KeptLaws.{numbers_encode, sub_hold, store_hold, change_rows}
use Rattle.peer_settings.specs.declared.config.PeerMessagePolicyConfig.{PeerMessagePolicyConfig}
use Rattle.peer_state.specs.declared.entry.PeerMessagePolicyEntry.{PeerMessagePolicyEntry}
use Rattle.peer_state.specs.declared.ingress.FiberIngressBudget.{FiberIngressBudget}
use Rattle.peer_verdict.specs.declared.verdict.Cause.{Cause}
use Rattle.peer_verdict.specs.declared.verdict.Decision.{Decision}
use Rattle.peer_verdict.specs.declared.verdict.InvalidCause.TheVariants as InvalidCause
use Rattle.peer_settings.specs.Config.{limit}
use Rattle.peer_state.specs.Entry.{entry_sound, entry_is_banned, entry_is_spent, entry_expire_windows}
use Rattle.peer_state.specs.EntryLaws.{new_sound, expire_sound}
use Rattle.peer_state.specs.Ingress.{try_reserve, ingress_sound}
use Rattle.peer_state.specs.IngressLaws.{reservation_holds}
use Rattle.peer_verdict.specs.Verdict.{decision, invalid_decision, refuses}
use Rattle.peer_verdict.specs.VerdictLaws.{decision_sound, invalid_decision_sound, decision_load}
use Rattle.peer_rows.specs.Rows.{row_width, Peers, peer_layout, peer_sound}
use Rattle.peer_rows.specs.RowsLaws.{peer_numbers_lem}
use Rattle.peer_table.specs.Room.{make_room}
use Rattle.peer_table.specs.RoomLaws.{sub_make_room, room_for_one, look_make_room_none}
use Rattle.peer_message_policy.specs.declared.policy.PeerMessagePolicy.{PeerMessagePolicy}
use Rattle.peer_message_policy.specs.Policy.{rows_of, policy_sound, sound, Change, same, Turn, carried_out, Update, banned, update, entry_for_update, turn_of, admit, noted_down, record_invalid, is_banned_change, disconnected_change}
use Rattle.peer_message_policy.specs.Calls.{Memory, changed_rows, policy_after}
use Rattle.peer_message_policy.specs.UpdateLaws.{spent_in_place}

-- ════ Soundness, part by part ════

-- the record's own rules
pub record RecordHolds (p : PeerMessagePolicy) : Type 0 where
  pub tracked : p.config.max_tracked_peers ≤ 1024
  pub few : p.rows ≤ limit p.config
  pub load : ingress_sound p.config p.ingress ≡ true

pub record_holds : (p : PeerMessagePolicy) → policy_sound p ≡ true → RecordHolds p
unfolding policy_sound
record_holds p h =
    let (t, h₁) = (and-eq-true_iff _ _).0 h in
    let (n, l) = (and-eq-true_iff _ _).0 h₁ in
    record { tracked = leb-true _ _ t; few = leb-true _ _ n; load = l }

pub holds_record : (p : PeerMessagePolicy) → RecordHolds p → policy_sound p ≡ true
unfolding policy_sound
holds_record p h = rw (le-leb _ _ h.tracked, le-leb _ _ h.few) h.load

-- a key of 33 bytes
abbrev pub Key : List ℕ → Type 0
Key k = kept.Key peer_layout k

-- rules and order of rows, no more than the limit, each under a key of 33 bytes
abbrev pub RowsHold : PeerMessagePolicyConfig → Peers → Type 0
RowsHold c rs = kept.RowsHold peer_layout (peer_sound c) (limit c) rs

-- a sound policy, with the memory that is lent to it
pub record PolicyHolds (p : PeerMessagePolicy) (s : List ℕ) : Type 0 where
  pub own : RecordHolds p
  pub long : row_width * limit p.config ≤ length s
  pub rules : every (peer_sound p.config) (rows_of p s) ≡ true
  pub order : ascending (rows_of p s) ≡ true

pub policy_holds : (p : PeerMessagePolicy) (s : List ℕ) → sound p s ≡ true → PolicyHolds p s
unfolding sound
policy_holds p s h =
    let (r, h₁) = (and-eq-true_iff _ _).0 h in
    let (l, h₂) = (and-eq-true_iff _ _).0 h₁ in
    let (e, a) = (and-eq-true_iff _ _).0 h₂ in
    record { own = record_holds p r; long = leb-true _ _ l; rules = e; order = a }

pub holds_policy : (p : PeerMessagePolicy) (s : List ℕ) → PolicyHolds p s → sound p s ≡ true
unfolding sound
holds_policy p s h = rw (holds_record p h.own, le-leb _ _ h.long, h.rules) h.order

-- its memory holds the rows as it should
lent_part : (p : PeerMessagePolicy) (s : List ℕ) → PolicyHolds p s → LentHolds peer_layout (peer_sound p.config) (limit p.config) s p.rows
lent_part p s h = record { few = h.own.few; long = h.long; rules = h.rules; order = h.order }

-- the rows of a sound policy, in memory that holds bytes
pub rows_hold : (p : PeerMessagePolicy) (s : List ℕ) → PolicyHolds p s → Bytes s → RowsHold p.config (rows_of p s)
rows_hold p s h b = laws.rows_hold peer_layout (peer_sound p.config) (limit p.config) s p.rows (omega arith) (lent_part p s h) b

-- ════ What a change of the rows must keep ════

-- what a call leaves of a policy and its memory: soundness, the memory's length, bytes, and the settings
pub record Kept (p : PeerMessagePolicy) (s : List ℕ) (q : PeerMessagePolicy) (t : List ℕ) : Type 0 where
  pub stays_sound : sound q t ≡ true
  pub same_length : length t ≡ length s
  pub holds_bytes : Bytes t
  pub same_settings : q.config ≡ p.config

-- the same, with the rows that a change says
pub record Leaves (p : PeerMessagePolicy) (s : List ℕ) (change : Change) (q : PeerMessagePolicy) (t : List ℕ) : Type 0 where
  pub kept : Kept p s q t
  pub rows : rows_of q t ≡ changed_rows (rows_of p s) change

-- a change to rows that hold
abbrev pub ChangeHolds : PeerMessagePolicyConfig → Change → Type 0
ChangeHolds c change = kept.ChangeHolds peer_layout (peer_sound c) (limit c) change

module _ (p : PeerMessagePolicy) (s t : List ℕ) (i : FiberIngressBudget) where
  change_kept : (change : Change) → PolicyHolds p s → Bytes s → ingress_sound p.config i ≡ true → ChangeHolds p.config change
      → Memory s t p.rows change → Kept p s (policy_after p i change) t
  change_kept change h b load rs m =
      let after : LentKept peer_layout (peer_sound p.config) (limit p.config) s t p.rows change =
      laws.change_kept (numbers_encode peer_numbers_lem) (peer_sound p.config) (limit p.config) s t p.rows change (lent_part p s h) b rs m in
      let q : PeerMessagePolicy = policy_after p i change in
      let own : RecordHolds q = record { tracked = h.own.tracked; few = after.holds.few; load = load } in
      record {
        stays_sound =
            holds_policy q t (record { own = own; long = after.holds.long; rules = after.holds.rules; order = after.holds.order });
        same_length = after.same_length;
        holds_bytes = after.holds_bytes;
        same_settings = refl;
      }

  -- a load within the ceiling and rows that hold, in the memory that the change left
  pub change_leaves : (change : Change) → PolicyHolds p s → Bytes s → ingress_sound p.config i ≡ true → ChangeHolds p.config change
      → Memory s t p.rows change → Leaves p s change (policy_after p i change) t
  change_leaves change h b load rs m = record { kept = change_kept change h b load rs m; rows = change_rows peer_layout s t p.rows change m }

-- ════ What each call's change keeps ════

module _ (c : PeerMessagePolicyConfig) where
  -- what admit and record_invalid find: a sound entry, and rows that any sound entry may be stored among
  abbrev UpdateHolds : List ℕ → Update → Type 0
  UpdateHolds k banned = Unit {0}
  UpdateHolds k (update e rs) =
      (entry_sound c e ≡ true) × ((x : PeerMessagePolicyEntry) → entry_sound c x ≡ true → RowsHold c (store k x rs))

  module _ (now : ℕ) (k : List ℕ) (rs : Peers) (key : Key k) (h : RowsHold c rs) where
    -- the same, by what is found
    for_update_by : (found : Option PeerMessagePolicyEntry) → look k rs ≡ found → UpdateHolds k (entry_for_update c now rs k found)
    unfolding entry_for_update
    for_update_by none l =
        let left : Peers = make_room c now rs in
        let taken : Sub left rs = sub_make_room c now rs in
        let gone : look k left ≡ none = look_make_room_none c now rs h.order k l in (
          new_sound c now,
          λ x e.
              store_hold peer_layout (peer_sound c) (limit c) k x left key e (sub_hold peer_layout (peer_sound c) (limit c) taken h)
              (omega (arith, length_store_none k left x gone, room_for_one c now rs h.few)),
        )
    for_update_by (some e) l =
        let over : (x : PeerMessagePolicyEntry) → entry_sound c x ≡ true → RowsHold c (store k x rs) =
        λ x y. store_hold peer_layout (peer_sound c) (limit c) k x rs key y h (omega (arith, length_store_some k rs x l, h.few))
        in
        chosen (UpdateHolds k) (entry_is_banned e now) (λ t. tt)
        (λ t.
        chosen (UpdateHolds k) (entry_is_spent e now)
        (λ u. (new_sound c now, λ x y. rw (spent_in_place c now k rs h.few h.order l x) (over x y)))
        (λ u. (look_rule (peer_sound c) k rs h.rules l, over)))

    for_update : UpdateHolds k (entry_for_update c now rs k (look k rs))
    for_update = for_update_by (look k rs) refl

  -- what holds of a turn: rows and load
  pub record TurnHolds {C : Type 0} (t : Turn C) : Type 0 where
    pub rows : ChangeHolds c t.change
    pub load : ingress_sound c t.ingress ≡ true

  module _ (i : FiberIngressBudget) (within : ingress_sound c i ≡ true) (k : List ℕ) where
    -- a turn that goes on from what holds to what holds
    turn_holds : {C : Type 0} (live : C) (goOn : PeerMessagePolicyEntry → Peers → Turn C)
        → ((e : PeerMessagePolicyEntry) (rs : Peers) → UpdateHolds k (update e rs) → TurnHolds (goOn e rs))
        → (u : Update) → UpdateHolds k u → TurnHolds (turn_of i live goOn u)
    turn_holds live goOn holds banned h = record { rows = tt; load = within }
    turn_holds live goOn holds (update e rs) h = holds e rs h

    -- a decision that keeps entry and load sound
    carried_holds : (rs : Peers) (d : Decision) → entry_sound c d.entry ≡ true → ingress_sound c d.ingress ≡ true
        → ((x : PeerMessagePolicyEntry) → entry_sound c x ≡ true → RowsHold c (store k x rs)) → TurnHolds (carried_out i k rs d)
    unfolding carried_out
    carried_holds rs d sound-entry load over =
        chosen (λ (t : Turn Cause). TurnHolds t) (refuses d.cause) (λ o. record { rows = tt; load = within })
        (λ o. record { rows = over d.entry sound-entry; load = load })

    module _ (rs : Peers) (key : Key k) (h : RowsHold c rs) where
      pub admit_holds : (size now : ℕ) → TurnHolds (admit c i rs k size now)
      unfolding admit
      admit_holds size now =
          turn_holds Cause.LiveBan (λ e xs. carried_out i k xs (decision c i e size now (try_reserve c i size)))
          (λ e xs u.
          carried_holds xs (decision c i e size now (try_reserve c i size)) (decision_sound c i e size now (try_reserve c i size) u.0)
          (decision_load c i e size now (try_reserve c i size) (reservation_holds c i size) within) u.1)
          (entry_for_update c now rs k (look k rs)) (for_update now k rs key h)

      pub record_invalid_holds : (now : ℕ) → TurnHolds (record_invalid c i rs k now)
      unfolding record_invalid
      record_invalid_holds now =
          turn_holds InvalidCause.LiveBan (λ e xs. noted_down i k xs (invalid_decision c e now))
          (λ e xs u. record { rows = u.1 (invalid_decision c e now).entry (invalid_decision_sound c e now u.0); load = within })
          (entry_for_update c now rs k (look k rs)) (for_update now k rs key h)

  module _ (k : List ℕ) (rs : Peers) (key : Key k) (h : RowsHold c rs) (now : ℕ) where
    pub is_banned_holds : (found : Option PeerMessagePolicyEntry) → ChangeHolds c (is_banned_change rs k now found)
    unfolding is_banned_change
    is_banned_holds none = tt
    is_banned_holds (some e) = chosen (ChangeHolds c) (entry_is_spent e now) (λ t. sub_hold peer_layout (peer_sound c) (limit c) (sub_erase k rs) h) (λ t. tt)

    pub disconnected_holds : (found : Option PeerMessagePolicyEntry) → look k rs ≡ found → ChangeHolds c (disconnected_change c rs k now found)
    unfolding disconnected_change
    disconnected_holds none l = tt
    disconnected_holds (some e) l =
        let x : PeerMessagePolicyEntry = entry_expire_windows e now c.ban_duration_ms in
        let y : entry_sound c x ≡ true = expire_sound c e now c.ban_duration_ms (look_rule (peer_sound c) k rs h.rules l) in
        chosen (ChangeHolds c) (entry_is_banned e now) (λ t. tt)
        (λ t.
        chosen (ChangeHolds c) (entry_is_spent e now) (λ u. sub_hold peer_layout (peer_sound c) (limit c) (sub_erase k rs) h)
        (λ u. store_hold peer_layout (peer_sound c) (limit c) k x rs key y h (omega (arith, length_store_some k rs x l, h.few))))

-- ════ A refusal ════

-- a turn that is undone, if it is refused
abbrev Undone : FiberIngressBudget → Turn Cause → Type 0
Undone i t = refuses t.cause ≡ true → (t.ingress ≡ i) × (t.change ≡ same)

module _ (c : PeerMessagePolicyConfig) (i : FiberIngressBudget) (k : List ℕ) (size now : ℕ) where
  undone_by : (u : Update) → Undone i (turn_of i Cause.LiveBan (λ e xs. carried_out i k xs (decision c i e size now (try_reserve c i size))) u)
  unfolding carried_out
  undone_by banned = λ o. (refl, refl)
  undone_by (update e rs) =
      chosen (Undone i) (refuses (decision c i e size now (try_reserve c i size)).cause) (λ o u. (refl, refl)) (λ o u. absurd (true_is_not_false u o))

  -- a refusal undoes everything
  pub admit_undone : (rs : Peers) → Undone i (admit c i rs k size now)
  unfolding admit
  admit_undone rs = undone_by (entry_for_update c now rs k (look k rs))
