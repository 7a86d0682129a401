-- Laws of one peer's entry: what a call leaves of the entry under a key. Calls of other peers, is_banned and on_disconnected leave it,
-- drop it or expire its windows; the peer's own admit and record_invalid find a live ban, or carry out a decision on the entry that
-- they land on. Assumes nothing.
use Rattle.std.specs.Prelude.{◌≡◌, true, false, List, ◌⊎◌, leb, ltb, eqb}
use Rattle.std.proofs.Math.Path.{refl}
use Rattle.std.proofs.Math.Logic.{⊎_elim}
use Rattle.std.proofs.Math.Option.{Option, none, some}
use Prim.Native.Nat.{ℕ, ◌≤◌, ◌<◌}
use Rattle.std.proofs.Common.{arith, leb-true, ltb-true}
use Rattle.truths.specs.TruthLaws.{by_test, both_parts, chosen}
use Rattle.table.specs.Table.{ascending, look, store, erase}
use Rattle.table.specs.TableLaws.{Sub, sub_erase, sub_trans}
use Rattle.table.specs.LookLaws.{look_store_same, look_store_other, sub_look}
use Rattle.peer_settings.specs.declared.config.PeerMessagePolicyConfig.{PeerMessagePolicyConfig}
use Rattle.peer_state.specs.declared.entry.PeerMessagePolicyEntry.{PeerMessagePolicyEntry}
use Rattle.peer_state.specs.declared.ingress.FiberIngressBudget.{FiberIngressBudget}
use Rattle.peer_verdict.specs.declared.verdict.Cause.{Cause}
use Rattle.peer_verdict.specs.declared.verdict.Decision.{Decision}
use Rattle.peer_verdict.specs.declared.verdict.InvalidCause.{InvalidCause}
use Rattle.peer_state.specs.Entry.{entry_new, entry_is_banned, entry_is_spent, entry_expire_windows}
use Rattle.peer_rows.specs.Rows.{Peers}
use Rattle.peer_table.specs.Room.{make_room}
use Rattle.peer_table.specs.RoomLaws.{sub_make_room}
use Rattle.peer_verdict.specs.Verdict.{invalid_decision, refuses}
use Rattle.peer_message_policy.specs.Policy.{Change, become, Turn, unchanged, turn_of, carried_out, noted_down, Update, banned, update, entry_for_update, record_invalid, is_banned_change, disconnected_change}
use Rattle.peer_message_policy.specs.Calls.{changed_rows}

-- ════ Calls that do not judge the entry ════

-- what becomes of an entry: it stays, it goes, or its windows expire
pub data Fate (found : Option PeerMessagePolicyEntry) : Option PeerMessagePolicyEntry → Type 0 where
  stayed : Fate found found
  gone : Fate found none
  expired : (e : PeerMessagePolicyEntry) (now duration : ℕ) → found ≡ some e → Fate found (some (entry_expire_windows e now duration))

-- the entry of a key after a change
abbrev pub After : List ℕ → Peers → Change → Type 0
After j rs change = Fate (look j rs) (look j (changed_rows rs change))

-- rows taken out
sub_fate : (j : List ℕ) {xs ys : Peers} → Sub xs ys → ascending ys ≡ true → Fate (look j ys) (look j xs)
sub_fate j s order = ⊎_elim (λ e. rw e stayed) (λ e. rw e gone) (sub_look s order j)

module _ (j k : List ℕ) (rs : Peers) (order : ascending rs ≡ true) (now : ℕ) where
  -- is_banned, of any peer
  pub is_banned_fate : (found : Option PeerMessagePolicyEntry) → After j rs (is_banned_change rs k now found)
  unfolding is_banned_change
  is_banned_fate none = stayed
  is_banned_fate (some e) =
      chosen (After j rs) (entry_is_spent e now) (λ t. sub_fate j (sub_erase k rs) order) (λ t. stayed)

  -- on_disconnected, of any peer
  pub disconnected_fate : (c : PeerMessagePolicyConfig) → ((j ≡ k) ⊎ (j ≡ k → ⊥)) → (found : Option PeerMessagePolicyEntry) → look k rs ≡ found
      → After j rs (disconnected_change c rs k now found)
  unfolding disconnected_change
  disconnected_fate c keys none l = stayed
  disconnected_fate c keys (some e) l =
      let d : ℕ = c.ban_duration_ms in
      let x : PeerMessagePolicyEntry = entry_expire_windows e now d in
      let own : j ≡ k → After j rs (become (store k x rs)) =
      λ q. rw (q, look_store_same k x rs) (expired e now d l)
      in
      let other : (j ≡ k → ⊥) → After j rs (become (store k x rs)) = λ q. rw (look_store_other k x j q rs) stayed in
      chosen (After j rs) (entry_is_banned e now) (λ t. stayed)
      (λ t.
      chosen (After j rs) (entry_is_spent e now) (λ u. sub_fate j (sub_erase k rs) order)
      (λ u. ⊎_elim own other keys))

-- ════ Turns of other peers ════

module _ (j k : List ℕ) (other : j ≡ k → ⊥) (rs : Peers) (order : ascending rs ≡ true) where
  abbrev UpdateFate : Update → Type 0
  UpdateFate banned = Unit {0}
  UpdateFate (update e xs) = Fate (look j rs) (look j xs)

  update_fate : (c : PeerMessagePolicyConfig) (now : ℕ) (found : Option PeerMessagePolicyEntry) → UpdateFate (entry_for_update c now rs k found)
  unfolding entry_for_update
  update_fate c now none = sub_fate j (sub_make_room c now rs) order
  update_fate c now (some e) =
      chosen UpdateFate (entry_is_banned e now) (λ t. tt)
      (λ t.
      chosen UpdateFate (entry_is_spent e now)
      (λ u. sub_fate j (sub_trans (sub_make_room c now (erase k rs)) (sub_erase k rs)) order) (λ u. stayed))

  turn_fate : {C : Type 0} (i : FiberIngressBudget) (live : C) (goOn : PeerMessagePolicyEntry → Peers → Turn C)
      → ((e : PeerMessagePolicyEntry) (xs : Peers) → Fate (look j rs) (look j xs) → After j rs (goOn e xs).change)
      → (u : Update) → UpdateFate u → After j rs (turn_of i live goOn u).change
  turn_fate i live goOn fate banned h = stayed
  turn_fate i live goOn fate (update e xs) h = fate e xs h

  -- a turn that carries out a decision on a message
  pub message_fate : (c : PeerMessagePolicyConfig) (i : FiberIngressBudget) (decide : PeerMessagePolicyEntry → Decision) (now : ℕ)
      → After j rs (turn_of i Cause.LiveBan (λ e xs. carried_out i k xs (decide e)) (entry_for_update c now rs k (look k rs))).change
  unfolding carried_out
  message_fate c i decide now =
      turn_fate i Cause.LiveBan (λ e xs. carried_out i k xs (decide e))
      (λ e xs h.
      chosen (λ (t : Turn Cause). After j rs t.change) (refuses (decide e).cause) (λ o. stayed)
      (λ o. rw (look_store_other k (decide e).entry j other xs) h))
      (entry_for_update c now rs k (look k rs)) (update_fate c now (look k rs))

  -- record_invalid
  pub record_invalid_fate : (c : PeerMessagePolicyConfig) (i : FiberIngressBudget) (now : ℕ) → After j rs (record_invalid c i rs k now).change
  unfolding record_invalid
  record_invalid_fate c i now =
      turn_fate i InvalidCause.LiveBan (λ e xs. noted_down i k xs (invalid_decision c e now))
      (λ e xs h. rw (look_store_other k (invalid_decision c e now).entry j other xs) h)
      (entry_for_update c now rs k (look k rs)) (update_fate c now (look k rs))

-- ════ The peer's own turns ════

-- the entry that a call lands on: the one that is found, with no ban on it that is live or spent; or one that is made anew
pub data Lands (c : PeerMessagePolicyConfig) (now : ℕ) (found : Option PeerMessagePolicyEntry) (e : PeerMessagePolicyEntry) : Type 0 where
  kept : found ≡ some e → entry_is_spent e now ≡ false → Lands c now found e
  remade : (old : PeerMessagePolicyEntry) → found ≡ some old → entry_is_spent old now ≡ true → e ≡ entry_new c now → Lands c now found e
  absent : found ≡ none → e ≡ entry_new c now → Lands c now found e

-- the ways an own turn goes: under a live ban nothing changes, else it goes on with the entry that it lands on
module _ {C : Type 0} (k : List ℕ) (rs : Peers) (c : PeerMessagePolicyConfig) (i : FiberIngressBudget) (now : ℕ)
    (liveBan : C) (goOn : PeerMessagePolicyEntry → Peers → Turn C) (P : Turn C → Type 0)
    (under : (e : PeerMessagePolicyEntry) → look k rs ≡ some e → entry_is_banned e now ≡ true → P (unchanged i liveBan))
    (landed : (e : PeerMessagePolicyEntry) (xs : Peers) → Lands c now (look k rs) e → P (goOn e xs)) where
  ways_by : (found : Option PeerMessagePolicyEntry) → look k rs ≡ found → P (turn_of i liveBan goOn (entry_for_update c now rs k found))
  unfolding entry_for_update
  ways_by none l = landed (entry_new c now) (make_room c now rs) (absent l refl)
  ways_by (some e) l =
      let Q : Update → Type 0 = λ u. P (turn_of i liveBan goOn u) in
      chosen Q (entry_is_banned e now) (λ t. under e l t)
      (λ t.
      chosen Q (entry_is_spent e now) (λ u. landed (entry_new c now) (make_room c now (erase k rs)) (remade e l u refl))
      (λ u. landed e rs (kept l u)))

  turn_ways : P (turn_of i liveBan goOn (entry_for_update c now rs k (look k rs)))
  turn_ways = ways_by (look k rs) refl

-- an own admit: under a live ban nothing changes; a refusal undoes the decision; any other is carried out
pub data Own (c : PeerMessagePolicyConfig) (now : ℕ) (decide : PeerMessagePolicyEntry → Decision) (found after : Option PeerMessagePolicyEntry) (cause : Cause) : Type 0 where
  live : (e : PeerMessagePolicyEntry) → found ≡ some e → entry_is_banned e now ≡ true → cause ≡ Cause.LiveBan → after ≡ found → Own c now decide found after cause
  undone : (e : PeerMessagePolicyEntry) → Lands c now found e → refuses (decide e).cause ≡ true → cause ≡ (decide e).cause → after ≡ found → Own c now decide found after cause
  carried : (e : PeerMessagePolicyEntry) → Lands c now found e → refuses (decide e).cause ≡ false → cause ≡ (decide e).cause → after ≡ some (decide e).entry → Own c now decide found after cause

-- an own record_invalid: under a live ban nothing changes; else the decision is carried out
pub data OwnInvalid (c : PeerMessagePolicyConfig) (now : ℕ) (found after : Option PeerMessagePolicyEntry) (cause : InvalidCause) : Type 0 where
  barred : (e : PeerMessagePolicyEntry) → found ≡ some e → entry_is_banned e now ≡ true → cause ≡ InvalidCause.LiveBan → after ≡ found → OwnInvalid c now found after cause
  counted : (e : PeerMessagePolicyEntry) → Lands c now found e → cause ≡ (invalid_decision c e now).cause → after ≡ some (invalid_decision c e now).entry → OwnInvalid c now found after cause

module _ (k : List ℕ) (rs : Peers) (c : PeerMessagePolicyConfig) (i : FiberIngressBudget) where
  -- the turn that carries out a decision on a message
  pub own_message : (decide : PeerMessagePolicyEntry → Decision) (now : ℕ)
      → (let turn = turn_of i Cause.LiveBan (λ e xs. carried_out i k xs (decide e)) (entry_for_update c now rs k (look k rs))
      in Own c now decide (look k rs) (look k (changed_rows rs turn.change)) turn.cause)
  unfolding carried_out
  own_message decide now =
      let P : Turn Cause → Type 0 = λ t. Own c now decide (look k rs) (look k (changed_rows rs t.change)) t.cause in
      turn_ways k rs c i now Cause.LiveBan (λ e xs. carried_out i k xs (decide e)) P
      (λ e found ban. live e found ban refl refl)
      (λ e xs lands.
      chosen P (refuses (decide e).cause) (λ o. undone e lands o refl refl)
      (λ o. carried e lands o refl (look_store_same k (decide e).entry xs)))

  pub own_invalid : (now : ℕ)
      → OwnInvalid c now (look k rs) (look k (changed_rows rs (record_invalid c i rs k now).change)) (record_invalid c i rs k now).cause
  unfolding record_invalid
  own_invalid now =
      turn_ways k rs c i now InvalidCause.LiveBan (λ e xs. noted_down i k xs (invalid_decision c e now))
      (λ t. OwnInvalid c now (look k rs) (look k (changed_rows rs t.change)) t.cause)
      (λ e found ban. barred e found ban refl refl)
      (λ e xs lands. counted e lands refl (look_store_same k (invalid_decision c e now).entry xs))

-- a ban is not both live and spent
pub live_not_spent : (e : PeerMessagePolicyEntry) (now : ℕ) → entry_is_banned e now ≡ true → entry_is_spent e now ≡ false
live_not_spent e now live-ban =
    by_test (entry_is_spent e now)
    (λ spent.
    let before : now < e.ban.until_ms = ltb-true _ _ (both_parts (eqb e.ban.mark 1) (ltb now e.ban.until_ms) live-ban).1 in
    let over : e.ban.until_ms ≤ now = leb-true _ _ (both_parts (eqb e.ban.mark 1) (leb e.ban.until_ms now) spent).1 in
    absurd (omega arith))
    (λ spent. spent)
