-- The rows along core calls: their keys ascend; a refused call leaves them; a trail leads to them; and no call uses an entry after its
-- own time. Assumes nothing.
use Rattle.std.specs.Prelude.{◌≡◌, refl, Bool, true, false, List, [], ◌∷◌, ℕ, ◌≤◌}
use Rattle.std.proofs.Common.{sym, ap, subst, ◌∙◌, ⊎_elim, arith}
use Rattle.std.proofs.Math.Option.{Option, none, some}
use Rattle.truths.specs.TruthLaws.{by_test, true_is_not_false, chosen}
use Rattle.pubkey.specs.declared.Pubkey.{Pubkey}
use Rattle.refusal.specs.Refusal.{Said, gives, refused}
use Rattle.table.specs.Table.{look, ascending, erase}
use Rattle.table.specs.TableLaws.{sub_ascending, sub_trans, sub_erase, ascending_store}
use Rattle.peer_settings.specs.declared.config.PeerMessagePolicyConfig.{PeerMessagePolicyConfig}
use Rattle.peer_state.specs.declared.entry.PeerMessagePolicyEntry.{PeerMessagePolicyEntry}
use Rattle.peer_verdict.specs.declared.verdict.Cause.{Cause}
use Rattle.peer_verdict.specs.declared.verdict.Decision.{Decision}
use Rattle.peer_verdict.specs.declared.verdict.InvalidCause.{InvalidCause}
use Rattle.peer_state.specs.Entry.{entry_is_banned, entry_is_spent, entry_expire_windows}
use Rattle.peer_verdict.specs.Verdict.{invalid_decision, refuses}
use Rattle.peer_verdict.specs.Causes.{invalid_cause_says}
use Rattle.peer_rows.specs.Rows.{Peers}
use Rattle.peer_table.specs.RoomLaws.{sub_make_room}
use Rattle.peer_message_policy.specs.Policy
use Rattle.peer_message_policy.specs.Policy.{Change, same, Turn, carried_out, noted_down, Update, banned, update, turn_of, entry_for_update, is_banned_change, disconnected_change}
use Rattle.peer_message_policy.specs.Calls.{changed_rows, fresh, standing_of, standing_says}
use Rattle.peer_laws.specs.RefusedLaws.{NotRefused, invalid_not_refused}
use Rattle.peer_laws.specs.PeerLaws.{Fate, stayed, gone, expired, Own, live, undone, carried, OwnInvalid, barred, counted}
use Rattle.promises.specs.Core.{idle, admits, message_turn, invalid_turn, change_in, says_in, after, core_time, trail_of}
use Rattle.promises.specs.Trails.{CoreCall, admit, record_invalid, is_banned, on_disconnected, Event, seen, rows_at}
use Rattle.promises.specs.Lives.{same_key, last_used}
use Rattle.promises.proofs.DecisionLaws.{decided, invalid_decision_noted}
use Rattle.promises.proofs.CoreStepLaws.{gives_is_not_refused, refused_either, same_key_lem, left_in, own_here, own_invalid_here, other_here, other_invalid_here, is_banned_here, disconnected_here}

-- ════ Keys ascend ════

module _ (c : PeerMessagePolicyConfig) (rs : Peers) (order : ascending rs ≡ true) where
  -- the rows that a change leaves ascend
  abbrev Ascends : Change → Type 0
  Ascends change = ascending (changed_rows rs change) ≡ true

  abbrev UpdateAscends : Update → Type 0
  UpdateAscends banned = Unit {0}
  UpdateAscends (update e xs) = ascending xs ≡ true

  update_ascends : (now : ℕ) (k : List ℕ) (found : Option PeerMessagePolicyEntry) → UpdateAscends (entry_for_update c now rs k found)
  unfolding entry_for_update
  update_ascends now k none = sub_ascending (sub_make_room c now rs) order
  update_ascends now k (some e) =
      chosen UpdateAscends (entry_is_banned e now) (λ t. tt)
      (λ t.
      chosen UpdateAscends (entry_is_spent e now)
      (λ u. sub_ascending (sub_trans (sub_make_room c now (erase k rs)) (sub_erase k rs)) order) (λ u. order))

  message_ascends : (k : List ℕ) (decide : PeerMessagePolicyEntry → Decision) (u : Update) → UpdateAscends u
      → Ascends (turn_of idle Cause.LiveBan (λ e xs. carried_out idle k xs (decide e)) u).change
  unfolding carried_out
  message_ascends k decide banned h = order
  message_ascends k decide (update e xs) h =
      chosen (λ (t : Turn Cause). Ascends t.change) (refuses (decide e).cause) (λ o. order) (λ o. ascending_store k (decide e).entry xs h)

  invalid_ascends : (k : List ℕ) (now : ℕ) (u : Update) → UpdateAscends u
      → Ascends (turn_of idle InvalidCause.LiveBan (λ e xs. noted_down idle k xs (invalid_decision c e now)) u).change
  invalid_ascends k now banned h = order
  invalid_ascends k now (update e xs) h = ascending_store k (invalid_decision c e now).entry xs h

  is_banned_ascends : (k : List ℕ) (now : ℕ) (found : Option PeerMessagePolicyEntry) → Ascends (is_banned_change rs k now found)
  unfolding is_banned_change
  is_banned_ascends k now none = order
  is_banned_ascends k now (some e) = chosen Ascends (entry_is_spent e now) (λ t. sub_ascending (sub_erase k rs) order) (λ t. order)

  disconnected_ascends : (k : List ℕ) (now : ℕ) (found : Option PeerMessagePolicyEntry) → Ascends (disconnected_change c rs k now found)
  unfolding disconnected_change
  disconnected_ascends k now none = order
  disconnected_ascends k now (some e) =
      chosen Ascends (entry_is_banned e now) (λ t. order)
      (λ t.
      chosen Ascends (entry_is_spent e now) (λ u. sub_ascending (sub_erase k rs) order)
      (λ u. ascending_store k (entry_expire_windows e now c.ban_duration_ms) rs order))

  step_ascends : (call : CoreCall) → Ascends (change_in c call rs)
  unfolding Policy.record_invalid
  step_ascends (admit k size now reservation) =
      message_ascends k.bytes (admits c size now reservation) (entry_for_update c now rs k.bytes (look k.bytes rs))
      (update_ascends now k.bytes (look k.bytes rs))
  step_ascends (record_invalid k now) =
      invalid_ascends k.bytes now (entry_for_update c now rs k.bytes (look k.bytes rs))
      (update_ascends now k.bytes (look k.bytes rs))
  step_ascends (is_banned k now) = is_banned_ascends k.bytes now (look k.bytes rs)
  step_ascends (on_disconnected k now) = disconnected_ascends k.bytes now (look k.bytes rs)

pub after_ascends : (c : PeerMessagePolicyConfig) (h : List CoreCall) → ascending (after c h) ≡ true
unfolding after ascending
after_ascends c [] = refl
after_ascends c (call ∷ h) = step_ascends c (after c h) (after_ascends c h) call

-- ════ A refused call leaves the rows ════

turn_undone : (k : List ℕ) (decide : PeerMessagePolicyEntry → Decision) (u : Update)
    → refuses (turn_of idle Cause.LiveBan (λ e xs. carried_out idle k xs (decide e)) u).cause ≡ true
    → (turn_of idle Cause.LiveBan (λ e xs. carried_out idle k xs (decide e)) u).change ≡ same
unfolding carried_out
turn_undone k decide banned = λ o. refl
turn_undone k decide (update e xs) =
    chosen (λ (t : Turn Cause). refuses t.cause ≡ true → t.change ≡ same) (refuses (decide e).cause) (λ o p. refl)
    (λ o p. absurd (true_is_not_false p o))

-- record_invalid and is_banned are not refused
invalid_gives : (cause : InvalidCause) → NotRefused cause → {n : ℕ} → invalid_cause_says cause ≡ refused n → ⊥
invalid_gives InvalidCause.Noted not-refused h = gives_is_not_refused h
invalid_gives InvalidCause.LiveBan not-refused h = gives_is_not_refused h
invalid_gives InvalidCause.BanBegun not-refused h = gives_is_not_refused h
invalid_gives (InvalidCause.Refused m) not-refused h = not-refused

standing_gives : (c : PeerMessagePolicyConfig) (b : Bool) {n : ℕ} → standing_says (standing_of b (fresh c)) ≡ refused n → ⊥
standing_gives c true h = gives_is_not_refused h
standing_gives c false h = gives_is_not_refused h

pub refused_leaves : (c : PeerMessagePolicyConfig) (rs : Peers) (call : CoreCall) {n : ℕ} → says_in c call rs ≡ refused n
    → changed_rows rs (change_in c call rs) ≡ rs
refused_leaves c rs (admit k size now reservation) h =
    ⊎_elim
    (λ over. ap (changed_rows rs) (turn_undone k.bytes (admits c size now reservation) (entry_for_update c now rs k.bytes (look k.bytes rs)) over.0))
    (λ other. absurd (gives_is_not_refused (sym other.1.1 ∙ h)))
    (refused_either (message_turn c k size now reservation rs).cause)
refused_leaves c rs (record_invalid k now) h = absurd (invalid_gives (invalid_turn c k now rs).cause (invalid_not_refused c idle rs k.bytes now) h)
refused_leaves c rs (is_banned k now) h = absurd (standing_gives c (Policy.is_banned (look k.bytes rs) now) h)
refused_leaves c rs (on_disconnected k now) h = absurd (gives_is_not_refused h)

-- ════ A trail leads to the rows ════

-- one call more leads to the rows that it left
pub seen_rows : (call : CoreCall) (said : Said) (rs : Peers) (es : List Event) → ((n : ℕ) → said ≡ refused n → rows_at es ≡ rs)
    → rows_at (seen call said rs es) ≡ rs
seen_rows call (gives xs) rs es same_rows = refl
seen_rows call (refused n) rs es same_rows = same_rows n refl

pub trail_rows : (c : PeerMessagePolicyConfig) (h : List CoreCall) → rows_at (trail_of c h) ≡ after c h
unfolding trail_of after
trail_rows c [] = refl
trail_rows c (call ∷ h) =
    seen_rows call (says_in c call (after c h)) (changed_rows (after c h) (change_in c call (after c h))) (trail_of c h)
    (λ n said. trail_rows c h ∙ sym (refused_leaves c (after c h) call said))

-- ════ The last use ════

-- a call that does not judge the entry is no use of it
fate_used : {found left : Option PeerMessagePolicyEntry} (n : ℕ) → Fate found left → last_used found ≤ n → last_used left ≤ n
unfolding entry_expire_windows
fate_used n stayed h = h
fate_used n gone h = omega arith
fate_used n (expired e now duration q) h = subst (λ o. last_used o ≤ n) q h

-- an own turn uses the entry now, or leaves it
own_used : {c : PeerMessagePolicyConfig} {now : ℕ} {decide : PeerMessagePolicyEntry → Decision} {found left : Option PeerMessagePolicyEntry} {cause : Cause}
    → ((e : PeerMessagePolicyEntry) → (decide e).entry.last_used_ms ≡ now) → Own c now decide found left cause → last_used found ≤ now
    → last_used left ≤ now
own_used used (live e q ban why same_entry) h = rw same_entry h
own_used used (undone e lands o why same_entry) h = rw same_entry h
own_used used (carried e lands o why now-entry) h = rw now-entry (omega (arith, used e))

invalid_used : {c : PeerMessagePolicyConfig} {now : ℕ} {found left : Option PeerMessagePolicyEntry} {cause : InvalidCause}
    → OwnInvalid c now found left cause → last_used found ≤ now → last_used left ≤ now
invalid_used (barred e q ban why same_entry) h = rw same_entry h
invalid_used {c} {now} (counted e lands why now-entry) h = rw now-entry (omega (arith, (invalid_decision_noted c e now).used))

-- no call uses an entry after its own time
pub step_used : (c : PeerMessagePolicyConfig) (k : Pubkey) (rs : Peers) → ascending rs ≡ true → (call : CoreCall)
    → last_used (look k.bytes rs) ≤ core_time call → last_used (left_in c k rs call) ≤ core_time call
step_used c k rs order (admit peer size now reservation) h =
    by_test (same_key k peer)
    (λ own. own_used (λ e. (decided c idle e size now reservation).used) (own_here c k rs peer size now reservation (same_key_lem k peer own)) h)
    (λ other. fate_used now (other_here c k rs order peer size now reservation other) h)
step_used c k rs order (record_invalid peer now) h =
    by_test (same_key k peer)
    (λ own. invalid_used (own_invalid_here c k rs peer now (same_key_lem k peer own)) h)
    (λ other. fate_used now (other_invalid_here c k rs order peer now other) h)
step_used c k rs order (is_banned peer now) h = fate_used now (is_banned_here c k rs order peer now) h
step_used c k rs order (on_disconnected peer now) h = fate_used now (disconnected_here c k rs order peer now) h
