-- PeerMessagePolicy of peer_message_policy.rs, on settings, the load in flight and a list of rows. Definitions only.
use Rattle.std.specs.Prelude.{Bool, false, ◌&&◌, cond, List, ℕ, ◌*◌, max, leb, length}
use Rattle.std.proofs.Math.Option.{Option, none, some}
use Rattle.table.specs.Table.{Row, every, ascending, look, store, erase}
use Rattle.table.specs.Memory.{rows}
use Rattle.table.specs.Outcome as lent
pub use Rattle.table.specs.Outcome.{same, become}
use Rattle.peer_settings.specs.declared.config.PeerMessagePolicyConfig.{PeerMessagePolicyConfig}
use Rattle.peer_state.specs.declared.entry.PeerMessagePolicyEntry.{PeerMessagePolicyEntry}
use Rattle.peer_state.specs.declared.ingress.FiberIngressBudget.{FiberIngressBudget}
use Rattle.peer_verdict.specs.declared.verdict.Cause.{Cause}
use Rattle.peer_verdict.specs.declared.verdict.Decision.{Decision}
use Rattle.peer_verdict.specs.declared.verdict.InvalidCause.{InvalidCause}
use Rattle.peer_verdict.specs.declared.verdict.InvalidDecision.{InvalidDecision}
use Rattle.peer_settings.specs.Config.{limit}
use Rattle.peer_state.specs.Entry.{entry_new, entry_is_banned, entry_is_spent, entry_expire_windows}
use Rattle.peer_state.specs.Ingress.{try_reserve, ingress_sound}
use Rattle.peer_verdict.specs.Verdict.{decision, invalid_decision, refuses}
use Rattle.peer_rows.specs.Rows.{row_width, Peers, peer_layout, peer_sound}
use Rattle.peer_table.specs.Room.{make_room}
use Rattle.peer_message_policy.specs.declared.policy.PeerMessagePolicy.{PeerMessagePolicy}

-- the rows that a policy has in lent memory
abbrev pub rows_of : PeerMessagePolicy → List ℕ → List (Row PeerMessagePolicyEntry)
rows_of p s = rows peer_layout s p.rows

-- ════ Soundness ════

-- the record's own rules: the limit within 1,024, the rows within the limit, and the load within the ceiling
unfoldable pub policy_sound : PeerMessagePolicy → Bool
policy_sound p =
    leb p.config.max_tracked_peers 1024
    && (leb p.rows (limit p.config) && ingress_sound p.config p.ingress)

-- lent memory has room for as many rows as the limit says
abbrev pub long_enough : PeerMessagePolicyConfig → List ℕ → Bool
long_enough c s = leb (row_width * limit c) (length s)

-- every row keeps its rule, and the keys ascend
abbrev pub rows_sound : PeerMessagePolicy → List ℕ → Bool
rows_sound p s = every (peer_sound p.config) (rows_of p s) && ascending (rows_of p s)

-- a policy and the memory lent to it
unfoldable pub sound : PeerMessagePolicy → List ℕ → Bool
sound p s = policy_sound p && (long_enough p.config s && rows_sound p s)

-- ════ The calls ════

-- what a call leaves of the rows: all as they were, or these
abbrev pub Change : Type 0
Change = lent.Change PeerMessagePolicyEntry

-- what admit and record_invalid come to: why, the load in flight, and the rows
pub record Turn (C : Type 0) : Type 0 where
  pub cause : C
  pub ingress : FiberIngressBudget
  pub change : Change

-- nothing changes
abbrev pub unchanged : {C : Type 0} → FiberIngressBudget → C → Turn C
unchanged i cause = record { cause = cause; ingress = i; change = same }

-- insert_entry, with the load in flight
abbrev pub inserted : {C : Type 0} → FiberIngressBudget → List ℕ → Peers → C → PeerMessagePolicyEntry → Turn C
inserted i k rs cause e = record { cause = cause; ingress = i; change = become (store k e rs) }

-- what admit and record_invalid find before they judge: a live ban, or an entry and the rows that it is to be stored among
pub data Update : Type 0 where
  banned : Update
  update : PeerMessagePolicyEntry → Peers → Update

-- entry_for_update of a peer that has no entry: room is made, and a new one is made
abbrev pub new_entry : PeerMessagePolicyConfig → ℕ → Peers → Update
new_entry c now rs = update (entry_new c now) (make_room c now rs)

-- is_banned, and if it says no, entry_for_update: a spent ban drops the entry, so that the peer has none
unfoldable pub entry_for_update : PeerMessagePolicyConfig → ℕ → Peers → List ℕ → Option PeerMessagePolicyEntry → Update
entry_for_update c now rs k none = new_entry c now rs
entry_for_update c now rs k (some e) =
    cond (entry_is_banned e now) banned (cond (entry_is_spent e now) (new_entry c now (erase k rs)) (update e rs))

-- a live ban ends the call; else it goes on with the entry and the rows
abbrev pub turn_of : {C : Type 0} → FiberIngressBudget → C → (PeerMessagePolicyEntry → Peers → Turn C) → Update → Turn C
turn_of i live goOn banned = unchanged i live
turn_of i live goOn (update e rs) = goOn e rs

-- a message's decision is carried out; a refusal undoes everything
unfoldable pub carried_out : FiberIngressBudget → List ℕ → Peers → Decision → Turn Cause
carried_out i k rs d =
    cond (refuses d.cause) (unchanged i d.cause) (inserted d.ingress k rs d.cause d.entry)

-- admit
unfoldable pub admit : PeerMessagePolicyConfig → FiberIngressBudget → Peers → List ℕ → ℕ → ℕ → Turn Cause
admit c i rs k size now =
    turn_of i Cause.LiveBan (λ e xs. carried_out i k xs (decision c i e size now (try_reserve c i size))) (entry_for_update c now rs k (look k rs))

-- an invalid message's decision is carried out; the load stays as it is
abbrev pub noted_down : FiberIngressBudget → List ℕ → Peers → InvalidDecision → Turn InvalidCause
noted_down i k rs d = inserted i k rs d.cause d.entry

-- record_invalid
unfoldable pub record_invalid : PeerMessagePolicyConfig → FiberIngressBudget → Peers → List ℕ → ℕ → Turn InvalidCause
record_invalid c i rs k now =
    turn_of i InvalidCause.LiveBan (λ e xs. noted_down i k xs (invalid_decision c e now)) (entry_for_update c now rs k (look k rs))

-- is_banned, the answer
abbrev pub is_banned : Option PeerMessagePolicyEntry → ℕ → Bool
is_banned none now = false
is_banned (some e) now = entry_is_banned e now

-- is_banned, the rows: a spent ban drops the entry
unfoldable pub is_banned_change : Peers → List ℕ → ℕ → Option PeerMessagePolicyEntry → Change
is_banned_change rs k now none = same
is_banned_change rs k now (some e) = cond (entry_is_spent e now) (become (erase k rs)) same

-- on_disconnected: a spent ban drops the entry, under a live one nothing changes, else both windows expire
unfoldable pub disconnected_change : PeerMessagePolicyConfig → Peers → List ℕ → ℕ → Option PeerMessagePolicyEntry → Change
disconnected_change c rs k now none = same
disconnected_change c rs k now (some e) =
    cond (entry_is_banned e now) same
    (cond (entry_is_spent e now) (become (erase k rs))
    (become (store k (entry_expire_windows e now c.ban_duration_ms) rs)))

-- held time (added): the later of a given time and the peer's last-used time
abbrev pub held_time : ℕ → Option PeerMessagePolicyEntry → ℕ
held_time given none = given
held_time given (some e) = max given e.last_used_ms
