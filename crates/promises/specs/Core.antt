-- The policy's step with no lent memory in it: calls on rows, each with the time that it is decided at, and admit with the room that
-- the ceiling has for the message. Fair share is proved of lists of such calls, and a run of the calls on lent memory, its refused ones
-- left out, comes to one. Definitions only.
use Rattle.std.specs.Prelude.{List, [], ◌∷◌, ℕ, ◌^◌, ◌<◌, ◌≤◌}
use Rattle.std.specs.Prelude.{Result, Ok}
use Rattle.peer_state.specs.declared.ingress.NotReserved.{NotReserved}
use Rattle.pubkey.specs.declared.Pubkey.{Pubkey}
use Rattle.refusal.specs.Refusal.{Said}
use Rattle.table.specs.Table.{look}
use Rattle.peer_settings.specs.declared.config.PeerMessagePolicyConfig.{PeerMessagePolicyConfig}
use Rattle.peer_state.specs.declared.entry.PeerMessagePolicyEntry.{PeerMessagePolicyEntry}
use Rattle.peer_state.specs.declared.ingress.FiberIngressBudget.{FiberIngressBudget}
use Rattle.peer_verdict.specs.declared.verdict.Cause.{Cause}
use Rattle.peer_verdict.specs.declared.verdict.Decision.{Decision}
use Rattle.peer_verdict.specs.declared.verdict.InvalidCause.{InvalidCause}
use Rattle.peer_state.specs.Ingress.{in_flight}
use Rattle.peer_verdict.specs.Verdict.{decision}
use Rattle.peer_verdict.specs.Causes.{cause_says, invalid_cause_says}
use Rattle.peer_rows.specs.Rows.{Peers}
use Rattle.peer_message_policy.specs.Policy as Policy
use Rattle.peer_message_policy.specs.Policy.{Change, Turn, turn_of, carried_out, entry_for_update, is_banned_change, disconnected_change}
use Rattle.peer_message_policy.specs.Calls.{changed_rows, fresh, standing_of, standing_says, changed_says}
use Rattle.promises.specs.Trails.{CoreCall, admit, record_invalid, is_banned, on_disconnected, Event, seen}

-- ════ One call ════

-- a decision carries the load in flight; where the room is given it does not look at it
abbrev pub idle : FiberIngressBudget
idle = in_flight 0 0

-- what admit decides on an entry that is not banned
abbrev pub admits : PeerMessagePolicyConfig → ℕ → ℕ → Result FiberIngressBudget NotReserved → PeerMessagePolicyEntry → Decision
admits c size now reservation e = decision c idle e size now reservation

-- a message's turn: its peer's entry is found or made, and what admit decides on it is carried out
abbrev pub message_turn : PeerMessagePolicyConfig → Pubkey → ℕ → ℕ → Result FiberIngressBudget NotReserved → Peers → Turn Cause
message_turn c k size now reservation rs =
    turn_of idle Cause.LiveBan (λ e xs. carried_out idle k.bytes xs (admits c size now reservation e)) (entry_for_update c now rs k.bytes (look k.bytes rs))

-- an invalid message's turn
abbrev pub invalid_turn : PeerMessagePolicyConfig → Pubkey → ℕ → Peers → Turn InvalidCause
invalid_turn c k now rs = Policy.record_invalid c idle rs k.bytes now

-- what a call does to the rows
abbrev pub change_in : PeerMessagePolicyConfig → CoreCall → Peers → Change
change_in c (admit k size now reservation) rs = (message_turn c k size now reservation rs).change
change_in c (record_invalid k now) rs = (invalid_turn c k now rs).change
change_in c (is_banned k now) rs = is_banned_change rs k.bytes now (look k.bytes rs)
change_in c (on_disconnected k now) rs = disconnected_change c rs k.bytes now (look k.bytes rs)

-- what it says; the policy that an answer carries says nothing
abbrev pub says_in : PeerMessagePolicyConfig → CoreCall → Peers → Said
says_in c (admit k size now reservation) rs = cause_says (message_turn c k size now reservation rs).cause
says_in c (record_invalid k now) rs = invalid_cause_says (invalid_turn c k now rs).cause
says_in c (is_banned k now) rs = standing_says (standing_of (Policy.is_banned (look k.bytes rs) now) (fresh c))
says_in c (on_disconnected k now) rs = changed_says (Ok (fresh c))

-- ════ Lists of calls, the newest first ════

-- the rows after calls, from none
unfoldable pub after : PeerMessagePolicyConfig → List CoreCall → Peers
after c [] = []
after c (call ∷ h) = changed_rows (after c h) (change_in c call (after c h))

-- the time that a call is decided at
abbrev pub core_time : CoreCall → ℕ
core_time (admit peer size now reservation) = now
core_time (record_invalid peer now) = now
core_time (is_banned peer now) = now
core_time (on_disconnected peer now) = now

-- the time of the newest call
abbrev pub core_latest : List CoreCall → ℕ
core_latest [] = 0
core_latest (call ∷ h) = core_time call

-- times never go back
unfoldable pub Timely : List CoreCall → Type 0
Timely [] = Unit {0}
Timely (call ∷ h) = (core_latest h ≤ core_time call) × Timely h

-- a message's size is a u64
abbrev pub SizeFits : CoreCall → Type 0
SizeFits (admit peer size now reservation) = size < 2 ^ 64
SizeFits (record_invalid peer now) = Unit {0}
SizeFits (is_banned peer now) = Unit {0}
SizeFits (on_disconnected peer now) = Unit {0}

-- every message's is
unfoldable pub Sized : List CoreCall → Type 0
Sized [] = Unit {0}
Sized (call ∷ h) = SizeFits call × Sized h

-- the trail that the policy's step makes of calls
unfoldable pub trail_of : PeerMessagePolicyConfig → List CoreCall → List Event
trail_of c [] = []
trail_of c (call ∷ h) = seen call (says_in c call (after c h)) (after c (call ∷ h)) (trail_of c h)
