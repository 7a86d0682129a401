-- Runs of the peer policy's calls on lent memory: each call gets the settings, the state and the whole memory that the one before
-- it left, and is known by its contract alone. Definitions only.
use Rattle.std.specs.Prelude.{◌≡◌, List, [], ◌∷◌, ℕ, ◌^◌, ◌<◌, length}
use Rattle.std.specs.Prelude.{Result, Ok, Err}
use Rattle.refusal.specs.declared.Refusal.{Refusal}
use Rattle.peer_state.specs.declared.ingress.FiberIngressBudget.{FiberIngressBudget}
use Rattle.lent_bytes.specs.LentBytes.{Bytes}
use Rattle.pubkey.specs.declared.Pubkey.{Pubkey}
use Rattle.refusal.specs.Refusal.{Said}
use Rattle.peer_settings.specs.declared.config.PeerMessagePolicyConfig.{PeerMessagePolicyConfig}
use Rattle.peer_message_policy.specs.declared.policy.PeerMessagePolicy.{PeerMessagePolicy}
use Rattle.peer_message_policy.specs.declared.answer.Admission.{Admission}
use Rattle.peer_message_policy.specs.declared.answer.Invalid.{Invalid}
use Rattle.peer_message_policy.specs.declared.answer.Standing.{Standing}
use Rattle.peer_rows.specs.Rows.{key_width, Peers}
use Rattle.peer_message_policy.specs.Policy.{rows_of}
use Rattle.peer_message_policy.specs.Calls.{admission_says, invalid_says, standing_says, changed_says, in_flight_says, held_time_says}
use Rattle.peer_message_policy.specs.Calls.{NewMeets, AdmitMeets, RecordInvalidMeets, IsBannedMeets, OnDisconnectedMeets, ReleaseIngressMeets, InFlightMeets, HeldTimeMeets}

-- the calls on a policy, with the times that they are given
pub data Call : Type 0 where
  admit : (peer : Pubkey) (bytes now : ℕ) → Call
  record_invalid : (peer : Pubkey) (now : ℕ) → Call
  is_banned : (peer : Pubkey) (now : ℕ) → Call
  on_disconnected : (peer : Pubkey) (now : ℕ) → Call
  release_ingress : (bytes : ℕ) → Call
  in_flight : Call
  held_time : (peer : Pubkey) (given : ℕ) → Call

-- what a caller keeps between two calls: the policy and the lent memory, whole
pub record State : Type 0 where
  pub policy : PeerMessagePolicy
  pub memory : List ℕ

-- the rows of a state
abbrev pub rows_in : State → Peers
rows_in s = rows_of s.policy s.memory

-- the policy that a caller goes on with: the one in the answer, or his own copy after a refusal; the answers of admit and record_invalid
-- always have one
abbrev pub after_standing : PeerMessagePolicy → Standing → PeerMessagePolicy
after_standing p (Standing.Banned q) = q
after_standing p (Standing.Free q) = q
after_standing p (Standing.Refused n) = p

abbrev pub after_changed : PeerMessagePolicy → Result PeerMessagePolicy Refusal → PeerMessagePolicy
after_changed p (Ok q) = q
after_changed p (Err n) = p

-- one call, from a state to a state, with what it says: exactly what the call's contract allows
abbrev pub Step : State → Call → Said → State → Type 0
Step s (admit k bytes now) said t =
    (r : Admission)
    × AdmitMeets s.policy s.memory k bytes now r t.memory
    × (said ≡ admission_says r)
    × (t.policy ≡ r.policy)
Step s (record_invalid k now) said t =
    (r : Invalid)
    × RecordInvalidMeets s.policy s.memory k now r t.memory
    × (said ≡ invalid_says r)
    × (t.policy ≡ r.policy)
Step s (is_banned k now) said t =
    (r : Standing)
    × IsBannedMeets s.policy s.memory k now r t.memory
    × (said ≡ standing_says r)
    × (t.policy ≡ after_standing s.policy r)
Step s (on_disconnected k now) said t =
    (r : Result PeerMessagePolicy Refusal)
    × OnDisconnectedMeets s.policy s.memory k now r t.memory
    × (said ≡ changed_says r)
    × (t.policy ≡ after_changed s.policy r)
Step s (release_ingress bytes) said t =
    (r : Result PeerMessagePolicy Refusal)
    × ReleaseIngressMeets s.policy bytes r
    × (said ≡ changed_says r)
    × (t ≡ record { policy = after_changed s.policy r; memory = s.memory })
Step s in_flight said t = (r : Result FiberIngressBudget Refusal) × InFlightMeets s.policy r × (said ≡ in_flight_says r) × (t ≡ s)
Step s (held_time k given) said t =
    (r : Result ℕ Refusal) × HeldTimeMeets s.policy s.memory k given r × (said ≡ held_time_says r) × (t ≡ s)

-- a key of 33 bytes
abbrev pub KeyFits : Pubkey → Type 0
KeyFits k = (length k.bytes ≡ key_width) × Bytes k.bytes

-- what the machine gives of any arguments: u64 numbers and keys of 33 bytes
abbrev pub CallFits : Call → Type 0
CallFits (admit k bytes now) = KeyFits k × (bytes < 2 ^ 64) × (now < 2 ^ 64)
CallFits (record_invalid k now) = KeyFits k × (now < 2 ^ 64)
CallFits (is_banned k now) = KeyFits k × (now < 2 ^ 64)
CallFits (on_disconnected k now) = KeyFits k × (now < 2 ^ 64)
CallFits (release_ingress bytes) = bytes < 2 ^ 64
CallFits in_flight = Unit {0}
CallFits (held_time k given) = KeyFits k × (given < 2 ^ 64)

-- a run from a fresh policy with these settings, over calls (the newest first), to a state
pub data Run (c : PeerMessagePolicyConfig) : List Call → State → Type 0 where
  made : (before after : List ℕ) (p : PeerMessagePolicy) → Bytes before → NewMeets c before (Ok p) after → Run c [] (record { policy = p; memory = after })
  then : {h : List Call} {s : State} (call : Call) (said : Said) (t : State) → Run c h s → CallFits call → Step s call said t → Run c (call ∷ h) t
