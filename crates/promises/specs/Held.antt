-- A caller who passes held_time's answer on: the times of a peer's own calls are those that held_time gave. Definitions only.
use Rattle.std.specs.Prelude.{List, ℕ}
use Rattle.std.proofs.Math.Option.{Option, none, some}
use Rattle.std.specs.Prelude.{Ok}
use Rattle.pubkey.specs.declared.Pubkey.{Pubkey}
use Rattle.peer_settings.specs.declared.config.PeerMessagePolicyConfig.{PeerMessagePolicyConfig}
use Rattle.peer_message_policy.specs.Calls.{HeldTimeMeets}
use Rattle.promises.specs.Trails.{CoreCall}
use Rattle.promises.specs.Lives.{own_of, OwnTime}
use Rattle.peer_runs.specs.Runs.{Call, State, Run, made, then}
use Rattle.promises.specs.RunLives.{core_of, Bounds}

-- held_time, asked for a peer in a state with some given time, answers this time
abbrev pub Answered : Pubkey → State → ℕ → Type 0
Answered k s now = (given : ℕ) × HeldTimeMeets s.policy s.memory k given (Ok now)

-- a call has a time that held_time answers, if it is the peer's own admit or record_invalid
abbrev pub held_own : Pubkey → State → Option CoreCall → Type 0
held_own k s none = Unit {0}
held_own k s (some call) = OwnTime (Answered k s) (own_of k call)

module _ {c : PeerMessagePolicyConfig} where
  -- a peer's own admits and record_invalids have the times that held_time answers, whatever times it was given
  unfoldable pub Held : Pubkey → {h : List Call} {s : State} → Run c h s → Type 0
  Held k (made before after p b m) = Unit {0}
  Held k (then {h} {s} call said t run fits step) = held_own k s (core_of c s call) × Held k run

  -- both bounds, the lower one for a call at a time that held_time answers
  abbrev pub HeldShield : Pubkey → {h : List Call} {s : State} → Run c h s → Type 0
  HeldShield k {s = s} run = Bounds (Answered k s) k run
