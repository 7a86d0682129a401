-- Lives along a run of the calls on lent memory: its trail, the log of a peer's life in it, the order of its times, and what a caller is
-- promised. Definitions only.
use Rattle.std.specs.Prelude.{◌≡◌, false, List, [], ◌∷◌, ℕ, ◌≤◌}
use Rattle.std.proofs.Math.Option.{Option, none, some}
use Rattle.pubkey.specs.declared.Pubkey.{Pubkey}
use Rattle.refusal.specs.Refusal.{Said}
use Rattle.table.specs.Table.{look}
use Rattle.peer_settings.specs.declared.config.PeerMessagePolicyConfig.{PeerMessagePolicyConfig}
use Rattle.peer_state.specs.declared.entry.PeerMessagePolicyEntry.{PeerMessagePolicyEntry}
use Rattle.peer_state.specs.Ingress.{try_reserve}
use Rattle.peer_message_policy.specs.Policy as Policy
use Rattle.promises.specs.Trails as Trails
use Rattle.promises.specs.Trails.{CoreCall, Event, seen_if, calls_of}
use Rattle.promises.specs.Lives.{Allow, log_in, log_for, last_used, ShieldedIn, AtMost, Within, ceiling_says}
use Rattle.peer_runs.specs.Runs.{Call, admit, record_invalid, is_banned, on_disconnected, release_ingress, in_flight, held_time, State, rows_in, Step, CallFits, Run, made, then}

-- ════ The trail of a run ════

-- a peer's entry in a state, if it has one
abbrev pub entry_in : State → Pubkey → Option PeerMessagePolicyEntry
entry_in s k = look k.bytes (rows_in s)

-- the core call that a call comes to in a state; release_ingress, in_flight and held_time leave the rows
abbrev pub core_of : PeerMessagePolicyConfig → State → Call → Option CoreCall
core_of c s (admit k size now) = some (Trails.admit k size now (try_reserve c s.policy.ingress size))
core_of c s (record_invalid k now) = some (Trails.record_invalid k now)
core_of c s (is_banned k now) = some (Trails.is_banned k now)
core_of c s (on_disconnected k now) = some (Trails.on_disconnected k now)
core_of c s (release_ingress bytes) = none
core_of c s in_flight = none
core_of c s (held_time k given) = none

module _ {c : PeerMessagePolicyConfig} where
  -- each admit, record_invalid, is_banned and on_disconnected of a run that was not refused, with what it said and the rows that it left
  unfoldable pub trail : {h : List Call} {s : State} → Run c h s → List Event
  trail (made before after p b m) = []
  trail (then {h} {s} call said t run fits step) = seen_if (core_of c s call) said (rows_in t) (trail run)

  -- the core calls of a run
  abbrev pub core_calls : {h : List Call} {s : State} → Run c h s → List CoreCall
  core_calls run = calls_of (trail run)

  -- the Allows of a peer's present life, the newest first
  abbrev pub log_of : Pubkey → {h : List Call} {s : State} → Run c h s → List Allow
  log_of k run = log_in k (trail run)

  -- a peer's own admits and record_invalids never lie before its last-used time, however all other times run
  abbrev pub Shielded : Pubkey → {h : List Call} {s : State} → Run c h s → Type 0
  Shielded k run = ShieldedIn k (trail run)

-- ════ The order of times ════

-- a call's time; release_ingress and in_flight have none, and the time given to held_time does not count
abbrev pub time_of : Call → Option ℕ
time_of (admit peer bytes now) = some now
time_of (record_invalid peer now) = some now
time_of (is_banned peer now) = some now
time_of (on_disconnected peer now) = some now
time_of (release_ingress bytes) = none
time_of in_flight = none
time_of (held_time peer given) = none

abbrev pub latest_of : Option ℕ → ℕ → ℕ
latest_of none t = t
latest_of (some t) u = t

-- the time of the newest call that has one
unfoldable pub latest : List Call → ℕ
latest [] = 0
latest (call ∷ h) = latest_of (time_of call) (latest h)

abbrev pub not_before : Option ℕ → ℕ → Type 0
not_before none t = Unit {0}
not_before (some now) t = t ≤ now

-- times never go back
unfoldable pub Ordered : List Call → Type 0
Ordered [] = Unit {0}
Ordered (call ∷ h) = not_before (time_of call) (latest h) × Ordered h

-- ════ What a caller is promised ════

-- a call of this size now, numbers that fit, by a peer that is not banned, is within the smaller allowance of the life that it lands in
pub record Entitled {c : PeerMessagePolicyConfig} {h : List Call} {s : State} (run : Run c h s) (k : Pubkey) (size now : ℕ) : Type 0 where
  pub fits : CallFits (admit k size now)
  pub not_banned : Policy.is_banned (entry_in s k) now ≡ false
  pub within : Within c now size (log_for (entry_in s k) now (log_of k run))

-- both bounds for a peer in the state that a run leads to, the lower one for a call at such a time
pub record Bounds {c : PeerMessagePolicyConfig} {h : List Call} {s : State} (Such : ℕ → Type 0) (k : Pubkey) (run : Run c h s) : Type 0 where
  pub upper : AtMost c (log_of k run)
  pub lower : (size now : ℕ)
      → Such now
      → Entitled run k size now
      → (said : Said) (t : State) → Step s (admit k size now) said t
      → said ≡ ceiling_says (try_reserve c s.policy.ingress size)

-- for a call that does not lie before the peer's last-used time
abbrev pub Shield : {c : PeerMessagePolicyConfig} {h : List Call} {s : State} → Pubkey → Run c h s → Type 0
Shield {s = s} k run = Bounds (λ now. last_used (entry_in s k) ≤ now) k run
