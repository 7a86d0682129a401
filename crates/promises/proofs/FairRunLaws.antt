-- Fair share over runs of the calls on lent memory, by way of their core calls: for a peer whose own times never lie before its last use
-- (Shielded), and for runs whose times never go back (Ordered). Assumes nothing.
use Rattle.std.specs.Prelude.{◌≡◌, refl, List, ◌∷◌, ℕ, ◌≤◌}
use Rattle.std.proofs.Common.{◌∙◌, le_trans, arith}
use Rattle.std.proofs.Math.Option.{Option, none, some}
use Rattle.std.specs.Prelude.{Result, Ok, Err}
use Rattle.peer_state.specs.declared.ingress.NotReserved.{NotReserved}
use Rattle.peer_state.specs.declared.ingress.NotReserved.TheVariants as NotReserved
use Rattle.peer_state.specs.declared.ingress.FiberIngressBudget.{FiberIngressBudget}
use Rattle.pubkey.specs.declared.Pubkey.{Pubkey}
use Rattle.refusal.specs.Refusal.{Said, gives, refused}
use Rattle.peer_settings.specs.declared.config.PeerMessagePolicyConfig.{PeerMessagePolicyConfig}
use Rattle.peer_settings.specs.Fits.{ConfigFits}
use Rattle.peer_state.specs.Ingress.{try_reserve}
use Rattle.peer_rows.specs.Rows.{Peers}
use Rattle.peer_message_policy.specs.Merged.{first_said}
use Rattle.promises.specs.Core as Core
use Rattle.promises.specs.Core.{after, Timely, Sized}
use Rattle.promises.specs.Trails.{CoreCall, Event, seen_if, calls_of}
use Rattle.promises.specs.Lives.{last_used, AtMost, ceiling_says, ceiling_merged}
use Rattle.peer_runs.specs.Runs.{Call, admit, record_invalid, is_banned, on_disconnected, release_ingress, in_flight, held_time, State, rows_in, Step, CallFits, Run, made, then}
use Rattle.promises.specs.RunLives.{entry_in, core_of, trail, core_calls, log_of, Shielded, time_of, latest_of, latest, not_before, Ordered, Entitled, Shield}
use Rattle.peer_runs.specs.SoundRunLaws.{run_holds}
use Rattle.promises.proofs.CoreRunLaws.{step_core, runs_core, run_rows}
use Rattle.promises.proofs.MirrorLaws.{SizeFitsIf, seen_sized, trail_most, trail_least, timely_trail, timely_last}

-- ════ Sizes ════

call_sized : (c : PeerMessagePolicyConfig) (s : State) (call : Call) → CallFits call → SizeFitsIf (core_of c s call)
call_sized c s (admit k size now) fits = fits.1
call_sized c s (record_invalid k now) fits = tt
call_sized c s (is_banned k now) fits = tt
call_sized c s (on_disconnected k now) fits = tt
call_sized c s (release_ingress bytes) fits = tt
call_sized c s in_flight fits = tt
call_sized c s (held_time k given) fits = tt

run_sized : {c : PeerMessagePolicyConfig} {h : List Call} {s : State} (run : Run c h s) → Sized (core_calls run)
unfolding trail Sized calls_of
run_sized (made before left p b m) = tt
run_sized {c} (then {h} {s} call said t run fits step) =
    seen_sized (core_of c s call) said (rows_in t) (trail run) (call_sized c s call fits) (run_sized run)

-- ════ A shielded peer ════

module _ {c : PeerMessagePolicyConfig} (fits : ConfigFits c) (k : Pubkey) {h : List Call} {s : State} (run : Run c h s) (shield : Shielded k run) where
  -- a peer gets no more than the larger allowance
  pub shielded_most : AtMost c (log_of k run)
  shielded_most = trail_most fits k (trail run) (runs_core run) (run_sized run) shield

  -- a call within the smaller allowance gets the ceiling's answer
  pub shielded_least : (size now : ℕ) → last_used (entry_in s k) ≤ now → Entitled run k size now → (said : Said) (t : State)
      → Step s (admit k size now) said t → said ≡ ceiling_says (try_reserve c s.policy.ingress size)
  shielded_least size now used entitled said t step =
      (step_core s (run_holds run) (admit k size now) said t entitled.fits step).says
      ∙ trail_least fits k (trail run) (runs_core run) (run_sized run) shield (rows_in s) (run_rows run) size now entitled.fits.1 used
      entitled.not_banned entitled.within (try_reserve c s.policy.ingress size)

  pub shielded_both : Shield k run
  shielded_both = record { upper = shielded_most; lower = shielded_least }

-- ════ Times that never go back ════

-- a core call has the time of the call that came to it
abbrev SameTime : Option CoreCall → Option ℕ → Type 0
SameTime none time = Unit {0}
SameTime (some call) none = ⊥
SameTime (some call) (some now) = now ≡ Core.core_time call

core_time_lem : (c : PeerMessagePolicyConfig) (s : State) (call : Call) → SameTime (core_of c s call) (time_of call)
core_time_lem c s (admit k size now) = refl
core_time_lem c s (record_invalid k now) = refl
core_time_lem c s (is_banned k now) = refl
core_time_lem c s (on_disconnected k now) = refl
core_time_lem c s (release_ingress bytes) = tt
core_time_lem c s in_flight = tt
core_time_lem c s (held_time k given) = tt

-- the core calls so far are timely, and not after this time
abbrev TimelyTo : ℕ → List Event → Type 0
TimelyTo n es = Timely (calls_of es) × (Core.core_latest (calls_of es) ≤ n)

seen_timely : (core : Option CoreCall) (time : Option ℕ) → SameTime core time → (said : Said) (rs : Peers) (es : List Event) (n : ℕ)
    → not_before time n → TimelyTo n es → TimelyTo (latest_of time n) (seen_if core said rs es)
unfolding Timely calls_of
seen_timely none none r said rs es n later h = h
seen_timely none (some now) r said rs es n later h = (h.0, le_trans h.1 later)
seen_timely (some call) none r said rs es n later h = absurd r
seen_timely (some call) (some now) r (gives xs) rs es n later h =
    ((omega (arith, h.1), h.0), omega arith)
seen_timely (some call) (some now) r (refused m) rs es n later h = (h.0, le_trans h.1 later)

pub ordered_timely : {c : PeerMessagePolicyConfig} {h : List Call} {s : State} (run : Run c h s) → Ordered h → TimelyTo (latest h) (trail run)
unfolding trail latest Ordered Timely calls_of
ordered_timely (made before left p b m) order = (tt, omega arith)
ordered_timely {c} (then {h} {s} call said t run fits step) order =
    seen_timely (core_of c s call) (time_of call) (core_time_lem c s call) said (rows_in t) (trail run) (latest h) order.0
    (ordered_timely run order.1)

module _ {c : PeerMessagePolicyConfig} {h : List Call} {s : State} (run : Run c h s) (k : Pubkey) where
  -- every peer of an ordered run is shielded
  pub ordered_shields : Ordered h → Shielded k run
  ordered_shields order = timely_trail c k (trail run) (runs_core run) (ordered_timely run order).0

  -- no entry was last used after the newest call
  pub ordered_used : Ordered h → last_used (entry_in s k) ≤ latest h
  ordered_used order =
      let timely = ordered_timely run order in
      rw (← run_rows run) (le_trans (timely_last c k (trail run) (runs_core run) timely.0) timely.1)

module _ {c : PeerMessagePolicyConfig} (fits : ConfigFits c) {h : List Call} {s : State} (run : Run c h s) where
  pub ordered_most : Ordered h → (k : Pubkey) → AtMost c (log_of k run)
  ordered_most order k = shielded_most fits k run (ordered_shields run k order)

  pub ordered_least : (k : Pubkey) (size now : ℕ) → Ordered (admit k size now ∷ h) → Entitled run k size now → (said : Said) (t : State)
      → Step s (admit k size now) said t → said ≡ ceiling_says (try_reserve c s.policy.ingress size)
  unfolding Ordered
  ordered_least k size now order entitled said t step =
      shielded_least fits k run (ordered_shields run k order.1) size now (le_trans (ordered_used run k order.1) order.0) entitled said t step

-- ════ Merged ════

-- what the ceiling says begins with its merged answer
pub ceiling_merged_lem : (r : Result FiberIngressBudget NotReserved) → first_said (ceiling_says r) ≡ ceiling_merged r
ceiling_merged_lem (Ok after) = refl
ceiling_merged_lem (Err NotReserved.NoSlot) = refl
ceiling_merged_lem (Err (NotReserved.BytesShort k)) = refl
ceiling_merged_lem (Err (NotReserved.Refused n)) = refl
