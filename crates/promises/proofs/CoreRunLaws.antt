-- A run of the calls on lent memory, its refused calls left out, is a list of core calls: the same rows, the same Saids, and so the same
-- logs. In order: what an answer says whatever policy it carries; a turn whatever load it carries; one call; runs. Assumes nothing.
use Rattle.std.specs.Prelude.{◌≡◌, Bool, true, false, cond, List, [], ℕ}
use Rattle.std.proofs.Math.Path.{refl, sym, ap}
use Rattle.std.proofs.Common.{subst, ◌∙◌}
use Rattle.std.proofs.Math.Option.{Option}
use Rattle.std.specs.Prelude.{Ok}
use Rattle.pubkey.specs.declared.Pubkey.{Pubkey}
use Rattle.refusal.specs.Refusal.{Said}
use Rattle.table.specs.Table.{look}
use Rattle.table.specs.Memory.{rows}
use Rattle.peer_settings.specs.declared.config.PeerMessagePolicyConfig.{PeerMessagePolicyConfig}
use Rattle.peer_state.specs.declared.entry.PeerMessagePolicyEntry.{PeerMessagePolicyEntry}
use Rattle.peer_state.specs.declared.ingress.FiberIngressBudget.{FiberIngressBudget}
use Rattle.peer_verdict.specs.declared.verdict.Cause.{Cause}
use Rattle.peer_verdict.specs.declared.verdict.Decision.{Decision}
use Rattle.peer_verdict.specs.declared.verdict.InvalidCause.{InvalidCause}
use Rattle.peer_verdict.specs.declared.verdict.InvalidDecision.{InvalidDecision}
use Rattle.peer_state.specs.Ingress.{try_reserve}
use Rattle.peer_verdict.specs.Verdict.{invalid_decision, refuses}
use Rattle.peer_verdict.specs.Causes.{cause_says, invalid_cause_says}
use Rattle.peer_rows.specs.Rows.{Peers}
use Rattle.peer_message_policy.specs.declared.policy.PeerMessagePolicy.{PeerMessagePolicy}
use Rattle.peer_message_policy.specs.Policy
use Rattle.peer_message_policy.specs.Policy.{rows_of, Turn, carried_out, noted_down, Update, banned, update, turn_of, entry_for_update, is_banned_change}
use Rattle.peer_message_policy.specs.Calls.{changed_rows, policy_after, fresh, admission_says, invalid_says, standing_of, standing_says, changed_says, NewMeets, IsBannedMeets, OnDisconnectedMeets}
use Rattle.peer_laws.specs.CallLaws.{admit_answer, record_invalid_answer, is_banned_outcome_lem, on_disconnected_outcome_lem, new_fresh}
use Rattle.promises.specs.Trails as Trails
use Rattle.promises.specs.Core.{idle, message_turn, invalid_turn, after, trail_of}
use Rattle.promises.specs.Trails.{rows_at, calls_of}
use Rattle.promises.specs.Lives.{log_in}
use Rattle.peer_runs.specs.Runs.{Call, admit, record_invalid, is_banned, on_disconnected, release_ingress, in_flight, held_time, State, rows_in, Step, KeyFits, CallFits, Run, made, then}
use Rattle.promises.specs.RunLives.{core_of, trail, core_calls, log_of}
use Rattle.promises.proofs.DecisionLaws.{Alike, decision_alike}
use Rattle.promises.proofs.CoreRowLaws.{trail_rows}
use Rattle.promises.proofs.MirrorLaws.{Mirrors, MirrorsIf, mirrored_rows, mirrored_trail}
use Rattle.peer_runs.specs.SoundRunLaws.{StateHolds, admit_left, record_invalid_left, is_banned_left, on_disconnected_left, release_ingress_left, run_holds}

-- ════ What an answer says ════

module _ (p q : PeerMessagePolicy) where
  standing_says_lem : (b : Bool) → standing_says (standing_of b p) ≡ standing_says (standing_of b q)
  standing_says_lem true = refl
  standing_says_lem false = refl

-- ════ A turn, whatever load it carries ════

-- the same cause and the same rows
pub record SameTurn {C : Type 0} (a b : Turn C) : Type 0 where
  pub cause : a.cause ≡ b.cause
  pub change : a.change ≡ b.change

same_chosen : (t : Bool) {a b x y : Turn Cause} → SameTurn a x → SameTurn b y → SameTurn (cond t a b) (cond t x y)
same_chosen true h k = h
same_chosen false h k = k

module _ (i j : FiberIngressBudget) (k : List ℕ) where
  carried_alike : (rs : Peers) {a b : Decision} → Alike a b → SameTurn (carried_out i k rs a) (carried_out j k rs b)
  unfolding carried_out
  carried_alike rs {a} {b} h =
      rw (h.cause, h.entry)
      (same_chosen (refuses b.cause) (record { cause = refl; change = refl }) (record { cause = refl; change = refl }))

  message_alike : {f g : PeerMessagePolicyEntry → Decision} → ((e : PeerMessagePolicyEntry) → Alike (f e) (g e)) → (u : Update)
      → SameTurn (turn_of i Cause.LiveBan (λ e xs. carried_out i k xs (f e)) u) (turn_of j Cause.LiveBan (λ e xs. carried_out j k xs (g e)) u)
  message_alike h banned = record { cause = refl; change = refl }
  message_alike h (update e rs) = carried_alike rs (h e)

  noted_alike : (f : PeerMessagePolicyEntry → InvalidDecision) (u : Update)
      → SameTurn (turn_of i InvalidCause.LiveBan (λ e xs. noted_down i k xs (f e)) u) (turn_of j InvalidCause.LiveBan (λ e xs. noted_down j k xs (f e)) u)
  noted_alike f banned = record { cause = refl; change = refl }
  noted_alike f (update e rs) = record { cause = refl; change = refl }

module _ (c : PeerMessagePolicyConfig) (i : FiberIngressBudget) (rs : Peers) (k : Pubkey) (now : ℕ) where
  -- admit's turn is that of the core, in the room which the load leaves
  admit_core : (size : ℕ) → SameTurn (Policy.admit c i rs k.bytes size now) (message_turn c k size now (try_reserve c i size) rs)
  unfolding Policy.admit
  admit_core size =
      message_alike i idle k.bytes (λ e. decision_alike c i idle now e size (try_reserve c i size)) (entry_for_update c now rs k.bytes (look k.bytes rs))

  invalid_core : SameTurn (Policy.record_invalid c i rs k.bytes now) (invalid_turn c k now rs)
  unfolding Policy.record_invalid
  invalid_core = noted_alike i idle k.bytes (λ e. invalid_decision c e now) (entry_for_update c now rs k.bytes (look k.bytes rs))

-- ════ One call ════

module _ (s : State) (said : Said) (t : State) where
  abbrev p : PeerMessagePolicy
  p = s.policy

  -- of a state with the run's settings
  module _ (here : StateHolds p.config s) where
    admit_mirrors : (k : Pubkey) (size now : ℕ) → KeyFits k → Step s (admit k size now) said t
        → Mirrors p.config (Trails.admit k size now (try_reserve p.config p.ingress size)) (rows_in s) said (rows_in t)
    admit_mirrors k size now key step =
        let turn : Turn Cause = Policy.admit p.config p.ingress (rows_in s) k.bytes size now in
        let core : SameTurn turn (message_turn p.config k size now (try_reserve p.config p.ingress size) (rows_in s)) =
        admit_core p.config p.ingress (rows_in s) k now size
        in
        record {
          says =
              step.2
              ∙ ap admission_says (admit_answer p s.memory here.is_sound k size now step.0 t.memory step.1)
              ∙ ap cause_says core.cause;
          rows = (admit_left s here said t k key size now step).rows ∙ ap (changed_rows (rows_in s)) core.change;
        }

    invalid_mirrors : (k : Pubkey) (now : ℕ) → KeyFits k → Step s (record_invalid k now) said t
        → Mirrors p.config (Trails.record_invalid k now) (rows_in s) said (rows_in t)
    invalid_mirrors k now key step =
        let turn : Turn InvalidCause = Policy.record_invalid p.config p.ingress (rows_in s) k.bytes now in
        let core : SameTurn turn (invalid_turn p.config k now (rows_in s)) =
        invalid_core p.config p.ingress (rows_in s) k now
        in
        record {
          says =
              step.2
              ∙ ap invalid_says (record_invalid_answer p s.memory here.is_sound k now step.0 t.memory step.1)
              ∙ ap invalid_cause_says core.cause;
          rows = (record_invalid_left s here said t k key now step).rows ∙ ap (changed_rows (rows_in s)) core.change;
        }

    banned_mirrors : (k : Pubkey) (now : ℕ) → KeyFits k → Step s (is_banned k now) said t
        → Mirrors p.config (Trails.is_banned k now) (rows_in s) said (rows_in t)
    unfolding IsBannedMeets
    banned_mirrors k now key step =
        let found : Option PeerMessagePolicyEntry = look k.bytes (rows_in s) in
        record {
          says =
              step.2
              ∙ ap standing_says (step.1.answers ∙ ap (λ o. o.answer) (is_banned_outcome_lem p s.memory here.is_sound k now))
              ∙ standing_says_lem (policy_after p p.ingress (is_banned_change (rows_in s) k.bytes now found)) (fresh p.config) (Policy.is_banned found now);
          rows = (is_banned_left s here said t k key now step).rows;
        }

    disconnected_mirrors : (k : Pubkey) (now : ℕ) → KeyFits k → Step s (on_disconnected k now) said t
        → Mirrors p.config (Trails.on_disconnected k now) (rows_in s) said (rows_in t)
    unfolding OnDisconnectedMeets
    disconnected_mirrors k now key step =
        record {
          says =
              step.2
              ∙ ap changed_says (step.1.answers ∙ ap (λ o. o.answer) (on_disconnected_outcome_lem p s.memory here.is_sound k now));
          rows = (on_disconnected_left s here said t k key now step).rows;
        }

    own_mirrors : (call : Call) → CallFits call → Step s call said t → MirrorsIf p.config (core_of p.config s call) (rows_in s) said (rows_in t)
    own_mirrors (admit k size now) fits step = admit_mirrors k size now fits.0 step
    own_mirrors (record_invalid k now) fits step = invalid_mirrors k now fits.0 step
    own_mirrors (is_banned k now) fits step = banned_mirrors k now fits.0 step
    own_mirrors (on_disconnected k now) fits step = disconnected_mirrors k now fits.0 step
    own_mirrors (release_ingress size) fits step = (release_ingress_left s here said t size step).rows
    own_mirrors in_flight fits step = ap rows_in step.3
    own_mirrors (held_time k given) fits step = ap rows_in step.3

-- every call on a sound state says and leaves what its core call does
pub step_core : {c : PeerMessagePolicyConfig} (s : State) → StateHolds c s → (call : Call) (said : Said) (t : State) → CallFits call → Step s call said t
    → MirrorsIf c (core_of c s call) (rows_in s) said (rows_in t)
step_core {c} s here call said t fits step =
    subst (λ x. MirrorsIf x (core_of x s call) (rows_in s) said (rows_in t)) here.settings
    (own_mirrors s said t (subst (λ x. StateHolds x s) (sym here.settings) here) call fits step)

-- ════ Runs ════

-- a fresh policy has no row
made_rows : (c : PeerMessagePolicyConfig) (before left : List ℕ) (q : PeerMessagePolicy) → NewMeets c before (Ok q) left
    → rows_of q left ≡ []
unfolding rows
made_rows c before left q m = ap (λ x. rows_of x left) (new_fresh c before left q m).is_fresh

module _ {c : PeerMessagePolicyConfig} where
  -- the trail of a run leads to the rows of its state
  pub run_rows : {h : List Call} {s : State} (run : Run c h s) → rows_at (trail run) ≡ rows_in s
  unfolding trail
  run_rows (made before left q b m) = sym (made_rows c before left q m)
  run_rows (then {h} {s} call said t run fits step) =
      mirrored_rows c (core_of c s call) said (rows_in s) (rows_in t) (trail run) (step_core s (run_holds run) call said t fits step) (run_rows run)

  -- The mapping law: a run's calls that were not refused say what the core's calls say and leave the rows that those leave.
  pub runs_core : {h : List Call} {s : State} (run : Run c h s) → trail run ≡ trail_of c (core_calls run)
  unfolding trail calls_of trail_of
  runs_core (made before left q b m) = refl
  runs_core (then {h} {s} call said t run fits step) =
      let here : rows_in s ≡ after c (core_calls run) = sym (run_rows run) ∙ ap rows_at (runs_core run) ∙ trail_rows c (core_calls run) in
      mirrored_trail c (core_of c s call) said (rows_in t) (trail run) (runs_core run)
      (subst (λ rs. MirrorsIf c (core_of c s call) rs said (rows_in t)) here (step_core s (run_holds run) call said t fits step))

  -- its rows are theirs
  pub rows_core : {h : List Call} {s : State} (run : Run c h s) → rows_in s ≡ after c (core_calls run)
  rows_core run = sym (run_rows run) ∙ ap rows_at (runs_core run) ∙ trail_rows c (core_calls run)

  -- and so are its logs
  pub logs_core : (k : Pubkey) {h : List Call} {s : State} (run : Run c h s) → log_of k run ≡ log_in k (trail_of c (core_calls run))
  logs_core k run = ap (log_in k) (runs_core run)
