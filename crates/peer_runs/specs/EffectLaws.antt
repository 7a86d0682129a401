-- On a sound state every call comes to its effect, which policy and rows alone decide. Assumes nothing.
use Rattle.std.specs.Prelude.{◌≡◌, refl, true, List, ℕ}
use Rattle.std.proofs.Common.{ap, ◌∙◌}
use Rattle.lent_bytes.specs.LentBytes.{Bytes}
use Rattle.pubkey.specs.declared.Pubkey.{Pubkey}
use Rattle.refusal.specs.Refusal.{Said}
use Rattle.peer_message_policy.specs.declared.policy.PeerMessagePolicy.{PeerMessagePolicy}
use Rattle.peer_message_policy.specs.Policy.{policy_sound, sound}
use Rattle.peer_message_policy.specs.Calls.{Outcome, Meets, admission_says, invalid_says, standing_says, changed_says, in_flight_says, held_time_says}
use Rattle.peer_message_policy.specs.Calls.{AdmitMeets, RecordInvalidMeets, IsBannedMeets, OnDisconnectedMeets}
use Rattle.peer_laws.specs.SoundLaws.{holds_record, policy_holds}
use Rattle.peer_laws.specs.CallLaws.{
  admit_outcome_lem,
  record_invalid_outcome_lem,
  is_banned_outcome_lem,
  on_disconnected_outcome_lem,
  release_ingress_answer,
  in_flight_answer,
  held_time_answer,
}
use Rattle.peer_runs.specs.Runs.{Call, admit, record_invalid, is_banned, on_disconnected, release_ingress, in_flight, held_time, State, rows_in}
use Rattle.peer_runs.specs.Runs.{after_standing, after_changed, Step, KeyFits, CallFits}
use Rattle.peer_runs.specs.SoundRunLaws.{StateLeaves, StateHolds, admit_left, record_invalid_left, is_banned_left, on_disconnected_left, release_ingress_left, same_left}
use Rattle.peer_runs.specs.Effects.{effect_by, effect_of, CameTo}

-- an answer that met an outcome has the outcome's effect
met_effect : {A : Type 0} (says : A → Said) (next : PeerMessagePolicy → A → PeerMessagePolicy) (s : State) (said : Said) (t : State)
    {answer : A} {before after : List ℕ} {n : ℕ} {o e : Outcome A} → Meets answer before after n o → o ≡ e → said ≡ says answer
    → t.policy ≡ next s.policy answer → StateLeaves s e.change t → CameTo s (effect_by says next s.policy e) said t
met_effect {A} says next s said t {answer} {e = e} m same_outcome told taken left =
    let is : answer ≡ e.answer = m.answers ∙ ap (λ (x : Outcome A). x.answer) same_outcome in
    record { says = told ∙ ap says is; policy = taken ∙ ap (next s.policy) is; left = left }

module _ (s : State) (is_sound : sound s.policy s.memory ≡ true) (holds_bytes : Bytes s.memory) (said : Said) (t : State) where
  here : StateHolds s.policy.config s
  here = record { is_sound = is_sound; settings = refl; holds_bytes = holds_bytes }

  own : policy_sound s.policy ≡ true
  own = holds_record s.policy (policy_holds s.policy s.memory is_sound).own

  -- that a call came to its effect
  abbrev Comes : Call → Type 0
  Comes call = CameTo s (effect_of call s.policy (rows_in s)) said t

  module _ (k : Pubkey) (key : KeyFits k) where
    admit_effect : (bytes now : ℕ) → Step s (admit k bytes now) said t → Comes (admit k bytes now)
    unfolding AdmitMeets
    admit_effect bytes now step =
        met_effect admission_says (λ q a. a.policy) s said t step.1 (admit_outcome_lem s.policy s.memory is_sound k bytes now) step.2 step.3
        (admit_left s here said t k key bytes now step)

    record_invalid_effect : (now : ℕ) → Step s (record_invalid k now) said t → Comes (record_invalid k now)
    unfolding RecordInvalidMeets
    record_invalid_effect now step =
        met_effect invalid_says (λ q a. a.policy) s said t step.1 (record_invalid_outcome_lem s.policy s.memory is_sound k now) step.2 step.3
        (record_invalid_left s here said t k key now step)

    is_banned_effect : (now : ℕ) → Step s (is_banned k now) said t → Comes (is_banned k now)
    unfolding IsBannedMeets
    is_banned_effect now step =
        met_effect standing_says after_standing s said t step.1 (is_banned_outcome_lem s.policy s.memory is_sound k now) step.2 step.3
        (is_banned_left s here said t k key now step)

    on_disconnected_effect : (now : ℕ) → Step s (on_disconnected k now) said t → Comes (on_disconnected k now)
    unfolding OnDisconnectedMeets
    on_disconnected_effect now step =
        met_effect changed_says after_changed s said t step.1 (on_disconnected_outcome_lem s.policy s.memory is_sound k now) step.2 step.3
        (on_disconnected_left s here said t k key now step)

  release_ingress_effect : (bytes : ℕ) → Step s (release_ingress bytes) said t → Comes (release_ingress bytes)
  release_ingress_effect bytes step =
      let answer = release_ingress_answer s.policy own bytes step.1 in
      record {
        says = step.2 ∙ ap changed_says answer;
        policy = ap (λ (x : State). x.policy) step.3 ∙ ap (after_changed s.policy) answer;
        left = release_ingress_left s here said t bytes step;
      }

  in_flight_effect : Step s in_flight said t → Comes in_flight
  in_flight_effect step =
      record {
        says = step.2 ∙ ap in_flight_says (in_flight_answer s.policy own step.1);
        policy = ap (λ (x : State). x.policy) step.3;
        left = same_left s here said t step.3;
      }

  held_time_effect : (k : Pubkey) (given : ℕ) → Step s (held_time k given) said t → Comes (held_time k given)
  held_time_effect k given step =
      record {
        says = step.2 ∙ ap held_time_says (held_time_answer s.policy s.memory is_sound k given step.1);
        policy = ap (λ (x : State). x.policy) step.3;
        left = same_left s here said t step.3;
      }

  -- every call comes to its effect
  pub step_effect : (call : Call) → CallFits call → Step s call said t → CameTo s (effect_of call s.policy (rows_in s)) said t
  step_effect (admit k bytes now) fits step = admit_effect k fits.0 bytes now step
  step_effect (record_invalid k now) fits step = record_invalid_effect k fits.0 now step
  step_effect (is_banned k now) fits step = is_banned_effect k fits.0 now step
  step_effect (on_disconnected k now) fits step = on_disconnected_effect k fits.0 now step
  step_effect (release_ingress bytes) fits step = release_ingress_effect bytes step
  step_effect in_flight fits step = in_flight_effect step
  step_effect (held_time k given) fits step = held_time_effect k given step
