-- Every state of a run is sound, keeps the settings that it was made with, and holds bytes. Assumes nothing.
use Rattle.std.specs.Prelude.{◌≡◌, refl, true, List, ℕ}
use Rattle.std.proofs.Common.{ap, ◌∙◌}
use Rattle.std.specs.Prelude.{Result, Ok, Err}
use Rattle.refusal.specs.declared.Refusal.{Refusal}
use Rattle.lent_bytes.specs.LentBytes.{Bytes}
use Rattle.pubkey.specs.declared.Pubkey.{Pubkey}
use Rattle.refusal.specs.Refusal.{Said}
use Rattle.table.specs.Table.{look}
use Rattle.peer_settings.specs.declared.config.PeerMessagePolicyConfig.{PeerMessagePolicyConfig}
use Rattle.peer_message_policy.specs.declared.policy.PeerMessagePolicy.{PeerMessagePolicy}
use Rattle.peer_message_policy.specs.declared.answer.Standing.{Standing}
use Rattle.peer_message_policy.specs.Policy
use Rattle.peer_message_policy.specs.Policy.{sound, Change, same}
use Rattle.peer_laws.specs.SoundLaws.{Leaves}
use Rattle.peer_laws.specs.CallLaws.{
  OfStanding,
  OfChanged,
  admit_leaves,
  record_invalid_leaves,
  is_banned_leaves,
  on_disconnected_leaves,
  release_ingress_leaves,
  new_fresh,
}
use Rattle.peer_runs.specs.Runs.{
  Call,
  admit,
  record_invalid,
  is_banned,
  on_disconnected,
  release_ingress,
  in_flight,
  held_time,
  State,
  rows_in,
  after_standing,
  after_changed,
  Step,
  KeyFits,
  CallFits,
  Run,
  made,
  then,
}

-- ════ One call ════

-- what holds of an answer's policy, or of the caller's own after a refusal, holds of the policy that he goes on with
module _ (p : PeerMessagePolicy) (P : PeerMessagePolicy → Type 0) where
  pub after_standing_lem : (r : Standing) → OfStanding p P r → P (after_standing p r)
  after_standing_lem (Standing.Banned q) h = h
  after_standing_lem (Standing.Free q) h = h
  after_standing_lem (Standing.Refused n) h = h

  pub after_changed_lem : (r : Result PeerMessagePolicy Refusal) → OfChanged p P r → P (after_changed p r)
  after_changed_lem (Ok q) h = h
  after_changed_lem (Err n) h = h

-- what a call leaves, from a state to a state
abbrev pub StateLeaves : State → Change → State → Type 0
StateLeaves s change t = Leaves s.policy s.memory change t.policy t.memory

-- what a sound state, which holds bytes, and its settings come to
pub record StateHolds (c : PeerMessagePolicyConfig) (s : State) : Type 0 where
  pub is_sound : sound s.policy s.memory ≡ true
  pub settings : s.policy.config ≡ c
  pub holds_bytes : Bytes s.memory

module _ {c : PeerMessagePolicyConfig} (s : State) (here : StateHolds c s) (said : Said) (t : State) where
  -- the policy that the caller goes on with
  abbrev Left : Change → List ℕ → PeerMessagePolicy → Type 0
  Left change after q = Leaves s.policy s.memory change q after

  module _ (k : Pubkey) (key : KeyFits k) where
    pub admit_left : (size now : ℕ) → Step s (admit k size now) said t
        → StateLeaves s (Policy.admit s.policy.config s.policy.ingress (rows_in s) k.bytes size now).change t
    admit_left size now step =
        rw step.3 (admit_leaves s.policy s.memory here.is_sound here.holds_bytes k key size now step.0 t.memory step.1)

    pub record_invalid_left : (now : ℕ) → Step s (record_invalid k now) said t
        → StateLeaves s (Policy.record_invalid s.policy.config s.policy.ingress (rows_in s) k.bytes now).change t
    record_invalid_left now step =
        rw step.3 (record_invalid_leaves s.policy s.memory here.is_sound here.holds_bytes k key now step.0 t.memory step.1)

    pub is_banned_left : (now : ℕ) → Step s (is_banned k now) said t
        → StateLeaves s (Policy.is_banned_change (rows_in s) k.bytes now (look k.bytes (rows_in s))) t
    is_banned_left now step =
        rw step.3 (after_standing_lem s.policy (Left _ t.memory) step.0
        (is_banned_leaves s.policy s.memory here.is_sound here.holds_bytes k key now step.0 t.memory step.1))

    pub on_disconnected_left : (now : ℕ) → Step s (on_disconnected k now) said t
        → StateLeaves s (Policy.disconnected_change s.policy.config (rows_in s) k.bytes now (look k.bytes (rows_in s))) t
    on_disconnected_left now step =
        rw step.3 (after_changed_lem s.policy (Left _ t.memory) step.0
        (on_disconnected_leaves s.policy s.memory here.is_sound here.holds_bytes k key now step.0 t.memory step.1))

  pub release_ingress_left : (size : ℕ) → Step s (release_ingress size) said t → StateLeaves s same t
  release_ingress_left size step =
      rw step.3 (after_changed_lem s.policy (Left same s.memory) step.0
      (release_ingress_leaves s.policy s.memory size step.0 here.is_sound here.holds_bytes step.1))

  -- any other call leaves the state
  pub same_left : t ≡ s → StateLeaves s same t
  same_left e =
      rw e (record {
        kept = record { stays_sound = here.is_sound; same_length = refl; holds_bytes = here.holds_bytes; same_settings = refl };
        rows = refl;
      })

  -- the next state is sound too
  next_holds : {change : Change} → StateLeaves s change t → StateHolds c t
  next_holds left =
      record {
        is_sound = left.kept.stays_sound;
        settings = left.kept.same_settings ∙ here.settings;
        holds_bytes = left.kept.holds_bytes;
      }

  pub step_holds : (call : Call) → CallFits call → Step s call said t → StateHolds c t
  step_holds (admit k size now) fits step = next_holds (admit_left k fits.0 size now step)
  step_holds (record_invalid k now) fits step = next_holds (record_invalid_left k fits.0 now step)
  step_holds (is_banned k now) fits step = next_holds (is_banned_left k fits.0 now step)
  step_holds (on_disconnected k now) fits step = next_holds (on_disconnected_left k fits.0 now step)
  step_holds (release_ingress size) fits step = next_holds (release_ingress_left size step)
  step_holds in_flight fits step = next_holds (same_left step.3)
  step_holds (held_time k given) fits step = next_holds (same_left step.3)

-- ════ A run ════

-- every state of a run is sound, and has the run's settings
pub run_holds : {c : PeerMessagePolicyConfig} {h : List Call} {s : State} → Run c h s → StateHolds c s
run_holds {c} (made before after p b m) =
    let f = new_fresh c before after p m in
    record { is_sound = f.is_sound; settings = ap (λ q. q.config) f.is_fresh; holds_bytes = f.holds_bytes b }
run_holds (then {h} {s} call said t run fits step) = step_holds s (run_holds run) said t call fits step

-- a run never leaves a state that a call would refuse with 3
pub run_sound : {c : PeerMessagePolicyConfig} {h : List Call} {s : State} → Run c h s → sound s.policy s.memory ≡ true
run_sound run = (run_holds run).is_sound
