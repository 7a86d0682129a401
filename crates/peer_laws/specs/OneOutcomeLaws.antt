-- At most one outcome satisfies each public call's contract: the same answer, and the same memory where memory is lent.
-- Assumes nothing.
use Rattle.std.specs.Prelude.{◌≡◌, List, ℕ}
use Rattle.std.specs.Prelude.{Result}
use Rattle.refusal.specs.declared.Refusal.{Refusal}
use Rattle.peer_state.specs.declared.ingress.FiberIngressBudget.{FiberIngressBudget}
use Rattle.pubkey.specs.declared.Pubkey.{Pubkey}
use Rattle.refusal.specs.OneOutcomeLaws.{one_outcome}
use Rattle.table.specs.OutcomeLaws.{one_meets}
use Rattle.peer_settings.specs.declared.config.PeerMessagePolicyConfig.{PeerMessagePolicyConfig}
use Rattle.peer_message_policy.specs.declared.policy.PeerMessagePolicy.{PeerMessagePolicy}
use Rattle.peer_message_policy.specs.declared.answer.Admission.{Admission}
use Rattle.peer_message_policy.specs.declared.answer.PeerMessageAdmission.{PeerMessageAdmission}
use Rattle.peer_message_policy.specs.declared.answer.Invalid.{Invalid}
use Rattle.peer_message_policy.specs.declared.answer.Standing.{Standing}
use Rattle.peer_message_policy.specs.Merged.{merge}
use Rattle.peer_message_policy.specs.Calls.{fresh, NewMeets, AdmitMeets, RecordInvalidMeets, IsBannedMeets, OnDisconnectedMeets, ReleaseIngressMeets, InFlightMeets, HeldTimeMeets}

-- ════ The calls that memory is lent to ════

module _ (before : List ℕ) {first second : List ℕ} where
  pub new_one : (c : PeerMessagePolicyConfig) {r q : Result PeerMessagePolicy Refusal} → NewMeets c before r first → NewMeets c before q second
      → (r ≡ q) × (first ≡ second)
  unfolding NewMeets
  new_one c h k = one_meets h k

  module _ (p : PeerMessagePolicy) (k : Pubkey) where
    pub admit_one : (size now : ℕ) {r q : Admission} → AdmitMeets p before k size now r first
        → AdmitMeets p before k size now q second → (r ≡ q) × (first ≡ second)
    unfolding AdmitMeets
    admit_one size now m n = one_meets m n

    pub record_invalid_one : (now : ℕ) {r q : Invalid} → RecordInvalidMeets p before k now r first
        → RecordInvalidMeets p before k now q second → (r ≡ q) × (first ≡ second)
    unfolding RecordInvalidMeets
    record_invalid_one now m n = one_meets m n

    pub is_banned_one : (now : ℕ) {r q : Standing} → IsBannedMeets p before k now r first → IsBannedMeets p before k now q second
        → (r ≡ q) × (first ≡ second)
    unfolding IsBannedMeets
    is_banned_one now m n = one_meets m n

    pub on_disconnected_one : (now : ℕ) {r q : Result PeerMessagePolicy Refusal} → OnDisconnectedMeets p before k now r first
        → OnDisconnectedMeets p before k now q second → (r ≡ q) × (first ≡ second)
    unfolding OnDisconnectedMeets
    on_disconnected_one now m n = one_meets m n

-- ════ The calls that change no memory ════

pub fresh_one : (c : PeerMessagePolicyConfig) {r q : PeerMessagePolicy} → r ≡ fresh c → q ≡ fresh c → r ≡ q
fresh_one c = one_outcome

pub merge_one : (a : Admission) {r q : PeerMessageAdmission} → r ≡ merge a → q ≡ merge a → r ≡ q
merge_one a = one_outcome

module _ (p : PeerMessagePolicy) where
  pub release_ingress_one : (size : ℕ) {r q : Result PeerMessagePolicy Refusal} → ReleaseIngressMeets p size r → ReleaseIngressMeets p size q → r ≡ q
  unfolding ReleaseIngressMeets
  release_ingress_one size m n = one_outcome m n

  pub in_flight_one : {r q : Result FiberIngressBudget Refusal} → InFlightMeets p r → InFlightMeets p q → r ≡ q
  unfolding InFlightMeets
  in_flight_one m n = one_outcome m n

  pub held_time_one : (s : List ℕ) (k : Pubkey) (given : ℕ) {r q : Result ℕ Refusal} → HeldTimeMeets p s k given r
      → HeldTimeMeets p s k given q → r ≡ q
  unfolding HeldTimeMeets
  held_time_one s k given m n = one_outcome m n
