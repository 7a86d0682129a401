-- At most one outcome satisfies the contract of each exported call: the same number, the same words, and the same memory where memory is
-- lent. Assumes nothing.
use Rattle.std.specs.Prelude.{◌≡◌, List, ℕ}
use Rattle.std.specs.Prelude.{Result, Ok, Err}
use Rattle.refusal.specs.declared.Refusal.{Refusal}
use Rattle.peer_state.specs.declared.ingress.FiberIngressBudget.{FiberIngressBudget}
use Rattle.refusal.specs.OneOutcomeLaws.{one_outcome}
use Rattle.peer_laws.specs.OneOutcomeLaws as Calls
use Rattle.c_terms.specs.SomeLaws.{some_one, some_alone}
use Rattle.peer_message_policy.specs.Merged.{merge}
use Rattle.c_words.specs.Words.{config_of, policy_of}
use Rattle.c_words.specs.Answers.{made_numbered, admission_numbered, invalid_numbered, standing_numbered, changed_numbered}
use Rattle.c_words.specs.LeavesLaws.{Alike, leaves_one}
use Rattle.c_peers.specs.Exported.{
  key_of,
  NewExported,
  AdmitExported,
  AdmitExplainedExported,
  RecordInvalidExported,
  IsBannedExported,
  OnDisconnectedExported,
  ReleaseIngressExported,
  LeavesInFlight,
  InFlightExported,
  LeavesTime,
  HeldTimeExported,
}

-- ════ The calls that leave a policy in words ════

module _ (longs shorts : List ℕ) {r q : ℕ} {longs' longs'' shorts' shorts'' : List ℕ} where
  module _ (before : List ℕ) {first second : List ℕ} where
    pub new_one : NewExported longs shorts before r longs' shorts' first → NewExported longs shorts before q longs'' shorts'' second → Alike r q longs' longs'' shorts' shorts'' × (first ≡ second)
    new_one =
        some_one (λ a b. Calls.new_one before {first = first} {second = second} (config_of longs shorts) {r = a} {q = b}) (λ a. leaves_one (made_numbered a) longs shorts)

    module _ (k : List ℕ) where
      pub admit_one : (size now : ℕ) → AdmitExported longs shorts before k size now r longs' shorts' first
          → AdmitExported longs shorts before k size now q longs'' shorts'' second → Alike r q longs' longs'' shorts' shorts'' × (first ≡ second)
      admit_one size now =
          some_one (λ a b. Calls.admit_one before {first = first} {second = second} (policy_of longs shorts) (key_of k) size now {r = a} {q = b})
          (λ a. leaves_one (admission_numbered (merge a)) longs shorts)

      pub admit_explained_one : (size now : ℕ) (cause : List ℕ) {cause' cause'' : List ℕ}
          → AdmitExplainedExported longs shorts before k size now cause r longs' shorts' first cause'
          → AdmitExplainedExported longs shorts before k size now cause q longs'' shorts'' second cause''
          → (Alike r q longs' longs'' shorts' shorts'' × (cause' ≡ cause'')) × (first ≡ second)
      admit_explained_one size now cause =
          some_one (λ a b. Calls.admit_one before {first = first} {second = second} (policy_of longs shorts) (key_of k) size now {r = a} {q = b})
          (λ a m n. (leaves_one (admission_numbered (merge a)) longs shorts m.0 n.0, one_outcome m.1 n.1))

      pub record_invalid_one : (now : ℕ) → RecordInvalidExported longs shorts before k now r longs' shorts' first
          → RecordInvalidExported longs shorts before k now q longs'' shorts'' second → Alike r q longs' longs'' shorts' shorts'' × (first ≡ second)
      record_invalid_one now =
          some_one (λ a b. Calls.record_invalid_one before {first = first} {second = second} (policy_of longs shorts) (key_of k) now {r = a} {q = b})
          (λ a. leaves_one (invalid_numbered a) longs shorts)

      pub is_banned_one : (now : ℕ) → IsBannedExported longs shorts before k now r longs' shorts' first
          → IsBannedExported longs shorts before k now q longs'' shorts'' second → Alike r q longs' longs'' shorts' shorts'' × (first ≡ second)
      is_banned_one now =
          some_one (λ a b. Calls.is_banned_one before {first = first} {second = second} (policy_of longs shorts) (key_of k) now {r = a} {q = b})
          (λ a. leaves_one (standing_numbered a) longs shorts)

      pub on_disconnected_one : (now : ℕ) → OnDisconnectedExported longs shorts before k now r longs' shorts' first
          → OnDisconnectedExported longs shorts before k now q longs'' shorts'' second → Alike r q longs' longs'' shorts' shorts'' × (first ≡ second)
      on_disconnected_one now =
          some_one (λ a b. Calls.on_disconnected_one before {first = first} {second = second} (policy_of longs shorts) (key_of k) now {r = a} {q = b})
          (λ a. leaves_one (changed_numbered a) longs shorts)

  pub release_ingress_one : (size : ℕ) → ReleaseIngressExported longs shorts size r longs' shorts'
      → ReleaseIngressExported longs shorts size q longs'' shorts'' → Alike r q longs' longs'' shorts' shorts''
  release_ingress_one size =
      some_alone (λ a b. Calls.release_ingress_one (policy_of longs shorts) size {r = a} {q = b}) (λ a. leaves_one (changed_numbered a) longs shorts)

-- ════ The calls that only read the words ════

in_flight_left : (a : Result FiberIngressBudget Refusal) (numbers : List ℕ) {r q : ℕ} {first second : List ℕ} → LeavesInFlight a numbers r first
    → LeavesInFlight a numbers q second → (r ≡ q) × (first ≡ second)
in_flight_left (Ok load) numbers h k = (one_outcome h.0 k.0, one_outcome h.1 k.1)
in_flight_left (Err n) numbers h k = (one_outcome h.0 k.0, one_outcome h.1 k.1)

time_left : (a : Result ℕ Refusal) (held : ℕ) {r q first second : ℕ} → LeavesTime a held r first → LeavesTime a held q second
    → (r ≡ q) × (first ≡ second)
time_left (Ok t) held h k = (one_outcome h.0 k.0, one_outcome h.1 k.1)
time_left (Err n) held h k = (one_outcome h.0 k.0, one_outcome h.1 k.1)

module _ (longs shorts : List ℕ) {r q : ℕ} where
  pub in_flight_one : (numbers : List ℕ) {first second : List ℕ} → InFlightExported longs shorts numbers r first
      → InFlightExported longs shorts numbers q second → (r ≡ q) × (first ≡ second)
  in_flight_one numbers = some_alone (λ a b. Calls.in_flight_one (policy_of longs shorts) {r = a} {q = b}) (λ a. in_flight_left a numbers)

  pub held_time_one : (table k : List ℕ) (given held : ℕ) {first second : ℕ} → HeldTimeExported longs shorts table k given held r first
      → HeldTimeExported longs shorts table k given held q second → (r ≡ q) × (first ≡ second)
  held_time_one table k given held =
      some_alone (λ a b. Calls.held_time_one (policy_of longs shorts) table (key_of k) given {r = a} {q = b}) (λ a. time_left a held)
