-- The exported calls: there is an answer that meets the call's contract on the policy that the words say, and it is what the number
-- and the words after the call say. Definitions only.
use Rattle.std.specs.Prelude.{◌≡◌, List, [], ◌∷◌, ℕ}
use Rattle.std.specs.Prelude.{Result, Ok, Err}
use Rattle.refusal.specs.declared.Refusal.{Refusal}
use Rattle.refusal.specs.Refusal.{number_of}
use Rattle.peer_state.specs.declared.ingress.FiberIngressBudget.{FiberIngressBudget}
use Rattle.refusal.specs.Some.{Some}
use Rattle.pubkey.specs.declared.Pubkey.{Pubkey}
use Rattle.peer_message_policy.specs.Calls.{NewMeets, AdmitMeets, RecordInvalidMeets, IsBannedMeets, OnDisconnectedMeets, ReleaseIngressMeets, InFlightMeets, HeldTimeMeets}
use Rattle.peer_message_policy.specs.Merged.{merge}
use Rattle.c_words.specs.Words.{config_of, policy_of, Leaves}
use Rattle.c_words.specs.CauseWords.{cause_left}
use Rattle.c_words.specs.Answers.{made_numbered, admission_numbered, invalid_numbered, standing_numbered, changed_numbered}

-- the key of these bytes
abbrev pub key_of : List ℕ → Pubkey
key_of k = record { bytes = k }

-- making a policy with the settings that the words say
abbrev pub NewExported : List ℕ → List ℕ → List ℕ → ℕ → List ℕ → List ℕ → List ℕ → Type 0
NewExported longs shorts before r longs' shorts' after =
    Some (λ a. NewMeets (config_of longs shorts) before a after) (λ a. Leaves (made_numbered a) longs shorts r longs' shorts')

-- admit, merged: 256 for Allow, 257 for Disconnect, 258 for Ban
abbrev pub AdmitExported : List ℕ → List ℕ → List ℕ → List ℕ → ℕ → ℕ → ℕ → List ℕ → List ℕ → List ℕ → Type 0
AdmitExported longs shorts before k size now r longs' shorts' after =
    Some (λ a. AdmitMeets (policy_of longs shorts) before (key_of k) size now a after)
    (λ a. Leaves (admission_numbered (merge a)) longs shorts r longs' shorts')

-- the same, and the cause beside it; on a refusal what stood there stays
abbrev pub AdmitExplainedExported : List ℕ → List ℕ → List ℕ → List ℕ → ℕ → ℕ → List ℕ → ℕ → List ℕ → List ℕ → List ℕ → List ℕ → Type 0
AdmitExplainedExported longs shorts before k size now cause r longs' shorts' after cause' =
    Some (λ a. AdmitMeets (policy_of longs shorts) before (key_of k) size now a after)
    (λ a. Leaves (admission_numbered (merge a)) longs shorts r longs' shorts' × (cause' ≡ cause_left a.cause cause))

-- record_invalid: 260 for banned, 259 for noted
abbrev pub RecordInvalidExported : List ℕ → List ℕ → List ℕ → List ℕ → ℕ → ℕ → List ℕ → List ℕ → List ℕ → Type 0
RecordInvalidExported longs shorts before k now r longs' shorts' after =
    Some (λ a. RecordInvalidMeets (policy_of longs shorts) before (key_of k) now a after)
    (λ a. Leaves (invalid_numbered a) longs shorts r longs' shorts')

-- is_banned: 260 for banned, 259 for free
abbrev pub IsBannedExported : List ℕ → List ℕ → List ℕ → List ℕ → ℕ → ℕ → List ℕ → List ℕ → List ℕ → Type 0
IsBannedExported longs shorts before k now r longs' shorts' after =
    Some (λ a. IsBannedMeets (policy_of longs shorts) before (key_of k) now a after)
    (λ a. Leaves (standing_numbered a) longs shorts r longs' shorts')

-- on_disconnected: 261
abbrev pub OnDisconnectedExported : List ℕ → List ℕ → List ℕ → List ℕ → ℕ → ℕ → List ℕ → List ℕ → List ℕ → Type 0
OnDisconnectedExported longs shorts before k now r longs' shorts' after =
    Some (λ a. OnDisconnectedMeets (policy_of longs shorts) before (key_of k) now a after)
    (λ a. Leaves (changed_numbered a) longs shorts r longs' shorts')

-- release_ingress: 261; no table is lent
abbrev pub ReleaseIngressExported : List ℕ → List ℕ → ℕ → ℕ → List ℕ → List ℕ → Type 0
ReleaseIngressExported longs shorts size r longs' shorts' =
    Some (λ a. ReleaseIngressMeets (policy_of longs shorts) size a) (λ a. Leaves (changed_numbered a) longs shorts r longs' shorts')

-- the numbers in flight are left with 261; on a refusal what stood there stays
abbrev pub LeavesInFlight : Result FiberIngressBudget Refusal → List ℕ → ℕ → List ℕ → Type 0
LeavesInFlight (Ok load) numbers r numbers' = (r ≡ 261) × (numbers' ≡ load.in_flight_messages ∷ load.in_flight_bytes ∷ [])
LeavesInFlight (Err n) numbers r numbers' = (r ≡ number_of n) × (numbers' ≡ numbers)

-- in_flight: the words are only read
abbrev pub InFlightExported : List ℕ → List ℕ → List ℕ → ℕ → List ℕ → Type 0
InFlightExported longs shorts numbers r numbers' =
    Some (λ a. InFlightMeets (policy_of longs shorts) a) (λ a. LeavesInFlight a numbers r numbers')

-- the time is left with 261; on a refusal what stood there stays
abbrev pub LeavesTime : Result ℕ Refusal → ℕ → ℕ → ℕ → Type 0
LeavesTime (Ok t) held r held' = (r ≡ 261) × (held' ≡ t)
LeavesTime (Err n) held r held' = (r ≡ number_of n) × (held' ≡ held)

-- held_time: the words and the table are only read
abbrev pub HeldTimeExported : List ℕ → List ℕ → List ℕ → List ℕ → ℕ → ℕ → ℕ → ℕ → Type 0
HeldTimeExported longs shorts table k given held r held' =
    Some (λ a. HeldTimeMeets (policy_of longs shorts) table (key_of k) given a) (λ a. LeavesTime a held r held')
