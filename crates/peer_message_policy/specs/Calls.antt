-- The public calls: what each contract says of a call's answer and of every lent byte, for all arguments. Definitions only.
-- A call on an unsound policy or memory is refused with 3 and changes nothing.
use Rattle.std.specs.Prelude.{◌≡◌, Bool, true, false, cond, List, [], ◌∷◌, ℕ, eqb, ltb}
use Rattle.std.specs.Prelude.{Result, Ok, Err}
use Rattle.refusal.specs.declared.Refusal.{Refusal}
use Rattle.refusal.specs.declared.Refusal.TheVariants as Refusal
use Rattle.pubkey.specs.declared.Pubkey.{Pubkey}
use Rattle.refusal.specs.Refusal.{Said, gives, refused, number_of}
use Rattle.table.specs.Table.{look}
use Rattle.table.specs.Outcome as lent
pub use Rattle.table.specs.Outcome.{changed_rows, count_after}
use Rattle.peer_settings.specs.declared.config.PeerMessagePolicyConfig.{PeerMessagePolicyConfig}
use Rattle.peer_state.specs.declared.entry.PeerMessagePolicyEntry.{PeerMessagePolicyEntry}
use Rattle.peer_state.specs.declared.ingress.FiberIngressBudget.{FiberIngressBudget}
use Rattle.peer_message_policy.specs.declared.policy.PeerMessagePolicy.{PeerMessagePolicy}
use Rattle.peer_verdict.specs.declared.verdict.Cause.{Cause}
use Rattle.peer_verdict.specs.declared.verdict.InvalidCause.{InvalidCause}
use Rattle.peer_verdict.specs.Causes.{cause_says, invalid_cause_says}
use Rattle.peer_message_policy.specs.declared.answer.Admission.{Admission}
use Rattle.peer_message_policy.specs.declared.answer.Invalid.{Invalid}
use Rattle.peer_message_policy.specs.declared.answer.Standing.{Standing}
use Rattle.peer_settings.specs.Config.{limit}
use Rattle.peer_state.specs.Ingress.{in_flight, ingress_released}
use Rattle.peer_rows.specs.Rows.{peer_layout}
use Rattle.peer_message_policy.specs.Policy.{rows_of, policy_sound, long_enough, sound, Change, same, become, Turn, admit, record_invalid, is_banned, is_banned_change, disconnected_change, held_time}

-- ════ What the answers say ════

abbrev pub made_says : Result PeerMessagePolicy Refusal → Said
made_says (Ok p) = gives []
made_says (Err n) = refused (number_of n)

-- whether admit's answer says Allow: by its first value, whatever stands behind it (other calls use the same numbers)
abbrev pub is_allow : Said → Bool
is_allow (gives []) = false
is_allow (gives (n ∷ more)) = eqb n 0
is_allow (refused n) = false

-- the policy that an answer carries says nothing
abbrev pub admission_says : Admission → Said
admission_says a = cause_says a.cause

abbrev pub invalid_says : Invalid → Said
invalid_says a = invalid_cause_says a.cause

-- 1 for banned, 0 for free
abbrev pub standing_says : Standing → Said
standing_says (Standing.Banned p) = gives (1 ∷ [])
standing_says (Standing.Free p) = gives (0 ∷ [])
standing_says (Standing.Refused n) = refused (number_of n)

abbrev pub changed_says : Result PeerMessagePolicy Refusal → Said
changed_says (Ok p) = gives []
changed_says (Err n) = refused (number_of n)

abbrev pub in_flight_says : Result FiberIngressBudget Refusal → Said
in_flight_says (Ok i) = gives (i.in_flight_messages ∷ i.in_flight_bytes ∷ [])
in_flight_says (Err n) = refused (number_of n)

abbrev pub held_time_says : Result ℕ Refusal → Said
held_time_says (Ok t) = gives (t ∷ [])
held_time_says (Err n) = refused (number_of n)

-- ════ Answers and memory ════

-- the policy with this load in flight and so many rows
abbrev pub policy_with : PeerMessagePolicy → FiberIngressBudget → ℕ → PeerMessagePolicy
policy_with p i n = record { config = p.config; ingress = i; rows = n }

-- the policy with this load in flight, after a change of its rows
abbrev pub policy_after : PeerMessagePolicy → FiberIngressBudget → Change → PeerMessagePolicy
policy_after p i change = policy_with p i (count_after p.rows change)

-- lent memory that held n rows, after a change: every byte of it
abbrev pub Memory : List ℕ → List ℕ → ℕ → Change → Type 0
Memory before after n change = lent.Memory peer_layout before after n change

-- an answer, and what becomes of the rows
abbrev pub Outcome : Type 0 → Type 0
Outcome A = lent.Outcome PeerMessagePolicyEntry A

-- a call gave this answer and left this memory
abbrev pub Meets : {A : Type 0} → A → List ℕ → List ℕ → ℕ → Outcome A → Type 0
Meets answer before after n o = lent.Meets peer_layout answer before after n o

-- a refusal changes nothing
abbrev pub refuse : {A : Type 0} → A → Outcome A
refuse a = record { answer = a; change = same }

-- ════ The calls ════

-- a policy with no row and nothing in flight; the settings are kept as they are given
abbrev pub fresh : PeerMessagePolicyConfig → PeerMessagePolicy
fresh c = record { config = c; ingress = in_flight 0 0; rows = 0 }

-- new: 2 for a limit above 1,024, then 1 for memory that is too short for it
unfoldable pub new_outcome : PeerMessagePolicyConfig → List ℕ → Outcome (Result PeerMessagePolicy Refusal)
new_outcome c s =
    cond (ltb 1024 c.max_tracked_peers) (refuse (Err Refusal.LimitTooLarge))
    (cond (long_enough c s) (record { answer = Ok (fresh c); change = become [] }) (refuse (Err Refusal.TooShort)))

-- every place of the limit is zeroed, and the bytes further on stay
unfoldable pub NewMeets : PeerMessagePolicyConfig → List ℕ → Result PeerMessagePolicy Refusal → List ℕ → Type 0
NewMeets c before r after = Meets r before after (limit c) (new_outcome c before)

-- a cause, with the policy
abbrev pub admission_of : PeerMessagePolicy → Cause → Admission
admission_of p cause = record { cause = cause; policy = p }

abbrev pub admission_turn : PeerMessagePolicy → Turn Cause → Outcome Admission
admission_turn p t = record { answer = admission_of (policy_after p t.ingress t.change) t.cause; change = t.change }

unfoldable pub admit_outcome : PeerMessagePolicy → List ℕ → Pubkey → ℕ → ℕ → Outcome Admission
admit_outcome p s k size now =
    cond (sound p s) (admission_turn p (admit p.config p.ingress (rows_of p s) k.bytes size now))
    (refuse (admission_of p (Cause.Refused Refusal.Unsound)))

unfoldable pub AdmitMeets : PeerMessagePolicy → List ℕ → Pubkey → ℕ → ℕ → Admission → List ℕ → Type 0
AdmitMeets p before k size now r after = Meets r before after p.rows (admit_outcome p before k size now)

abbrev pub invalid_of : PeerMessagePolicy → InvalidCause → Invalid
invalid_of p cause = record { cause = cause; policy = p }

abbrev pub invalid_turn : PeerMessagePolicy → Turn InvalidCause → Outcome Invalid
invalid_turn p t = record { answer = invalid_of (policy_after p t.ingress t.change) t.cause; change = t.change }

unfoldable pub record_invalid_outcome : PeerMessagePolicy → List ℕ → Pubkey → ℕ → Outcome Invalid
record_invalid_outcome p s k now =
    cond (sound p s) (invalid_turn p (record_invalid p.config p.ingress (rows_of p s) k.bytes now))
    (refuse (invalid_of p (InvalidCause.Refused Refusal.Unsound)))

unfoldable pub RecordInvalidMeets : PeerMessagePolicy → List ℕ → Pubkey → ℕ → Invalid → List ℕ → Type 0
RecordInvalidMeets p before k now r after = Meets r before after p.rows (record_invalid_outcome p before k now)

abbrev pub standing_of : Bool → PeerMessagePolicy → Standing
standing_of true p = Standing.Banned p
standing_of false p = Standing.Free p

abbrev pub standing_changed : PeerMessagePolicy → Bool → Change → Outcome Standing
standing_changed p b change = record { answer = standing_of b (policy_after p p.ingress change); change = change }

unfoldable pub is_banned_outcome : PeerMessagePolicy → List ℕ → Pubkey → ℕ → Outcome Standing
is_banned_outcome p s k now =
    let found = look k.bytes (rows_of p s)
    in cond (sound p s) (standing_changed p (is_banned found now) (is_banned_change (rows_of p s) k.bytes now found))
    (refuse (Standing.Refused Refusal.Unsound))

unfoldable pub IsBannedMeets : PeerMessagePolicy → List ℕ → Pubkey → ℕ → Standing → List ℕ → Type 0
IsBannedMeets p before k now r after = Meets r before after p.rows (is_banned_outcome p before k now)

abbrev pub changed_by : PeerMessagePolicy → Change → Outcome (Result PeerMessagePolicy Refusal)
changed_by p change = record { answer = Ok (policy_after p p.ingress change); change = change }

unfoldable pub on_disconnected_outcome : PeerMessagePolicy → List ℕ → Pubkey → ℕ → Outcome (Result PeerMessagePolicy Refusal)
on_disconnected_outcome p s k now =
    cond (sound p s)
    (changed_by p (disconnected_change p.config (rows_of p s) k.bytes now (look k.bytes (rows_of p s))))
    (refuse (Err Refusal.Unsound))

unfoldable pub OnDisconnectedMeets : PeerMessagePolicy → List ℕ → Pubkey → ℕ → Result PeerMessagePolicy Refusal → List ℕ → Type 0
OnDisconnectedMeets p before k now r after = Meets r before after p.rows (on_disconnected_outcome p before k now)

-- release_ingress: no memory is lent, so the record alone is judged
unfoldable pub ReleaseIngressMeets : PeerMessagePolicy → ℕ → Result PeerMessagePolicy Refusal → Type 0
ReleaseIngressMeets p size r =
    r
    ≡ cond (policy_sound p) (Ok (policy_after p (ingress_released p.ingress size) same)) (Err Refusal.Unsound)

-- in_flight: no memory is lent, so the record alone is judged
unfoldable pub InFlightMeets : PeerMessagePolicy → Result FiberIngressBudget Refusal → Type 0
InFlightMeets p r =
    r
    ≡ cond (policy_sound p) (Ok p.ingress)
    (Err Refusal.Unsound)

-- held_time
unfoldable pub HeldTimeMeets : PeerMessagePolicy → List ℕ → Pubkey → ℕ → Result ℕ Refusal → Type 0
HeldTimeMeets p s k given r =
    r ≡ cond (sound p s) (Ok (held_time given (look k.bytes (rows_of p s)))) (Err Refusal.Unsound)
