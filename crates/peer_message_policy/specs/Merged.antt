-- admit as the Rust answers it, Allow, Disconnect or Ban; and the merge that takes admit's answer there. Definitions only; that the merged
-- answer of every call is this one's is `MergedLaws.merged`.
use Rattle.std.specs.Prelude.{cond, List, [], ◌∷◌, ℕ}
use Rattle.refusal.specs.declared.Refusal.TheVariants as Refusal
use Rattle.pubkey.specs.declared.Pubkey.{Pubkey}
use Rattle.refusal.specs.Refusal.{Said, gives, refused, number_of}
use Rattle.peer_verdict.specs.declared.verdict.Cause.{Cause}
use Rattle.peer_message_policy.specs.declared.policy.PeerMessagePolicy.{PeerMessagePolicy}
use Rattle.peer_message_policy.specs.declared.answer.Admission.{Admission}
use Rattle.peer_message_policy.specs.declared.answer.PeerMessageAdmission.{PeerMessageAdmission}
use Rattle.peer_message_policy.specs.declared.answer.PeerMessageAdmission.TheVariants as Merged
use Rattle.peer_message_policy.specs.Policy.{rows_of, sound, Turn, admit}
use Rattle.peer_message_policy.specs.Calls.{policy_after, Outcome, Meets, refuse}

-- the Rust's answer for a cause
abbrev pub merged_of : PeerMessagePolicy → Cause → PeerMessageAdmission
merged_of p Cause.Allowed = Merged.Allow p
merged_of p (Cause.Short shortage) = Merged.Disconnect p
merged_of p Cause.LiveBan = Merged.Ban p
merged_of p Cause.BanBegun = Merged.Ban p
merged_of p (Cause.Refused n) = Merged.Refused n

-- which limit ran short is left out, and whether a ban is live or begins
abbrev pub merge : Admission → PeerMessageAdmission
merge a = merged_of a.policy a.cause

-- what the Rust's answers say
abbrev pub merged_says : PeerMessageAdmission → Said
merged_says (Merged.Allow p) = gives (0 ∷ [])
merged_says (Merged.Disconnect p) = gives (1 ∷ [])
merged_says (Merged.Ban p) = gives (2 ∷ [])
merged_says (Merged.Refused n) = refused (number_of n)

-- the first value alone of what is said
abbrev pub first_said : Said → Said
first_said (gives []) = gives []
first_said (gives (n ∷ more)) = gives (n ∷ [])
first_said (refused n) = refused n

-- the calls' definition, as it answers the Rust's answer
abbrev pub merged_turn : PeerMessagePolicy → Turn Cause → Outcome PeerMessageAdmission
merged_turn p t = record { answer = merged_of (policy_after p t.ingress t.change) t.cause; change = t.change }

unfoldable pub merged_outcome : PeerMessagePolicy → List ℕ → Pubkey → ℕ → ℕ → Outcome PeerMessageAdmission
merged_outcome p s k size now =
    cond (sound p s) (merged_turn p (admit p.config p.ingress (rows_of p s) k.bytes size now))
    (refuse (Merged.Refused Refusal.Unsound))

unfoldable pub MergedMeets : PeerMessagePolicy → List ℕ → Pubkey → ℕ → ℕ → PeerMessageAdmission → List ℕ → Type 0
MergedMeets p before k size now r after = Meets r before after p.rows (merged_outcome p before k size now)
