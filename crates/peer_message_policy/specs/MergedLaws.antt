-- admit's answer, merged, is the Rust's; and what it says begins with what the Rust's answer says. Assumes nothing.
use Rattle.std.specs.Prelude.{◌≡◌, refl, Bool, true, false, cond, List, ℕ}
use Rattle.std.proofs.Common.{ap}
use Rattle.refusal.specs.declared.Refusal.TheVariants as Refusal
use Rattle.pubkey.specs.declared.Pubkey.{Pubkey}
use Rattle.peer_verdict.specs.declared.verdict.Shortage.TheVariants as Shortage
use Rattle.peer_verdict.specs.declared.verdict.Cause.{Cause}
use Rattle.peer_message_policy.specs.declared.policy.PeerMessagePolicy.{PeerMessagePolicy}
use Rattle.peer_message_policy.specs.declared.answer.Admission.{Admission}
use Rattle.peer_message_policy.specs.declared.answer.PeerMessageAdmission.TheVariants as Merged
use Rattle.peer_message_policy.specs.Policy.{rows_of, sound, Turn, admit}
use Rattle.peer_message_policy.specs.Calls.{Meets, refuse, admission_of, admission_turn, admission_says, admit_outcome, AdmitMeets}
use Rattle.peer_message_policy.specs.Merged.{merged_of, merge, merged_says, first_said, merged_turn, merged_outcome, MergedMeets}

-- an answer that meets the outcome of a test, merged, meets the merged outcome
merged_tested : (t : Bool) (p : PeerMessagePolicy) (turn : Turn Cause) {r : Admission} {before after : List ℕ} {n : ℕ}
    → Meets r before after n (cond t (admission_turn p turn) (refuse (admission_of p (Cause.Refused Refusal.Unsound))))
    → Meets (merge r) before after n (cond t (merged_turn p turn) (refuse (Merged.Refused Refusal.Unsound)))
merged_tested true p turn m = record { answers = ap merge m.answers; leaves = m.leaves }
merged_tested false p turn m = record { answers = ap merge m.answers; leaves = m.leaves }

-- The merged answer of every call, on any arguments over any lent memory, is the Rust's definition's, and the memory is left as there.
pub merged : (p : PeerMessagePolicy) (before : List ℕ) (k : Pubkey) (size now : ℕ) (r : Admission) (after : List ℕ)
    → AdmitMeets p before k size now r after → MergedMeets p before k size now (merge r) after
unfolding AdmitMeets admit_outcome MergedMeets merged_outcome
merged p before k size now r after m =
    merged_tested (sound p before) p (admit p.config p.ingress (rows_of p before) k.bytes size now) m

-- ════ What is said ════

says_of : (p : PeerMessagePolicy) (cause : Cause) → merged_says (merged_of p cause) ≡ first_said (admission_says (admission_of p cause))
says_of p Cause.Allowed = refl
says_of p (Cause.Short Shortage.Messages) = refl
says_of p (Cause.Short (Shortage.Bytes k)) = refl
says_of p (Cause.Short Shortage.Slot) = refl
says_of p (Cause.Short (Shortage.CeilingBytes k)) = refl
says_of p Cause.LiveBan = refl
says_of p Cause.BanBegun = refl
says_of p (Cause.Refused n) = refl

-- What the Rust's answer says is the first value of what admit's says.
pub merged_says_lem : (a : Admission) → merged_says (merge a) ≡ first_said (admission_says a)
merged_says_lem a = says_of a.policy a.cause
