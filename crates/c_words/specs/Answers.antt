-- The number of each answer, with the policy that it carries. Definitions only.
use Rattle.std.specs.Prelude.{Result, Ok, Err, ℕ}
use Rattle.refusal.specs.declared.Refusal.{Refusal}
use Rattle.peer_verdict.specs.declared.verdict.InvalidCause.{InvalidCause}
use Rattle.peer_message_policy.specs.declared.policy.PeerMessagePolicy.{PeerMessagePolicy}
use Rattle.peer_message_policy.specs.declared.answer.PeerMessageAdmission.{PeerMessageAdmission}
use Rattle.peer_message_policy.specs.declared.answer.PeerMessageAdmission.TheVariants as Admission
use Rattle.peer_message_policy.specs.declared.answer.Invalid.{Invalid}
use Rattle.peer_message_policy.specs.declared.answer.Standing.{Standing}

-- 261 for a policy that was made
abbrev pub made_numbered : Result PeerMessagePolicy Refusal → Result (ℕ × PeerMessagePolicy) Refusal
made_numbered (Ok p) = Ok (261, p)
made_numbered (Err n) = Err n

-- 256 for Allow, 257 for Disconnect, 258 for Ban
abbrev pub admission_numbered : PeerMessageAdmission → Result (ℕ × PeerMessagePolicy) Refusal
admission_numbered (Admission.Allow p) = Ok (256, p)
admission_numbered (Admission.Disconnect p) = Ok (257, p)
admission_numbered (Admission.Ban p) = Ok (258, p)
admission_numbered (Admission.Refused n) = Err n

-- 260 for banned, 259 for noted
abbrev pub invalid_cause_numbered : PeerMessagePolicy → InvalidCause → Result (ℕ × PeerMessagePolicy) Refusal
invalid_cause_numbered p InvalidCause.Noted = Ok (259, p)
invalid_cause_numbered p InvalidCause.LiveBan = Ok (260, p)
invalid_cause_numbered p InvalidCause.BanBegun = Ok (260, p)
invalid_cause_numbered p (InvalidCause.Refused n) = Err n

abbrev pub invalid_numbered : Invalid → Result (ℕ × PeerMessagePolicy) Refusal
invalid_numbered a = invalid_cause_numbered a.policy a.cause

-- 260 for banned, 259 for free
abbrev pub standing_numbered : Standing → Result (ℕ × PeerMessagePolicy) Refusal
standing_numbered (Standing.Banned p) = Ok (260, p)
standing_numbered (Standing.Free p) = Ok (259, p)
standing_numbered (Standing.Refused n) = Err n

-- 261 for a policy that was changed
abbrev pub changed_numbered : Result PeerMessagePolicy Refusal → Result (ℕ × PeerMessagePolicy) Refusal
changed_numbered (Ok p) = Ok (261, p)
changed_numbered (Err n) = Err n
