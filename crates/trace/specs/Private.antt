-- Private: cited by contracts inside the proved code alone; no entry point's contract rests on it. Definitions only.
use Rattle.std.specs.Prelude.{List, ℕ, ◌+◌, length, drop}
use Rattle.std.specs.Prelude.{Option, Some, None}
use Rattle.peer_message_policy.specs.declared.policy.PeerMessagePolicy.{PeerMessagePolicy}
use Rattle.peer_message_policy.specs.Calls.{Meets}
use Rattle.trace.specs.declared.step.Answer.{Answer}
use Rattle.trace.specs.Scan.{first_line}
use Rattle.trace_lines.specs.declared.event.Event.{Event}
use Rattle.refusal.specs.declared.Answered.{Answered}
use Rattle.trace.specs.Step.{answered_outcome}

abbrev pub end_from : ℕ → Option (List ℕ) → Option ℕ
end_from at None = None
end_from at (Some line) = Some (at + length line)

-- the place of the newline that ends the line at a place
unfoldable pub line_end_of : List ℕ → ℕ → Option ℕ
line_end_of input at = end_from at (first_line (drop at input))

unfoldable pub AnsweredMeets : PeerMessagePolicy → List ℕ → Event → ℕ → Answered PeerMessagePolicy Answer → List ℕ → Type 0
AnsweredMeets p before e number r after = Meets r before after p.rows (answered_outcome p before e number)
