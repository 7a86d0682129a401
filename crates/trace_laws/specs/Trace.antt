-- What the trace program answers to an input, and what it writes, as docs/REFERENCE.md has it under "Trace program": the whole of it, line
-- by line. Definitions only.
use Rattle.std.specs.Prelude.{cond, List, [], ◌∷◌, map, ℕ, suc, leb, ltb, eqb, length}
use Rattle.decimal.specs.Ascii.{newline}
use Rattle.std.specs.Prelude.{Option, Some, None, Ok, Err}
use Rattle.refusal.specs.declared.Refusal.TheVariants as Refusal
use Rattle.peer_settings.specs.declared.config.PeerMessagePolicyConfig.{PeerMessagePolicyConfig}
use Rattle.peer_settings.specs.Config.{limit}
use Rattle.peer_rows.specs.Rows.{Peers}
use Rattle.peer_message_policy.specs.declared.policy.PeerMessagePolicy.{PeerMessagePolicy}
use Rattle.peer_message_policy.specs.Calls.{Outcome, fresh, changed_rows}
use Rattle.trace_lines.specs.declared.event.Event.{Event}
use Rattle.trace_lines.specs.Lines.{settings_of, event_of, bad_event}
use Rattle.trace.specs.declared.step.Answer.{Answer}
use Rattle.refusal.specs.declared.Answered.{Answered}
use Rattle.trace.specs.declared.scan.Scan.{Scan}
use Rattle.trace.specs.declared.scan.Handed.{Handed}
use Rattle.trace.specs.Step.{event_outcome, spoken, text_with, goes_on}
use Rattle.trace.specs.Scan.{longest_input, no_policy, text_of, NextMeets}

-- ════ The lines of an input ════

-- a line without its newline; a last one that has none is bad whatever it says
pub data InputLine : Type 0 where
  whole : List ℕ → InputLine
  unended : InputLine

abbrev pub before : ℕ → List InputLine → List InputLine
before b [] = unended ∷ []
before b (whole line ∷ more) = whole (b ∷ line) ∷ more
before b (unended ∷ more) = unended ∷ more

unfoldable pub lines_of : List ℕ → List InputLine
lines_of [] = []
lines_of (b ∷ more) = cond (eqb b newline) (whole [] ∷ lines_of more) (before b (lines_of more))

-- ════ The answers ════

-- what a line of the input came to: its event, what was answered, and the messages and bytes in flight and the rows held after it
pub record LineAnswer : Type 0 where
  pub event : Event
  pub answer : Answer
  pub messages : ℕ
  pub bytes : ℕ
  pub rows : ℕ

-- the numbers are this policy's
abbrev pub line_answer_of : Event → Answer → PeerMessagePolicy → LineAnswer
line_answer_of e a q =
    record {
      event = e;
      answer = a;
      messages = q.ingress.in_flight_messages;
      bytes = q.ingress.in_flight_bytes;
      rows = q.rows;
    }

-- what an event came to; where the trace goes on, so does the rest, with the policy and the rows after the event
abbrev pub answered_then : Event → Peers → Outcome (Answered PeerMessagePolicy Answer) → (PeerMessagePolicy → Peers → List LineAnswer) → List LineAnswer
answered_then e rs o rest =
    line_answer_of e o.answer.answer o.answer.state
    ∷ cond (goes_on (spoken o.answer.answer)) (rest o.answer.state (changed_rows rs o.change)) []

-- the events' answers, from the line with this number on
unfoldable pub events_of : ℕ → PeerMessagePolicy → Peers → List InputLine → List LineAnswer
events_of number p rs [] = []
events_of number p rs (unended ∷ more) = line_answer_of bad_event (Answer.BadLine number) p ∷ []
events_of number p rs (whole line ∷ more) =
    answered_then (event_of line) rs (event_outcome p rs (event_of line) number) (λ q qs. events_of (suc number) q qs more)

-- the block lent for the rows has 256 places of 121 bytes
abbrev pub block_places : ℕ
block_places = 256

abbrev pub block_size : ℕ
block_size = 30976

-- an answer where no policy is made: all there is, and its numbers are 0
abbrev pub unsettled : Answer → List LineAnswer
unsettled a = line_answer_of bad_event a no_policy ∷ []

-- behind good settings the events' answers, from a policy with no rows; a limit above 1,024 is refused, then one above the block's places
abbrev pub settled_of : Option PeerMessagePolicyConfig → List InputLine → List LineAnswer
settled_of None more = unsettled (Answer.BadLine 1)
settled_of (Some c) more =
    cond (ltb 1024 c.max_tracked_peers) (unsettled (Answer.Refused Refusal.LimitTooLarge))
    (cond (leb (limit c) block_places) (events_of 2 (fresh c) [] more) (unsettled (Answer.Refused Refusal.TooShort)))

-- the settings are line 1; where there is none, that line is bad
abbrev pub lines_answers : List InputLine → List LineAnswer
lines_answers [] = unsettled (Answer.BadLine 1)
lines_answers (unended ∷ more) = unsettled (Answer.BadLine 1)
lines_answers (whole line ∷ more) = settled_of (settings_of line) more

-- what an input is answered, the whole run; a longer one than is read is bad at line 1
unfoldable pub answers_of : List ℕ → List LineAnswer
answers_of input = cond (ltb longest_input (length input)) (unsettled (Answer.BadLine 1)) (lines_answers (lines_of input))

-- ════ The output ════

-- a line is spelled from the answer and the numbers
abbrev pub line_text : LineAnswer → List ℕ
line_text t = text_with t.messages t.bytes t.rows (spoken t.answer)

-- the lines that are written for an input
unfoldable pub trace_of : List ℕ → List (List ℕ)
trace_of input = map line_text (answers_of input)

-- ════ What a caller of `next` gets ════

-- what a call of `next` told: its event and its answer, and the numbers of the policy that it left
abbrev pub line_answer_by : Handed → LineAnswer
line_answer_by r = line_answer_of r.event r.answer r.scan.policy

-- `next` called again and again on an input, each call with the scan and the memory that the one before it left, tells these, hands out
-- these lines, and is then done
pub data HandsOut (input : List ℕ) : Scan → List ℕ → List LineAnswer → List (List ℕ) → Type 0 where
  ends : (scan : Scan) (s : List ℕ) (behind : Scan) (t : List ℕ) → NextMeets scan input s (Err behind) t → HandsOut input scan s [] []
  hands : (scan : Scan) (s : List ℕ) (r : Handed) (t : List ℕ) (answers : List LineAnswer) (lines : List (List ℕ))
      → NextMeets scan input s (Ok r) t → HandsOut input r.scan t answers lines
      → HandsOut input scan s (line_answer_by r ∷ answers) (text_of r.line ∷ lines)
