-- One event of a trace: what the policy answers to it, and the line that says so. Definitions only.
use Rattle.std.specs.Prelude.{Bool, true, false, cond, List, [], ◌∷◌, ℕ}
use Rattle.std.specs.Prelude.{Result, Ok, Err}
use Rattle.refusal.specs.declared.Refusal.{Refusal}
use Rattle.refusal.specs.Refusal.{Said, gives, refused, number_of}
use Rattle.table.specs.Table.{look}
use Rattle.peer_state.specs.Ingress.{ingress_released}
use Rattle.peer_verdict.specs.declared.verdict.Cause.{Cause}
use Rattle.peer_verdict.specs.declared.verdict.InvalidCause.{InvalidCause}
use Rattle.peer_verdict.specs.Causes.{Limit, limit_of}
use Rattle.peer_verdict.specs.Causes as limit
use Rattle.peer_rows.specs.Rows.{Peers}
use Rattle.peer_message_policy.specs.declared.policy.PeerMessagePolicy.{PeerMessagePolicy}
use Rattle.peer_message_policy.specs.declared.answer.Admission.{Admission}
use Rattle.peer_message_policy.specs.declared.answer.Invalid.{Invalid}
use Rattle.peer_message_policy.specs.declared.answer.Standing.{Standing}
use Rattle.peer_message_policy.specs.Policy.{rows_of, policy_sound, sound, same, admit, record_invalid, is_banned, is_banned_change, disconnected_change}
use Rattle.peer_message_policy.specs.Calls.{Outcome, Meets, refuse, policy_after, admission_turn, invalid_turn, standing_changed, changed_by}
use Rattle.trace_lines.specs.declared.event.Event.{Event}
use Rattle.trace_lines.specs.declared.event.EventKind.{EventKind}
use Rattle.trace_lines.specs.declared.event.EventKind.TheVariants as kind
use Rattle.trace_lines.specs.declared.line.Word.{Word}
use Rattle.trace_lines.specs.declared.line.Word.TheVariants.{Allow, DisconnectMessages, DisconnectBytes, DisconnectCeiling, Ban, Banned, Noted, Free, Closed, Released}
use Rattle.trace_lines.specs.Lines.{line_of, answer_text, bad_line_text, refusal_text}
use Rattle.trace.specs.declared.step.Answer.{Answer}
use Rattle.refusal.specs.declared.Answered.{Answered}
use Rattle.trace.specs.declared.step.Stop.{Stop}
use Rattle.trace.specs.declared.step.Stepped.{Stepped}

-- ════ The calls' answers ════

abbrev pub answered : Answer → PeerMessagePolicy → Answered PeerMessagePolicy Answer
answered a q = record { state = q; answer = a }

abbrev pub admission_answered : Admission → Answered PeerMessagePolicy Answer
admission_answered a = answered (Answer.Admit a.cause) a.policy

abbrev pub invalid_answered : Invalid → Answered PeerMessagePolicy Answer
invalid_answered a = answered (Answer.Invalid a.cause) a.policy

-- of a call on the policy p
abbrev pub standing_answered : PeerMessagePolicy → Standing → Answered PeerMessagePolicy Answer
standing_answered p (Standing.Banned q) = answered Answer.Banned q
standing_answered p (Standing.Free q) = answered Answer.Free q
standing_answered p (Standing.Refused n) = answered (Answer.Refused n) p

-- of a call on the policy p, answered by a where it was changed
abbrev pub changed_answered : PeerMessagePolicy → Answer → Result PeerMessagePolicy Refusal → Answered PeerMessagePolicy Answer
changed_answered p a (Ok q) = answered a q
changed_answered p a (Err n) = answered (Answer.Refused n) p

-- ════ What an event does ════

-- the outcome with its answer put in other words
abbrev pub mapped : {A B : Type 0} → (A → B) → Outcome A → Outcome B
mapped f o = record { answer = f o.answer; change = o.change }

-- an event of a kind from the line with this number, of a policy with these rows
abbrev pub kind_outcome : PeerMessagePolicy → Peers → List ℕ → ℕ → ℕ → ℕ → EventKind → Outcome (Answered PeerMessagePolicy Answer)
kind_outcome p rs k bytes now number kind.Admit = mapped admission_answered (admission_turn p (admit p.config p.ingress rs k bytes now))
kind_outcome p rs k bytes now number kind.Invalid = mapped invalid_answered (invalid_turn p (record_invalid p.config p.ingress rs k now))
kind_outcome p rs k bytes now number kind.BanQuery = mapped (standing_answered p) (standing_changed p (is_banned (look k rs) now) (is_banned_change rs k now (look k rs)))
kind_outcome p rs k bytes now number kind.Disconnected = mapped (changed_answered p Answer.Closed) (changed_by p (disconnected_change p.config rs k now (look k rs)))
kind_outcome p rs k bytes now number kind.Release = record { answer = answered Answer.Released (policy_after p (ingress_released p.ingress bytes) same); change = same }
kind_outcome p rs k bytes now number kind.Bad = refuse (answered (Answer.BadLine number) p)

-- what an event from the line with this number does to a policy with these rows
unfoldable pub event_outcome : PeerMessagePolicy → Peers → Event → ℕ → Outcome (Answered PeerMessagePolicy Answer)
event_outcome p rs e number = kind_outcome p rs e.key.bytes e.bytes e.now_ms number e.kind

-- whether what an event needs is sound: a release needs the record alone, a bad line nothing
abbrev pub sound_for : EventKind → PeerMessagePolicy → List ℕ → Bool
sound_for kind.Admit p s = sound p s
sound_for kind.Invalid p s = sound p s
sound_for kind.BanQuery p s = sound p s
sound_for kind.Disconnected p s = sound p s
sound_for kind.Release p s = policy_sound p
sound_for kind.Bad p s = true

-- the answer to an event that is refused: a cause where the call gives one; a bad line is never refused
abbrev pub refused_as : EventKind → Refusal → Answer
refused_as kind.Admit n = Answer.Admit (Cause.Refused n)
refused_as kind.Invalid n = Answer.Invalid (InvalidCause.Refused n)
refused_as kind.BanQuery n = Answer.Refused n
refused_as kind.Disconnected n = Answer.Refused n
refused_as kind.Release n = Answer.Refused n
refused_as kind.Bad n = Answer.Refused n

-- what an event does over any lent memory
unfoldable pub answered_outcome : PeerMessagePolicy → List ℕ → Event → ℕ → Outcome (Answered PeerMessagePolicy Answer)
answered_outcome p s e number =
    cond (sound_for e.kind p s) (event_outcome p (rows_of p s) e number) (refuse (answered (refused_as e.kind Refusal.Unsound) p))

-- ════ The line for it ════

-- the word of a disconnect names the limit that ran short
abbrev pub disconnect_word : Limit → Word
disconnect_word limit.messages = DisconnectMessages
disconnect_word limit.bytes = DisconnectBytes
disconnect_word limit.ceiling = DisconnectCeiling

-- a ban is told by one word, be it live or begun
abbrev pub admit_spoken : Cause → Result Word Stop
admit_spoken Cause.Allowed = Ok Allow
admit_spoken (Cause.Short shortage) = Ok (disconnect_word (limit_of shortage))
admit_spoken Cause.LiveBan = Ok Ban
admit_spoken Cause.BanBegun = Ok Ban
admit_spoken (Cause.Refused n) = Err (Stop.Refused n)

abbrev pub invalid_spoken : InvalidCause → Result Word Stop
invalid_spoken InvalidCause.Noted = Ok Noted
invalid_spoken InvalidCause.LiveBan = Ok Banned
invalid_spoken InvalidCause.BanBegun = Ok Banned
invalid_spoken (InvalidCause.Refused n) = Err (Stop.Refused n)

-- the answer to a line behind which nothing more is read
abbrev pub stopped : Stop → Answer
stopped (Stop.Refused n) = Answer.Refused n
stopped (Stop.BadLine number) = Answer.BadLine number

-- what an answer is spelled as: a word, or why nothing more is read
abbrev pub spoken : Answer → Result Word Stop
spoken (Answer.Admit cause) = admit_spoken cause
spoken (Answer.Invalid cause) = invalid_spoken cause
spoken Answer.Banned = Ok Banned
spoken Answer.Free = Ok Free
spoken Answer.Closed = Ok Closed
spoken Answer.Released = Ok Released
spoken (Answer.Refused n) = Err (Stop.Refused n)
spoken (Answer.BadLine number) = Err (Stop.BadLine number)

-- the line that says why nothing more is read
abbrev pub stop_text : Stop → List ℕ
stop_text (Stop.Refused n) = refusal_text (number_of n)
stop_text (Stop.BadLine number) = bad_line_text number

-- the line for it; behind a word stand the messages and bytes in flight and the rows held
abbrev pub text_with : ℕ → ℕ → ℕ → Result Word Stop → List ℕ
text_with messages bytes rows (Ok w) = answer_text w messages bytes rows
text_with messages bytes rows (Err stop) = stop_text stop

-- with the numbers of a policy
abbrev pub spoken_text : PeerMessagePolicy → Result Word Stop → List ℕ
spoken_text q words = text_with q.ingress.in_flight_messages q.ingress.in_flight_bytes q.rows words

-- behind a refusal and a bad line nothing more is read
abbrev pub goes_on : Result Word Stop → Bool
goes_on (Ok w) = true
goes_on (Err stop) = false

-- the numbers on the line are those after the call
abbrev pub step_of : Answered PeerMessagePolicy Answer → Stepped
step_of a =
    record {
      answer = a.answer;
      policy = a.state;
      line = line_of (spoken_text a.state (spoken a.answer));
      goes_on = goes_on (spoken a.answer);
    }

unfoldable pub step_outcome : PeerMessagePolicy → List ℕ → Event → ℕ → Outcome Stepped
step_outcome p s e number = mapped step_of (answered_outcome p s e number)

unfoldable pub StepMeets : PeerMessagePolicy → List ℕ → Event → ℕ → Stepped → List ℕ → Type 0
StepMeets p before e number r after = Meets r before after p.rows (step_outcome p before e number)

-- ════ What the answers say ════

-- the number of a word
abbrev pub word_number : Word → ℕ
word_number Allow = 0
word_number DisconnectMessages = 1
word_number DisconnectBytes = 2
word_number DisconnectCeiling = 3
word_number Ban = 4
word_number Banned = 5
word_number Noted = 6
word_number Free = 7
word_number Closed = 8
word_number Released = 9

-- behind a word the numbers; a bad line gives nothing
abbrev pub spoken_says : Result Word Stop → List ℕ → Said
spoken_says (Ok w) numbers = gives (word_number w ∷ numbers)
spoken_says (Err (Stop.Refused n)) numbers = refused (number_of n)
spoken_says (Err (Stop.BadLine number)) numbers = gives []

-- the word, the messages and bytes in flight, and the rows held
abbrev pub answered_says : Answered PeerMessagePolicy Answer → Said
answered_says a =
    spoken_says (spoken a.answer)
    (a.state.ingress.in_flight_messages ∷ a.state.ingress.in_flight_bytes ∷ a.state.rows ∷ [])
