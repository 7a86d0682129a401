-- A scan within a run: the answers that are still to come at it, what holds of it, and what a call of `next` leaves of both. The proofs
-- alone need these; the theorems do not name them. Definitions only.
use Rattle.std.specs.Prelude.{◌≡◌, true, Result, Ok, Err, List, [], ◌∷◌, ℕ, ◌+◌, ◌≤◌, length, drop}
use Rattle.lent_bytes.specs.LentBytes.{Bytes}
use Rattle.peer_message_policy.specs.Policy.{rows_of, sound}
use Rattle.trace.specs.declared.scan.Phase.{Phase}
use Rattle.trace.specs.declared.scan.Scan.{Scan}
use Rattle.trace.specs.declared.scan.Handed.{Handed}
use Rattle.trace.specs.declared.step.Answer.TheVariants as Answer
use Rattle.trace.specs.Scan.{text_of, longest_input, no_policy}
use Rattle.trace_laws.specs.Trace.{lines_of, LineAnswer, events_of, block_size, unsettled, lines_answers, line_text, line_answer_by}
use Rattle.trace_laws.specs.Fits.{ScanFits}

-- ════ The answers that are still to come ════

abbrev pub rest_in : Phase → Scan → List ℕ → List ℕ → List LineAnswer
rest_in Phase.TooLong scan input s = unsettled (Answer.BadLine 1)
rest_in Phase.Settings scan input s = lines_answers (lines_of (drop scan.at input))
rest_in Phase.Events scan input s =
    events_of scan.number scan.policy (rows_of scan.policy s) (lines_of (drop scan.at input))
rest_in Phase.Done scan input s = []

-- at a scan of an input, over the memory lent to it
unfoldable pub answers_from : Scan → List ℕ → List ℕ → List LineAnswer
answers_from scan input s = rest_in scan.phase scan input s

-- ════ What holds of a scan ════

-- the memory lent to it: the block for the rows
pub record Lent (s : List ℕ) : Type 0 where
  pub holds_bytes : Bytes s
  pub block : length s ≡ block_size

-- before the settings line: it is the first one, and there is no policy yet
pub record Starting (scan : Scan) (input : List ℕ) : Type 0 where
  pub first_place : scan.at ≡ 0
  pub first_line_lem : scan.number ≡ 1
  pub no_policy_lem : scan.policy ≡ no_policy
  pub short : length input ≤ longest_input

-- before an event's line: the policy is sound, and no more lines were read than bytes, so that there is a number behind this one's
pub record Reading (scan : Scan) (input s : List ℕ) : Type 0 where
  pub is_sound : sound scan.policy s ≡ true
  pub short : length input ≤ longest_input
  pub inside : scan.at ≤ length input
  pub counted : scan.number ≤ scan.at + 1

abbrev pub RunningIn : Phase → Scan → List ℕ → List ℕ → Type 0
RunningIn Phase.TooLong scan input s = scan.policy ≡ no_policy
RunningIn Phase.Settings scan input s = Starting scan input
RunningIn Phase.Events scan input s = Reading scan input s
RunningIn Phase.Done scan input s = Unit {0}

pub record Running (scan : Scan) (input s : List ℕ) : Type 0 where
  pub fits : ScanFits scan
  pub lent : Lent s
  pub here : RunningIn scan.phase scan input s

-- ════ What a call leaves ════

-- of the answers that were still to come it told the first, with its line, and left a scan at which the others are; or it is done, and
-- there were none
pub data Handing (input : List ℕ) (answers : List LineAnswer) (r : Result Handed Scan) (t : List ℕ) : Type 0 where
  over : (behind : Scan) → r ≡ Err behind → answers ≡ [] → Handing input answers r t
  more : (h : Handed) → r ≡ Ok h → answers ≡ line_answer_by h ∷ answers_from h.scan input t → text_of h.line ≡ line_text (line_answer_by h)
      → Running h.scan input t → Handing input answers r t
