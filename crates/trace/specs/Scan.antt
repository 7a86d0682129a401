-- The scan of an input: what `open` and `next` answer, over any scan, input and lent memory. Definitions only.
use Rattle.std.specs.Prelude.{◌≡◌, Bool, true, false, cond, List, [], ◌∷◌, ℕ, ◌+◌, leb, ltb, eqb, length, take, drop}
use Rattle.std.specs.Prelude.{Option, Some, None}
use Rattle.std.specs.Prelude.{Result, Ok, Err}
use Rattle.refusal.specs.declared.Refusal.{Refusal}
use Rattle.decimal.specs.Ascii.{newline}
use Rattle.refusal.specs.Refusal.{Said, gives, refused, number_of}
use Rattle.peer_settings.specs.Config.{config_default, limit}
use Rattle.peer_message_policy.specs.declared.policy.PeerMessagePolicy.{PeerMessagePolicy}
use Rattle.peer_message_policy.specs.Calls.{Outcome, Meets, refuse, fresh, new_outcome}
use Rattle.trace_lines.specs.declared.line.TraceLine.{TraceLine}
use Rattle.trace_lines.specs.declared.event.Event.{Event}
use Rattle.trace_lines.specs.Lines.{largest64, settings_of, event_of, bad_event, line_of}
use Rattle.trace.specs.declared.step.Stop.{Stop}
use Rattle.trace.specs.declared.scan.Phase.{Phase}
use Rattle.trace.specs.declared.scan.Scan.{Scan}
use Rattle.trace.specs.declared.scan.Handed.{Handed}
use Rattle.trace.specs.declared.step.Answer.{Answer}
use Rattle.trace.specs.declared.step.Stepped.{Stepped}
use Rattle.trace.specs.Step.{mapped, stopped, spoken, spoken_text, step_outcome}
use Rattle.peer_settings.specs.declared.config.PeerMessagePolicyConfig.{PeerMessagePolicyConfig}

-- ════ Lines of an input ════

abbrev pub joined : ℕ → Option (List ℕ) → Option (List ℕ)
joined b None = None
joined b (Some line) = Some (b ∷ line)

-- the first line of a text, without its newline; none where no newline stands
unfoldable pub first_line : List ℕ → Option (List ℕ)
first_line [] = None
first_line (b ∷ more) = cond (eqb b newline) (Some []) (joined b (first_line more))

-- the number of the line behind one; the largest number has none behind it
unfoldable pub following : ℕ → ℕ
following number = cond (eqb number largest64) number (number + 1)

-- ════ What a call hands out ════

-- the answer to a line that is no event's, behind which nothing more is read
abbrev pub last : Scan → Answer → Handed
last scan answer =
    record {
      event = bad_event;
      answer = answer;
      line = line_of (spoken_text scan.policy (spoken answer));
      scan = record { at = scan.at; number = scan.number; policy = scan.policy; phase = Phase.Done };
    }

abbrev pub phase_behind : Bool → Phase
phase_behind true = Phase.Events
phase_behind false = Phase.Done

-- an event with its answer and its line, and the scan at the place behind it
abbrev pub moved : Scan → ℕ → Event → Stepped → Handed
moved scan at event step =
    record {
      event = event;
      answer = step.answer;
      line = step.line;
      scan = record { at = at; number = following scan.number; policy = step.policy; phase = phase_behind step.goes_on };
    }

-- ════ The event's line ════

abbrev pub line_outcome : Scan → Option (List ℕ) → List ℕ → Outcome (Result Handed Scan)
line_outcome scan None s = refuse (Ok (last scan (Answer.BadLine scan.number)))
line_outcome scan (Some line) s =
    mapped (λ step. Ok (moved scan (scan.at + length line + 1) (event_of line) step)) (step_outcome scan.policy s (event_of line) scan.number)

-- at the end of the input it is done, with the scan as it was
unfoldable pub events_outcome : Scan → List ℕ → List ℕ → Outcome (Result Handed Scan)
events_outcome scan input s =
    cond (leb (length input) scan.at) (refuse (Err scan)) (line_outcome scan (first_line (drop scan.at input)) s)

unfoldable pub EventsMeets : Scan → List ℕ → List ℕ → Result Handed Scan → List ℕ → Type 0
EventsMeets scan input before r after = Meets r before after scan.policy.rows (events_outcome scan input before)

-- ════ The settings line ════

abbrev pub made_settled : Result PeerMessagePolicy Refusal → Result PeerMessagePolicy Stop
made_settled (Ok p) = Ok p
made_settled (Err n) = Err (Stop.Refused n)

-- of the line with this number
abbrev pub settle_outcome : Option PeerMessagePolicyConfig → ℕ → List ℕ → Outcome (Result PeerMessagePolicy Stop)
settle_outcome None number s = refuse (Err (Stop.BadLine number))
settle_outcome (Some c) number s = mapped made_settled (new_outcome c s)

-- the places that a policy with these settings has
abbrev pub places : Option PeerMessagePolicyConfig → ℕ
places None = 0
places (Some c) = limit c

unfoldable pub SettleMeets : List ℕ → ℕ → List ℕ → Result PeerMessagePolicy Stop → List ℕ → Type 0
SettleMeets line number before r after = Meets r before after (places (settings_of line)) (settle_outcome (settings_of line) number before)

-- the scan with a policy, at the place behind the settings line
abbrev pub settled_scan : Scan → List ℕ → PeerMessagePolicy → Scan
settled_scan scan line p =
    record { at = scan.at + length line + 1; number = following scan.number; policy = p; phase = Phase.Events }

-- behind good settings the first event's line; the memory that the settings left is what it finds
abbrev pub SettledMeets : Scan → List ℕ → Result PeerMessagePolicy Stop → List ℕ → List ℕ → Result Handed Scan → List ℕ → Type 0
SettledMeets scan line (Ok p) input before r after = EventsMeets (settled_scan scan line p) input before r after
SettledMeets scan line (Err stop) input before r after = (r ≡ Ok (last scan (stopped stop))) × (after ≡ before)

abbrev pub SettingsBy : Scan → Option (List ℕ) → List ℕ → List ℕ → Result Handed Scan → List ℕ → Type 0
SettingsBy scan None input before r after = (r ≡ Ok (last scan (Answer.BadLine scan.number))) × (after ≡ before)
SettingsBy scan (Some line) input before r after =
    (a : Result PeerMessagePolicy Stop) × (middle : List ℕ) × SettleMeets line scan.number before a middle × SettledMeets scan line a input middle r after

unfoldable pub SettingsMeets : Scan → List ℕ → List ℕ → Result Handed Scan → List ℕ → Type 0
SettingsMeets scan input before r after = SettingsBy scan (first_line (drop scan.at input)) input before r after

-- ════ Open and next ════

-- the longest input that is read
abbrev pub longest_input : ℕ
longest_input = 65536

-- what stands for the policy before the settings line is read
abbrev pub no_policy : PeerMessagePolicy
no_policy = fresh config_default

unfoldable pub open_of : List ℕ → Scan
open_of input =
    record { at = 0; number = 1; policy = no_policy; phase = cond (ltb longest_input (length input)) Phase.TooLong Phase.Settings }

abbrev pub NextIn : Phase → Scan → List ℕ → List ℕ → Result Handed Scan → List ℕ → Type 0
NextIn Phase.TooLong scan input before r after = (r ≡ Ok (last scan (Answer.BadLine 1))) × (after ≡ before)
NextIn Phase.Settings scan input before r after = SettingsMeets scan input before r after
NextIn Phase.Events scan input before r after = EventsMeets scan input before r after
NextIn Phase.Done scan input before r after = (r ≡ Err scan) × (after ≡ before)

unfoldable pub NextMeets : Scan → List ℕ → List ℕ → Result Handed Scan → List ℕ → Type 0
NextMeets scan input before r after = NextIn scan.phase scan input before r after

-- ════ What the answers say ════

abbrev pub settled_says : Result PeerMessagePolicy Stop → Said
settled_says (Ok p) = gives []
settled_says (Err (Stop.Refused n)) = refused (number_of n)
settled_says (Err (Stop.BadLine number)) = gives []

abbrev pub line_end_says : Option ℕ → Said
line_end_says (Some i) = gives (i ∷ [])
line_end_says None = gives []

-- the text of a line
abbrev pub text_of : TraceLine → List ℕ
text_of line = take line.length line.bytes

-- the line's text; where it is done, that is empty
abbrev pub handed_says : Result Handed Scan → Said
handed_says (Ok h) = gives (text_of h.line)
handed_says (Err scan) = gives []
