-- A snapshot shown line by line: what `open` and `next` answer, over any scan, input and lent memory. Definitions only.
use Rattle.std.specs.Prelude.{◌≡◌, Bool, true, false, cond, List, [], ◌∷◌, ℕ, ◌+◌, ltb, eqb, length, take}
use Rattle.std.specs.Prelude.{Result, Ok, Err, Option, Some, None}
use Rattle.refusal.specs.declared.Refusal.{Refusal}
use Rattle.refusal.specs.declared.Refusal.TheVariants as Refusal
use Rattle.refusal.specs.Refusal.{Said, gives, number_of}
use Rattle.peer_message_policy.specs.declared.policy.PeerMessagePolicy.{PeerMessagePolicy}
use Rattle.snapshot.specs.Form.{first, rows_place}
use Rattle.snapshot.specs.Snapshot.{ReadMeets}
use Rattle.snapshot_reader.specs.declared.row.RowStep.{RowStep}
use Rattle.snapshot_reader.specs.Reader.{step_at}
use Rattle.text_pieces.specs.Text.{refusal_text}
use Rattle.snapshot_text.specs.declared.line.ShownLine.{ShownLine}
use Rattle.snapshot_text.specs.declared.scan.Scan.{Scan}
use Rattle.snapshot_text.specs.declared.scan.Handed.{Handed}
use Rattle.snapshot_text.specs.Shown.{line_of, field_line, head_text, row_text, longest_snapshot}

-- ════ Open ════

-- a scan at its first line
abbrev pub begun : Result PeerMessagePolicy Refusal → Scan
begun made = record { made = made; line = 0; at = rows_place first }

-- an input that is too long is refused and leaves the table; any other is read into it
abbrev pub OpenBy : Bool → List ℕ → List ℕ → Scan → List ℕ → Type 0
OpenBy true z before r after = (r ≡ begun (Err Refusal.WrongLayout)) × (after ≡ before)
OpenBy false z before r after = (made : Result PeerMessagePolicy Refusal) × (r ≡ begun made) × ReadMeets first z before made after

unfoldable pub OpenMeets : List ℕ → List ℕ → Scan → List ℕ → Type 0
OpenMeets z before r after = OpenBy (ltb longest_snapshot (length z)) z before r after

-- ════ Next ════

-- a line before the rows, and the scan behind it
abbrev pub following : Scan → ShownLine → Handed
following scan text = record { line = text; scan = record { made = scan.made; line = scan.line + 1; at = scan.at } }

-- the step of a row: its line, and the scan at the step's place; where no row was given, no line
abbrev pub row_handed : Scan → Result (Option RowStep) Refusal → Option Handed
row_handed scan (Ok (Some step)) =
    Some (record { line = line_of (row_text step.row.key.bytes step.row.entry); scan = record { made = scan.made; line = scan.line; at = step.at } })
row_handed scan (Ok None) = None
row_handed scan (Err n) = None

-- how many lines name a number
abbrev pub numbers : ℕ
numbers = 12

-- behind the numbers' lines: the head where there are rows, and then the rows
abbrev pub behind_numbers : Scan → PeerMessagePolicy → List ℕ → Option Handed
behind_numbers scan p z =
    cond (ltb numbers scan.line) (row_handed scan (step_at z scan.at))
    (cond (eqb p.rows 0) None (Some (following scan (line_of head_text))))

unfoldable pub policy_next : Scan → PeerMessagePolicy → List ℕ → Option Handed
policy_next scan p z =
    cond (ltb scan.line numbers)
    (Some (following scan (line_of (field_line p scan.line))))
    (behind_numbers scan p z)

-- a refusal has one line
unfoldable pub refused_next : Scan → Refusal → Option Handed
refused_next scan n = cond (ltb 0 scan.line) None (Some (following scan (line_of (refusal_text (number_of n)))))

abbrev pub next_by : Result PeerMessagePolicy Refusal → Scan → List ℕ → Option Handed
next_by (Ok p) scan z = policy_next scan p z
next_by (Err n) scan z = refused_next scan n

-- the next line and the scan behind it, or that it is done
unfoldable pub next_of : Scan → List ℕ → Option Handed
next_of scan z = next_by scan.made scan z

-- ════ What a caller of `next` gets ════

-- the text of a line
abbrev pub text_of : ShownLine → List ℕ
text_of line = take line.length line.bytes

-- the line's text; where it is done, that is empty
abbrev pub handed_says : Option Handed → Said
handed_says (Some h) = gives (text_of h.line)
handed_says None = gives []

-- `next` called again and again on an input, each call with the scan that the one before it left, hands out these lines, and is done
pub data HandsOut (z : List ℕ) : Scan → List (List ℕ) → Type 0 where
  ends : {scan : Scan} → next_of scan z ≡ None → HandsOut z scan []
  hands : {scan : Scan} {r : Handed} {others : List (List ℕ)} → next_of scan z ≡ Some r → HandsOut z r.scan others
      → HandsOut z scan (text_of r.line ∷ others)
