-- What is shown of a snapshot: the whole text. Definitions only.
--
-- A line for each number with its name, then the rows as a table; or one line with the refusal that reading the snapshot comes to.
use Rattle.std.specs.Prelude.{cond, ℕ, ◌+◌, ◌-◌, ltb, length, get_or, drop}
use Rattle.std.specs.Prelude.{Result, Ok, Err}
use Rattle.refusal.specs.declared.Refusal.{Refusal}
use Rattle.refusal.specs.declared.Refusal.TheVariants as Refusal
use Rattle.refusal.specs.Refusal.{number_of}
use mathlib.Core.List.{List, [], ◌∷◌, ◌++◌, map, flatten}
use Rattle.lent_bytes.specs.LentBytes.{zeros}
use Rattle.table.specs.Table.{Row}
use Rattle.peer_state.specs.declared.entry.PeerMessagePolicyEntry.{PeerMessagePolicyEntry}
use Rattle.peer_rows.specs.Rows.{entry_words, Peers}
use Rattle.peer_message_policy.specs.declared.policy.PeerMessagePolicy.{PeerMessagePolicy}
use Rattle.peer_message_policy.specs.Policy.{rows_of}
use Rattle.snapshot.specs.Form.{first, rows_place}
use Rattle.snapshot.specs.Snapshot.{policy_in}
use Rattle.decimal.specs.Ascii.{newline}
use Rattle.text_pieces.specs.Text.{blanks, column_text, columns_text, hex_text, refusal_text}
use Rattle.snapshot_text.specs.declared.line.ShownLine.{ShownLine}
use Rattle.snapshot_text.specs.Words.{
  interval_name,
  burst_name,
  rate_name,
  burst_bytes_name,
  threshold_name,
  duration_name,
  tracked_name,
  max_messages_name,
  max_bytes_name,
  load_messages_name,
  load_bytes_name,
  rows_name,
  key_head,
  messages_head,
  refilled_head,
  bytes_head,
  limited_head,
  since_head,
  invalid_head,
  ban_head,
  until_head,
  last_used_head,
}

-- ════ A named number ════

pub record Field : Type 0 where
  pub name : List ℕ
  pub number : ℕ

abbrev pub field : List ℕ → ℕ → Field
field name number = record { name = name; number = number }

-- the numbers of a policy, each by its name
unfoldable pub fields_of : PeerMessagePolicy → List Field
fields_of p =
    field interval_name p.config.peer_message_interval_ms
    ∷ field burst_name p.config.peer_message_burst
    ∷ field rate_name p.config.peer_message_rate_bytes_per_sec
    ∷ field burst_bytes_name p.config.peer_message_burst_bytes
    ∷ field threshold_name p.config.violation_ban_threshold
    ∷ field duration_name p.config.ban_duration_ms
    ∷ field tracked_name p.config.max_tracked_peers
    ∷ field max_messages_name p.config.max_in_flight_messages
    ∷ field max_bytes_name p.config.max_in_flight_bytes
    ∷ field load_messages_name p.ingress.in_flight_messages
    ∷ field load_bytes_name p.ingress.in_flight_bytes
    ∷ field rows_name p.rows
    ∷ []

-- the place that the number of a named line ends at, without the blank before it: a name has at most 31 places, a number 20
abbrev pub numbers_end : ℕ
numbers_end = 51

-- a name, and the number so that all such lines end alike
unfoldable pub field_text : List ℕ → ℕ → List ℕ
field_text name number = name ++ (column_text (numbers_end - length name) number ++ (newline ∷ []))

abbrev pub field_text_of : Field → List ℕ
field_text_of f = field_text f.name f.number

-- the line of the number at an index
abbrev pub field_line : PeerMessagePolicy → ℕ → List ℕ
field_line p index = field_text_of (get_or (fields_of p) index (field [] 0))

-- ════ The rows ════

-- how many places a row's number has, and a key: two digits for each of its 33 bytes
abbrev pub row_column : ℕ
row_column = 13

abbrev pub key_places : ℕ
key_places = 66

-- the head of a number's column: as the numbers, with a blank before it
abbrev pub column_head : List ℕ → List ℕ
column_head word = blanks ((1 + row_column) - length word) ++ word

-- the heads
unfoldable pub head_text : List ℕ
head_text =
    (key_head ++ blanks (key_places - length key_head))
    ++ flatten
    (column_head messages_head
    ∷ column_head refilled_head
    ∷ column_head bytes_head
    ∷ column_head refilled_head
    ∷ column_head limited_head
    ∷ column_head since_head
    ∷ column_head invalid_head
    ∷ column_head since_head
    ∷ column_head ban_head
    ∷ column_head until_head
    ∷ column_head last_used_head
    ∷ (newline ∷ [])
    ∷ [])

-- a row: its key in hex digits, and its eleven numbers
unfoldable pub row_text : List ℕ → PeerMessagePolicyEntry → List ℕ
row_text key e = hex_text key ++ (columns_text row_column (entry_words e) ++ (newline ∷ []))

abbrev pub row_line : Row PeerMessagePolicyEntry → List ℕ
row_line r = row_text r.key r.entry

-- the rows as a table; without rows nothing, and no heads
abbrev pub rows_shown : Peers → List (List ℕ)
rows_shown [] = []
rows_shown (r ∷ rs) = head_text ∷ map row_line (r ∷ rs)

-- ════ The whole ════

-- a policy with its rows
abbrev pub policy_shown : PeerMessagePolicy → Peers → List (List ℕ)
policy_shown p rs = map field_text_of (fields_of p) ++ rows_shown rs

-- what reading a snapshot came to
abbrev pub made_shown : List ℕ → Result PeerMessagePolicy Refusal → List (List ℕ)
made_shown z (Ok p) = policy_shown p (rows_of p (drop (rows_place first) z))
made_shown z (Err n) = refusal_text (number_of n) ∷ []

-- the longest snapshot: that of 1,024 rows
abbrev pub longest_snapshot : ℕ
longest_snapshot = 124024

-- what reading an input comes to, in a table with room for every limit: what is longer than any snapshot has a wrong layout
unfoldable pub made_of : List ℕ → Result PeerMessagePolicy Refusal
made_of z = cond (ltb longest_snapshot (length z)) (Err Refusal.WrongLayout) (policy_in first z)

-- the lines that are shown of an input
unfoldable pub shown_lines : List ℕ → List (List ℕ)
shown_lines z = made_shown z (made_of z)

-- the text that is shown of an input
unfoldable pub shown_text : List ℕ → List ℕ
shown_text z = flatten (shown_lines z)

-- ════ Lines ════

-- how many bytes a line is written in: the longest, a row's, has 298
abbrev pub line_size : ℕ
line_size = 300

-- a text as a line, the unused bytes zero
abbrev pub line_of : List ℕ → ShownLine
line_of text = record { bytes = text ++ zeros (line_size - length text); length = length text }
