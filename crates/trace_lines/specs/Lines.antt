-- The lines of the trace program: the settings line, an event's line, and the lines that are written. Definitions only; their
-- laws are in `LinesLaws`. A line is a list of bytes without its newline where it is read, and with it where it is written.
use Rattle.std.specs.Prelude.{Bool, true, false, cond, ◌&&◌, List, [], ◌∷◌, ◌++◌, ℕ, zero, suc, ◌+◌, ◌-◌, ◌*◌, leb, ltb, eqb, length, get_or, replicate}
use Rattle.std.specs.Prelude.{Option, Some, None}
use Rattle.refusal.specs.Refusal.{Said, gives}
use Rattle.decimal.specs.Ascii.{code, ascii, blank, newline}
use Rattle.decimal.specs.Decimal.{is_digit, scan_of}
pub use Rattle.text_pieces.specs.Text.{number_text}
unfoldable pub use Rattle.text_pieces.specs.Text.{refusal_text}
use Rattle.peer_settings.specs.declared.config.PeerMessagePolicyConfig.{PeerMessagePolicyConfig}
use Rattle.pubkey.specs.declared.Pubkey.{Pubkey}
use Rattle.trace_lines.specs.declared.event.Event.{Event}
use Rattle.trace_lines.specs.declared.event.EventKind.{EventKind}
use Rattle.trace_lines.specs.declared.event.EventKind.TheVariants as kind
use Rattle.trace_lines.specs.declared.event.KeyField.{KeyField}
use Rattle.trace_lines.specs.declared.line.TraceLine.{TraceLine}
use Rattle.trace_lines.specs.declared.line.Word.{Word}
use Rattle.trace_lines.specs.declared.line.Word.TheVariants.{Allow, DisconnectMessages, DisconnectBytes, DisconnectCeiling, Ban, Banned, Noted, Free, Closed, Released}

-- ════ Fields of a line ════

-- the largest numbers of 32 and 64 bits: what a field holds
abbrev pub largest32 : ℕ
largest32 = 4294967295

abbrev pub largest64 : ℕ
largest64 = 18446744073709551615

-- the number behind a single blank at a place
unfoldable pub blank_then_number : List ℕ → ℕ → ℕ → Option (ℕ × ℕ)
blank_then_number line at most = cond (eqb (get_or line at 0) blank) (scan_of line (at + 1) most) None

-- the field behind one that ended at its place, a blank between them; behind a bad one there is none
abbrev pub field_of : List ℕ → Option (ℕ × ℕ) → ℕ → Option (ℕ × ℕ)
field_of line (Some (v, at)) most = blank_then_number line at most
field_of line None most = None

-- a field's number
abbrev pub value_of : Option (ℕ × ℕ) → ℕ
value_of (Some (v, at)) = v
value_of None = 0

-- whether a field is good and the line ends behind it
abbrev pub ends_line : List ℕ → Option (ℕ × ℕ) → Bool
ends_line line (Some (v, at)) = eqb at (length line)
ends_line line None = false

-- ════ The settings line: nine numbers in the settings' order, each within its field's width ════

abbrev pub interval : List ℕ → Option (ℕ × ℕ)
interval line = scan_of line 0 largest64

abbrev pub burst : List ℕ → Option (ℕ × ℕ)
burst line = field_of line (interval line) largest32

abbrev pub rate : List ℕ → Option (ℕ × ℕ)
rate line = field_of line (burst line) largest64

abbrev pub burst_bytes : List ℕ → Option (ℕ × ℕ)
burst_bytes line = field_of line (rate line) largest64

abbrev pub threshold : List ℕ → Option (ℕ × ℕ)
threshold line = field_of line (burst_bytes line) largest32

abbrev pub ban_duration : List ℕ → Option (ℕ × ℕ)
ban_duration line = field_of line (threshold line) largest64

abbrev pub max_tracked : List ℕ → Option (ℕ × ℕ)
max_tracked line = field_of line (ban_duration line) largest64

abbrev pub max_messages : List ℕ → Option (ℕ × ℕ)
max_messages line = field_of line (max_tracked line) largest32

abbrev pub max_bytes : List ℕ → Option (ℕ × ℕ)
max_bytes line = field_of line (max_messages line) largest64

-- the settings of nine fields
abbrev pub config_of : Option (ℕ × ℕ) → Option (ℕ × ℕ) → Option (ℕ × ℕ) → Option (ℕ × ℕ) → Option (ℕ × ℕ) → Option (ℕ × ℕ) → Option (ℕ × ℕ) → Option (ℕ × ℕ) → Option (ℕ × ℕ) → PeerMessagePolicyConfig
config_of a b c d e f g h i = record {
  peer_message_interval_ms = value_of a;
  peer_message_burst = value_of b;
  peer_message_rate_bytes_per_sec = value_of c;
  peer_message_burst_bytes = value_of d;
  violation_ban_threshold = value_of e;
  ban_duration_ms = value_of f;
  max_tracked_peers = value_of g;
  max_in_flight_messages = value_of h;
  max_in_flight_bytes = value_of i;
}

-- the settings that a line spells, or bad
unfoldable pub settings_of : List ℕ → Option PeerMessagePolicyConfig
settings_of line =
    cond (ends_line line (max_bytes line))
    (Some (config_of (interval line) (burst line) (rate line) (burst_bytes line) (threshold line)
    (ban_duration line) (max_tracked line) (max_messages line) (max_bytes line)))
    None

-- ════ A key: 66 hex digits, or 2 for 33 equal bytes, from the third byte of a line on ════

-- places of a line: of the blank behind its letter, of its key, and behind the key's first two digits
abbrev pub behind_letter : ℕ
behind_letter = 1

abbrev pub key_place : ℕ
key_place = 2

abbrev pub behind_pair : ℕ
behind_pair = 4

-- how many bytes a key has
abbrev pub key_size : ℕ
key_size = 33

-- the value of a hex digit, lower case; 16 for any other byte
abbrev pub hex_digit : ℕ → ℕ
hex_digit b = cond (is_digit b) (b - code "0") (cond (leb (code "a") b && leb b (code "f")) ((b - code "a") + 10) 16)

-- the byte of two hex digits' values; 256 where one is none
abbrev pub hex_pair : ℕ → ℕ → ℕ
hex_pair high low = cond (ltb high 16 && ltb low 16) (16 * high + low) 256

-- the byte that the two hex digits at a place spell; 256 where one is none
unfoldable pub hex_byte : List ℕ → ℕ → ℕ
hex_byte line at = hex_pair (hex_digit (get_or line at 0)) (hex_digit (get_or line (at + 1) 0))

-- n bytes, each spelled by two digits, `step` places from one to the next
unfoldable pub hex_bytes : List ℕ → ℕ → ℕ → ℕ → List ℕ
hex_bytes line at step zero = []
hex_bytes line at step (suc n) = hex_byte line at ∷ hex_bytes line (at + step) step n

-- whether all of them were spelled
unfoldable pub all_spelled : List ℕ → Bool
all_spelled [] = true
all_spelled (b ∷ more) = ltb b 256 && all_spelled more

-- the zero key
abbrev pub no_key : Pubkey
no_key = record { bytes = replicate key_size 0 }

abbrev pub key_field : List ℕ → Option (ℕ × ℕ) → KeyField
key_field bytes end = record { key = record { bytes = bytes }; end = end }

-- the bytes of a key that stand `step` places apart
abbrev pub key_bytes : List ℕ → ℕ → List ℕ
key_bytes line step = hex_bytes line key_place step key_size

-- a key whose bytes stand `step` places apart, and the place behind it: the one pair of digits serves all where the step is 0
unfoldable pub key_spelled : List ℕ → ℕ → KeyField
key_spelled line step =
    cond (all_spelled (key_bytes line step))
    (key_field (key_bytes line step) (Some (0, behind_pair + (key_size - 1) * step)))
    (record { key = no_key; end = None })

-- how far the bytes of the key stand apart: a blank behind two digits says that these are all
abbrev pub step_of : List ℕ → ℕ
step_of line = cond (eqb (get_or line behind_pair 0) blank) 0 2

-- the key behind the letter and its blank, and the place behind it
unfoldable pub key_of : List ℕ → KeyField
key_of line = cond (eqb (get_or line behind_letter 0) blank) (key_spelled line (step_of line)) (record { key = no_key; end = None })

-- ════ An event's line ════

abbrev pub event : EventKind → Pubkey → ℕ → ℕ → Event
event k key bytes now = record { kind = k; key = key; bytes = bytes; now_ms = now }

abbrev pub bad_event : Event
bad_event = event kind.Bad no_key 0 0

-- `a KEY BYTES NOW`
unfoldable pub admit_of : List ℕ → Event
admit_of line =
    cond (ends_line line (field_of line (field_of line (key_of line).end largest64) largest64))
    (event kind.Admit (key_of line).key (value_of (field_of line (key_of line).end largest64))
    (value_of (field_of line (field_of line (key_of line).end largest64) largest64)))
    bad_event

-- a letter, `KEY NOW`
unfoldable pub keyed_of : EventKind → List ℕ → Event
keyed_of k line =
    cond (ends_line line (field_of line (key_of line).end largest64))
    (event k (key_of line).key 0 (value_of (field_of line (key_of line).end largest64)))
    bad_event

-- `r BYTES`
unfoldable pub release_of : List ℕ → Event
release_of line =
    cond (ends_line line (blank_then_number line behind_letter largest64))
    (event kind.Release no_key (value_of (blank_then_number line behind_letter largest64)) 0)
    bad_event

-- the event of a line that begins with a letter: a, i, b, d or r
abbrev pub event_by : ℕ → List ℕ → Event
event_by letter line =
    cond (eqb letter (code "a")) (admit_of line)
    (cond (eqb letter (code "i")) (keyed_of kind.Invalid line)
    (cond (eqb letter (code "b")) (keyed_of kind.BanQuery line)
    (cond (eqb letter (code "d")) (keyed_of kind.Disconnected line)
    (cond (eqb letter (code "r")) (release_of line) bad_event))))

-- the event that a line spells, or bad; an empty line has no first letter
unfoldable pub event_of : List ℕ → Event
event_of line = event_by (get_or line 0 0) line

-- ════ Lines that are written ════

-- how many bytes a line is written in
abbrev pub line_size : ℕ
line_size = 73

-- a text as a line, the unused bytes zero
abbrev pub line_of : List ℕ → TraceLine
line_of text = record { bytes = text ++ replicate (line_size - length text) 0; length = length text }

-- the word of an answer
abbrev pub word_text : Word → List ℕ
word_text Allow = ascii "Allow"
word_text DisconnectMessages = ascii "Disconnect-messages"
word_text DisconnectBytes = ascii "Disconnect-bytes"
word_text DisconnectCeiling = ascii "Disconnect-ceiling"
word_text Ban = ascii "Ban"
word_text Banned = ascii "Banned"
word_text Noted = ascii "Noted"
word_text Free = ascii "Free"
word_text Closed = ascii "Closed"
word_text Released = ascii "Released"

-- an answer, the messages and bytes in flight, the rows held
unfoldable pub answer_text : Word → ℕ → ℕ → ℕ → List ℕ
answer_text word messages bytes rows =
    word_text word ++ (number_text messages ++ (number_text bytes ++ (number_text rows ++ (newline ∷ []))))

-- `bad line K`
unfoldable pub bad_line_text : ℕ → List ℕ
bad_line_text k = ascii "bad line" ++ (number_text k ++ (newline ∷ []))

-- ════ What the answers say ════

-- the nine numbers in the settings' order; a bad line gives nothing
abbrev pub settings_says : Option PeerMessagePolicyConfig → Said
settings_says (Some c) =
    gives
    (c.peer_message_interval_ms
    ∷ c.peer_message_burst
    ∷ c.peer_message_rate_bytes_per_sec
    ∷ c.peer_message_burst_bytes
    ∷ c.violation_ban_threshold
    ∷ c.ban_duration_ms
    ∷ c.max_tracked_peers
    ∷ c.max_in_flight_messages
    ∷ c.max_in_flight_bytes
    ∷ [])
settings_says None = gives []

-- the letter of an event's kind, then its bytes, its time and its key; a bad line gives nothing
abbrev pub kind_says : EventKind → List ℕ → Said
kind_says kind.Admit values = gives (code "a" ∷ values)
kind_says kind.Invalid values = gives (code "i" ∷ values)
kind_says kind.BanQuery values = gives (code "b" ∷ values)
kind_says kind.Disconnected values = gives (code "d" ∷ values)
kind_says kind.Release values = gives (code "r" ∷ values)
kind_says kind.Bad values = gives []

abbrev pub event_says : Event → Said
event_says e = kind_says e.kind (e.bytes ∷ e.now_ms ∷ e.key.bytes)
