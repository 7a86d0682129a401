-- The words that a snapshot is shown with, as bytes. Definitions only.
use Rattle.std.specs.Prelude.{List, ℕ}
use Rattle.decimal.specs.Ascii.{ascii}

-- ════ The names of the numbers: nine settings, the load in flight, the rows ════

abbrev pub interval_name : List ℕ
interval_name = ascii "peer_message_interval_ms"

abbrev pub burst_name : List ℕ
burst_name = ascii "peer_message_burst"

abbrev pub rate_name : List ℕ
rate_name = ascii "peer_message_rate_bytes_per_sec"

abbrev pub burst_bytes_name : List ℕ
burst_bytes_name = ascii "peer_message_burst_bytes"

abbrev pub threshold_name : List ℕ
threshold_name = ascii "violation_ban_threshold"

abbrev pub duration_name : List ℕ
duration_name = ascii "ban_duration_ms"

abbrev pub tracked_name : List ℕ
tracked_name = ascii "max_tracked_peers"

abbrev pub max_messages_name : List ℕ
max_messages_name = ascii "max_in_flight_messages"

abbrev pub max_bytes_name : List ℕ
max_bytes_name = ascii "max_in_flight_bytes"

abbrev pub load_messages_name : List ℕ
load_messages_name = ascii "in_flight_messages"

abbrev pub load_bytes_name : List ℕ
load_bytes_name = ascii "in_flight_bytes"

abbrev pub rows_name : List ℕ
rows_name = ascii "rows"

-- ════ The heads of the rows' columns ════

abbrev pub key_head : List ℕ
key_head = ascii "key"

abbrev pub messages_head : List ℕ
messages_head = ascii "messages"

abbrev pub refilled_head : List ℕ
refilled_head = ascii "refilled"

abbrev pub bytes_head : List ℕ
bytes_head = ascii "bytes"

abbrev pub limited_head : List ℕ
limited_head = ascii "limited"

abbrev pub since_head : List ℕ
since_head = ascii "since"

abbrev pub invalid_head : List ℕ
invalid_head = ascii "invalid"

abbrev pub ban_head : List ℕ
ban_head = ascii "ban"

abbrev pub until_head : List ℕ
until_head = ascii "until"

abbrev pub last_used_head : List ℕ
last_used_head = ascii "last_used"
