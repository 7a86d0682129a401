-- The peers' rows: how an entry stands in its 88 bytes behind the key, and the rule that each row keeps. Definitions only.
use Rattle.std.specs.Prelude.{Bool, List, [], ◌∷◌, ℕ}
use Rattle.lent_bytes.specs.LentBytes.{part}
use Rattle.table.specs.Table.{Row}
use Rattle.table.specs.Memory.{Layout, word_bytes, word_of, row_of}
use Rattle.peer_settings.specs.declared.config.PeerMessagePolicyConfig.{PeerMessagePolicyConfig}
use Rattle.peer_state.specs.declared.entry.PeerMessagePolicyEntry.{PeerMessagePolicyEntry}
use Rattle.peer_state.specs.Entry.{level, window, ban, entry_sound}

-- ════ Widths, in bytes ════

-- of a key
abbrev pub key_width : ℕ
key_width = 33

-- of a row: its key, and eleven numbers of eight bytes behind it
abbrev pub row_width : ℕ
row_width = 121

-- ════ A row ════

-- the eleven numbers of an entry, in the order of the row
unfoldable pub entry_words : PeerMessagePolicyEntry → List ℕ
entry_words e =
    e.messages.available
    ∷ e.messages.last_refill_ms
    ∷ e.bytes.available
    ∷ e.bytes.last_refill_ms
    ∷ e.rate_limit_violations.count
    ∷ e.rate_limit_violations.started_at_ms
    ∷ e.invalid_messages.count
    ∷ e.invalid_messages.started_at_ms
    ∷ e.ban.mark
    ∷ e.ban.until_ms
    ∷ e.last_used_ms
    ∷ []

-- the entry that bytes spell
unfoldable pub entry_of : List ℕ → PeerMessagePolicyEntry
entry_of s =
    record {
      messages = level (word_of s 0) (word_of s 1);
      bytes = level (word_of s 2) (word_of s 3);
      rate_limit_violations = window (word_of s 4) (word_of s 5);
      invalid_messages = window (word_of s 6) (word_of s 7);
      ban = ban (word_of s 8) (word_of s 9);
      last_used_ms = word_of s 10;
    }

-- how a row stands in bytes
abbrev pub peer_layout : Layout PeerMessagePolicyEntry
peer_layout = record { key_width = key_width; width = row_width; encode = λ e. word_bytes (entry_words e); decode = entry_of }

-- the row whose bytes begin at a place
abbrev pub row_from : List ℕ → ℕ → Row PeerMessagePolicyEntry
row_from s at = row_of peer_layout (part s at row_width)

-- the rows of a policy, each peer's by its key
abbrev pub Peers : Type 0
Peers = List (Row PeerMessagePolicyEntry)

-- the rule of a peer's row: its entry keeps the entry's own rules
abbrev pub peer_sound : PeerMessagePolicyConfig → Row PeerMessagePolicyEntry → Bool
peer_sound c r = entry_sound c r.entry
