-- The rows of the outbound buckets: how an entry stands in its 32 bytes behind the key, and the rule that each row keeps. Definitions
-- only.
use Rattle.std.specs.Prelude.{Bool, List, [], ◌∷◌, ℕ, get_or}
use Rattle.table.specs.Table.{Row}
use Rattle.table.specs.Memory.{Layout}
use Rattle.table_laws.specs.Words.{Numbers, word_layout}
use Rattle.bucket_terms.specs.declared.limit.ByteRateLimitConfig.{ByteRateLimitConfig}
use Rattle.gossip_outbound_rows.specs.declared.entry.OutboundEntry.{OutboundEntry}
use Rattle.gossip_outbound_rows.specs.Entry.{outbound_entry, entry_sound}

-- ════ Widths, in bytes ════

-- of a key
abbrev pub key_width : ℕ
key_width = 33

-- of a row: its key, and four numbers of eight bytes behind it
abbrev pub row_width : ℕ
row_width = 65

-- ════ A row ════

-- the four numbers of an entry, in the order of the row
abbrev pub entry_words : OutboundEntry → List ℕ
entry_words e = e.sign ∷ e.low ∷ e.high ∷ e.last_refill_ms ∷ []

-- an entry as numbers
abbrev pub outbound_numbers : Numbers OutboundEntry
outbound_numbers =
    record {
      count = 4;
      words_of = entry_words;
      of_words = λ ws. outbound_entry (get_or ws 0 0) (get_or ws 1 0) (get_or ws 2 0) (get_or ws 3 0);
    }

-- how a row stands in bytes
abbrev pub outbound_layout : Layout OutboundEntry
outbound_layout = word_layout key_width row_width outbound_numbers

-- the rows of the peers, each by its key
abbrev pub Buckets : Type 0
Buckets = List (Row OutboundEntry)

-- the rule of a row: its entry keeps the entry's own rules under the peers' settings
abbrev pub outbound_sound : ByteRateLimitConfig → Row OutboundEntry → Bool
outbound_sound c r = entry_sound c r.entry
