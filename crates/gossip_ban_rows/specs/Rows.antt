-- The rows of the gossip bans: how an entry stands in its 32 bytes behind the key, and the rule that each row keeps. Definitions only.
use Rattle.std.specs.Prelude.{Bool, List, [], ◌∷◌, ℕ, get_or}
use Rattle.table.specs.Table.{Row}
use Rattle.table.specs.Memory.{Layout}
use Rattle.table_laws.specs.Words.{Numbers, word_layout}
use Rattle.gossip_ban_rows.specs.declared.entry.GossipBanEntry.{GossipBanEntry}
use Rattle.gossip_ban_rows.specs.Entry.{ban_entry, entry_sound}

-- ════ Widths, in bytes ════

-- of a key
abbrev pub key_width : ℕ
key_width = 33

-- of a row: its key, and four numbers of eight bytes behind it
abbrev pub row_width : ℕ
row_width = 65

-- ════ A row ════

-- the four numbers of an entry, in the order of the row
abbrev pub entry_words : GossipBanEntry → List ℕ
entry_words e = e.score ∷ e.mark ∷ e.until_ms ∷ e.last_updated_ms ∷ []

-- an entry as numbers
abbrev pub ban_numbers : Numbers GossipBanEntry
ban_numbers =
    record {
      count = 4;
      words_of = entry_words;
      of_words = λ ws. ban_entry (get_or ws 0 0) (get_or ws 1 0) (get_or ws 2 0) (get_or ws 3 0);
    }

-- how a row stands in bytes
abbrev pub ban_layout : Layout GossipBanEntry
ban_layout = word_layout key_width row_width ban_numbers

-- the rows of a tracker, each peer's by its key
abbrev pub Bans : Type 0
Bans = List (Row GossipBanEntry)

-- the rule of a row: its entry keeps the entry's own rules
abbrev pub ban_sound : Row GossipBanEntry → Bool
ban_sound r = entry_sound r.entry
