-- Laws of the rows of the gossip bans: entries and their bytes are read back from one another, and the numbers of a row by their places.
-- Assumes nothing.
use Rattle.std.specs.Prelude.{◌≡◌, refl, List, ℕ, ◌+◌}
use Rattle.std.proofs.Common.{arith}
use Rattle.lent_bytes.specs.LentBytes.{part, le}
use Rattle.table.specs.Memory.{row_of}
use Rattle.table.specs.MemoryLaws.{Faithful}
use Rattle.table_laws.specs.Words.{NumbersFit}
use Rattle.table_laws.specs.WordsLaws.{words_faithful, word_place}
use Rattle.gossip_ban_rows.specs.declared.entry.GossipBanEntry.{GossipBanEntry}
use Rattle.gossip_ban_rows.specs.Entry.{ban_entry}
use Rattle.gossip_ban_rows.specs.Rows.{key_width, row_width, ban_numbers, ban_layout}

-- an entry's numbers fit eight bytes each: those of any entry that a program holds do
abbrev pub EntryFits : GossipBanEntry → Type 0
EntryFits = NumbersFit ban_numbers

-- entries stand in their rows and are read back
pub ban_faithful : Faithful ban_layout EntryFits
ban_faithful = words_faithful key_width row_width ban_numbers (omega arith) refl (λ e. refl) (λ e. refl) (λ s. refl)

-- the entry of the row at a place
pub entry_places_lem : (s : List ℕ) (at : ℕ) → (row_of ban_layout (part s at row_width)).entry
    ≡ ban_entry (le (part s (at + key_width) 8)) (le (part s (at + (key_width + 8)) 8)) (le (part s (at + (key_width + 16)) 8)) (le (part s (at + (key_width + 24)) 8))
unfolding row_of
entry_places_lem s at =
    rw (
      word_place s at key_width row_width 0 (at + key_width) (omega arith) (omega arith),
      word_place s at key_width row_width 1 (at + (key_width + 8)) (omega arith) (omega arith),
      word_place s at key_width row_width 2 (at + (key_width + 16)) (omega arith) (omega arith),
      word_place s at key_width row_width 3 (at + (key_width + 24)) (omega arith) (omega arith),
    )
