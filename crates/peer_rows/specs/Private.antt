-- Private: cited by contracts inside the proved code alone; no entry point's contract rests on it. Definitions only.
use Rattle.std.specs.Prelude.{List, ℕ, ◌*◌}
use Rattle.peer_state.specs.declared.entry.PeerMessagePolicyEntry.{PeerMessagePolicyEntry}
use Rattle.peer_rows.specs.Rows.{row_width, row_from}

-- the entry of the row at an index
abbrev pub entry_at : List ℕ → ℕ → PeerMessagePolicyEntry
entry_at s i = (row_from s (row_width * i)).entry
