-- Private: cited by contracts inside the proved code alone; no entry point's contract rests on it. Definitions only.
use Rattle.std.specs.Prelude.{Bool, true, false, ℕ, Option, Some, None}
use Rattle.std.proofs.Math.Option.{none, some}
use Rattle.std.proofs.Math.Option as math
use Rattle.table.specs.Table.{Row, Best, nothing, best}
use Rattle.peer_state.specs.declared.entry.PeerMessagePolicyEntry.{PeerMessagePolicyEntry}
use Rattle.peer_table.specs.Room.{ordinary_lru, banned_expirations}

-- the answer of a search: nothing, or the row's index and what it is measured by
abbrev pub best_of : Option (ℕ × ℕ) → Best
best_of None = nothing
best_of (Some found) = best found.0 found.1

-- what a row is measured by, if it takes part
abbrev pub measure_of : Option ℕ → math.Option ℕ
measure_of None = none
measure_of (Some m) = some m

-- what a search goes by: the ends of the bans, or the last use of those without one
abbrev pub measure_by : Bool → Row PeerMessagePolicyEntry → math.Option ℕ
measure_by true = banned_expirations
measure_by false = ordinary_lru
