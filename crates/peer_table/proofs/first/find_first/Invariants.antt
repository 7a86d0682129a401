-- `peer_table::first::find_first` meets its contract. The invariant: the first of all is that of what was found and the rows from the
-- i-th on. Assumes nothing.
use Rattle.std.proofs.Common.{◌≡◌, drop}
use Rattle.table.specs.Table.{nothing, minimum_from}
use Rattle.table.specs.Memory.{rows}
use Rattle.peer_rows.specs.Rows.{peer_layout}
use Rattle.peer_table.specs.Private.{best_of, measure_by}
use Rattle.peer_table.proofs.first.find_first.Given as goal

abbrev pub invariant-loop-i : goal.invariant-loop-i
invariant-loop-i l = minimum_from (measure_by l.banned) nothing 0 (rows peer_layout l.table l.count) ≡ minimum_from (measure_by l.banned) (best_of l.found) l.i (drop l.i (rows peer_layout l.table l.count))
