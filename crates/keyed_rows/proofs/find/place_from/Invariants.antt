-- `keyed_rows::find::place_from` meets its contract. The invariant: the key's place is that among the rows from the i-th on, and the
-- last i is the count, or the first index where that is more. Assumes nothing.
use Rattle.std.proofs.Common.{◌≡◌, ◌≤◌, max, length, drop}
use Rattle.table.specs.Private.{place_from}
use Rattle.table.specs.Memory.{rows}
use Rattle.table_laws.specs.Raw.{raw_layout}
use Rattle.keyed_rows.proofs.find.place_from.Given as goal

abbrev pub invariant-loop-i : goal.invariant-loop-i
invariant-loop-i l =
    (place_from l.from l.key (drop l.from (rows (raw_layout (length l.key) l.width) l.table l.count))
    ≡ place_from l.i l.key (drop l.i (rows (raw_layout (length l.key) l.width) l.table l.count)))
    × (l.i ≤ max l.count l.from)
