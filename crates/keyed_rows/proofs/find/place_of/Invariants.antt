-- `keyed_rows::find::place_of` meets its contract. The invariant: the key's place is that among the rows from the i-th on, which
-- `find_passes` of `WalkLaws` keeps. The measure is how many are left. Assumes nothing.
use Rattle.std.proofs.Common.{◌≡◌, ◌-◌, length, drop}
use Rattle.table.specs.Private.{place_from}
use Rattle.table.specs.Memory.{rows}
use Rattle.table_laws.specs.Raw.{raw_layout}
use Rattle.keyed_rows.proofs.find.place_of.Given as goal

abbrev pub invariant-loop-passed : goal.invariant-loop-passed
invariant-loop-passed l =
    place_from 0 l.key (rows (raw_layout (length l.key) l.width) l.table l.count)
    ≡ place_from l.passed l.key (drop l.passed (rows (raw_layout (length l.key) l.width) l.table l.count))

abbrev pub decreases-loop-passed : goal.decreases-loop-passed
decreases-loop-passed l = l.count - l.passed
