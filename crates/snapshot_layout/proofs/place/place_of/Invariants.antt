-- `place::place_of` meets its contract. The invariant of its loop: the place among all slots is the place among those that are left, and
-- where the last body ends fits. Assumes nothing.
use Rattle.std.proofs.Common.{◌≡◌, ◌+◌, ◌≤◌, length}
use Rattle.snapshot_layout.specs.Layout.{slots, bodies_size, place_from, place_of}
use Rattle.snapshot_layout.proofs.Walk.{slots_left}
use Rattle.snapshot_layout.proofs.place.place_of.Given as goal

abbrev pub invariant-loop-i : goal.invariant-loop-i
invariant-loop-i l = (l.i ≤ length l.kinds) × ((l.from + bodies_size (slots_left l.kinds l.lengths l.i) ≤ 18446744073709551615) × (place_of l.kind (slots l.kinds l.lengths) ≡ place_from l.kind l.from (slots_left l.kinds l.lengths l.i)))
