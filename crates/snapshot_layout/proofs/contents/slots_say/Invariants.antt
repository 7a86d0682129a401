-- `contents::slots_say` meets its contract. The invariant of its loop: what is told of all slots is what is told of those that are left,
-- and their bodies begin within the snapshot. Assumes nothing.
use Rattle.std.proofs.Common.{◌≡◌, ◌≤◌, length}
use Rattle.snapshot_layout.specs.Layout.{count_size, contents_size, slots, says_from}
use Rattle.snapshot_layout.proofs.Walk.{slot_place, slots_left}
use Rattle.snapshot_layout.proofs.contents.slots_say.Given as goal

abbrev pub invariant-loop-i : goal.invariant-loop-i
invariant-loop-i l = (l.i ≤ length l.kinds) × ((l.from ≤ length l.snapshot) × (says_from l.snapshot count_size (contents_size (length l.kinds)) (slots l.kinds l.lengths) ≡ says_from l.snapshot (slot_place l.i) l.from (slots_left l.kinds l.lengths l.i)))
