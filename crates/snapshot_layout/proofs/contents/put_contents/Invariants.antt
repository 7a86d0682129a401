-- `contents::put_contents` meets its contract. The invariant of its loop: the rest of the contents, written where the loop stands, makes
-- the whole, and every body's place is within its field. Assumes nothing.
use Rattle.std.proofs.Common.{◌≡◌, ◌+◌, ◌≤◌, length}
use Rattle.lent_bytes.specs.LentBytes.{put}
use Rattle.snapshot_layout.specs.Layout.{count_size, slots, bodies_size, contents_from}
use Rattle.snapshot_layout.proofs.Walk.{slot_place, slots_left}
use Rattle.snapshot_layout.proofs.contents.put_contents.Given as goal

abbrev pub invariant-loop-i : goal.invariant-loop-i
invariant-loop-i l = (l.i ≤ length l.kinds) × ((l.from + bodies_size (slots_left l.kinds l.lengths l.i) ≤ 4294967295) × ((length l.output ≡ length l.initial.output) × (put l.output (slot_place l.i) (contents_from l.from (slots_left l.kinds l.lengths l.i)) ≡ put l.initial.output count_size (contents_from l.initial.from (slots l.kinds l.lengths)))))
