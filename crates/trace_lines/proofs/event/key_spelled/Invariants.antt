-- `trace_lines::event::key_spelled` meets its contract. The invariant of its loop: the bytes from the i-th on, written over those that stand
-- there, give the key, and all of the key is spelled where all of them are. The measure is how many are left. Assumes nothing.
use Rattle.std.proofs.Common.{◌≡◌, ◌-◌, ◌≤◌, length}
use Rattle.lent_bytes.specs.LentBytes.{put}
use Rattle.trace_lines.specs.Lines.{key_size, key_bytes, all_spelled}
use Rattle.trace_lines.proofs.Hex.{rest}
use Rattle.trace_lines.proofs.event.key_spelled.Given as goal

abbrev pub invariant-loop-i : goal.invariant-loop-i
invariant-loop-i l = (all_spelled (key_bytes l.line l.step) ≡ all_spelled (rest l.line l.step l.i)) × ((put l.bytes l.i (rest l.line l.step l.i) ≡ key_bytes l.line l.step) × ((l.i ≤ key_size) × (length l.bytes ≡ key_size)))

abbrev pub decreases-loop-i : goal.decreases-loop-i
decreases-loop-i l = key_size - l.i
