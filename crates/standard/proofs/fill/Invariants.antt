-- `standard::fill` is safe and ends, since each turn leaves fewer bytes to read, and what it counts lies within the buffer. Assumes nothing.
use Rattle.std.proofs.Common.{◌≡◌, ◌-◌, ◌≤◌, length}
use Rattle.standard.proofs.fill.Given as goal

abbrev pub invariant-loop-count : goal.invariant-loop-count
invariant-loop-count l = (length l.buffer ≡ length l.initial.buffer) × (l.count ≤ length l.buffer)

abbrev pub decreases-loop-count : goal.decreases-loop-count
decreases-loop-count l = length l.buffer - l.count
