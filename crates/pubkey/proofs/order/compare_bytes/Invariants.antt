-- `pubkey::order::compare_bytes` meets its contract. The invariant of both loops: what is left from index i compares as the whole does.
-- The measure of the first is what is left of the shorter run. Assumes nothing.
use Rattle.std.proofs.Common.{◌≡◌, ◌-◌, ◌≤◌, drop}
use Rattle.pubkey.specs.Order.{compare_bytes}
use Rattle.pubkey.proofs.order.compare_bytes.Given as goal

abbrev pub invariant-loop-i : goal.invariant-loop-i
invariant-loop-i l = (l.i ≤ l.both) × (compare_bytes l.a l.b ≡ compare_bytes (drop l.i l.a) (drop l.i l.b))

abbrev pub decreases-loop-i : goal.decreases-loop-i
decreases-loop-i l = l.both - l.i

abbrev pub invariant-loop-k : goal.invariant-loop-k
invariant-loop-k l = (l.k ≤ l.both) × (compare_bytes l.a l.b ≡ compare_bytes (drop l.k l.a) (drop l.k l.b))
