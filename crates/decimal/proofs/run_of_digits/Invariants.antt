-- `decimal::run_of_digits` meets its contract. The invariant of its loop: the digits from place i on make of the value so far what
-- all of them make of 0, and the value is within the bound. Assumes nothing.
use Rattle.std.proofs.Common.{◌≡◌, ◌≤◌}
use Rattle.decimal.proofs.Loops.{outcome}
use Rattle.decimal.proofs.run_of_digits.Given as goal

abbrev pub invariant-loop-i : goal.invariant-loop-i
invariant-loop-i l = (outcome l.text l.at 0 l.most ≡ outcome l.text l.i l.value l.most) × (l.value ≤ l.most)
