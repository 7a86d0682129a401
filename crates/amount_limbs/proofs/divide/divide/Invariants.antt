-- `amount_limbs::divide::divide` meets its contract. The invariant: the limbs from i up are divided, and those below i stand as they were (`Reached`).
-- The measure is i. Assumes nothing.
use Rattle.amount_limbs.specs.LongDivisionLaws.{Reached}
use Rattle.amount_limbs.proofs.divide.divide.Given as goal

abbrev pub invariant-loop-i : goal.invariant-loop-i
invariant-loop-i l = Reached l.initial.working l.d l.working l.rest l.i

abbrev pub decreases-loop-i : goal.decreases-loop-i
decreases-loop-i l = l.i
