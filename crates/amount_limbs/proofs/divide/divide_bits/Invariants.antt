-- `amount_limbs::divide::divide_bits` meets its contract. The invariant: the bits that were brought down are divided, and `left` has the others on top
-- (`BitsReached`). Assumes nothing.
use Rattle.std.proofs.Common.{◌*◌, ◌+◌}
use Rattle.amount_limbs.specs.LongDivisionLaws.{BitsReached}
use Rattle.amount_limbs.proofs.divide.divide_bits.Given as goal

abbrev pub invariant-loop-i : goal.invariant-loop-i
invariant-loop-i l = BitsReached (l.rest * 4294967296 + l.limb) l.d l.quotient l.kept l.left l._i
