-- `amount_limbs::divide::divide_bits` meets its contract.
use Rattle.amount_limbs.specs.LongDivisionLaws.{one_bit}
use Rattle.amount_limbs.proofs.divide.divide_bits.Goals as goal

pub loop-i-preserved : goal.loop-i-preserved
loop-i-preserved c =
    let bit = c.divide_bit-step in
    one_bit bit.result.quotient bit.result.rest c.loop-i.invariant c.loop-i-test.true bit.ensures
