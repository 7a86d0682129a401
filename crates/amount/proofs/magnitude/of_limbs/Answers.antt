-- `amount::magnitude::of_limbs` meets its contract. Four limbs are two halves of two limbs each. Assumes nothing.
use Rattle.std.proofs.Common.{rules}
use Rattle.std.proofs.Common.{rules}
use Rattle.amount.specs.AmountLaws.{digits_four}
use Rattle.amount.proofs.magnitude.of_limbs.Goals as goal

pub returns : goal.returns
returns c = rw (digits_four c.args.limbs (search rules), c.joined.ensures, c.joined-2.ensures)
