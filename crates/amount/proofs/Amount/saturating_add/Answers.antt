-- `amount::Amount::saturating_add` meets its contract. What `sum` says of the two magnitudes, said of the two integers. Assumes nothing.
use Rattle.amount.specs.Amount.{value}
use Rattle.amount.proofs.Amount.saturating_add.Goals as goal

pub returns : goal.returns
unfolding value
returns c = rw (c.magnitude.ensures, c.magnitude-2.ensures) at c.sum.ensures
