-- `amount::Amount::is_below` meets its contract. What `is_less` says of the two magnitudes, said of the two integers. Assumes nothing.
use Rattle.amount.specs.Amount.{value}
use Rattle.amount.proofs.Amount.is_below.Goals as goal

pub returns : goal.returns
unfolding value
returns c = rw (c.magnitude.ensures, c.magnitude-2.ensures) at c.is_less.ensures
