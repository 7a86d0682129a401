-- `amount::Amount::is_negative` meets its contract. What `is_less` says of the magnitude and 0, said of the amount's integer. Assumes nothing.
use Rattle.amount.specs.Amount.{value}
use Rattle.amount.proofs.Amount.is_negative.Goals as goal

pub returns : goal.returns
unfolding value
returns c = rw (c.magnitude.ensures, c.of_u64.ensures) at c.is_less.ensures
