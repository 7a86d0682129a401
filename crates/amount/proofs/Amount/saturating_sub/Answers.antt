-- `amount::Amount::saturating_sub` meets its contract. What `sum` says of the two magnitudes, said of the integer and n with its sign turned. Assumes nothing.
use Rattle.amount.specs.Amount.{value}
use Rattle.amount.proofs.Amount.saturating_sub.Goals as goal

pub returns : goal.returns
unfolding value
returns c = rw (c.magnitude.ensures, c.of_u64.ensures) at c.sum.ensures
