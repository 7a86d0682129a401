-- `amount::Amount::from_u64` meets its contract. The magnitude of n is n. Assumes nothing.
use Rattle.std.proofs.Common.{pos, ap}
use Rattle.amount.specs.AmountLaws.{is_moved}
use Rattle.amount.proofs.Amount.from_u64.Goals as goal

pub returns : goal.returns
returns c = is_moved (ap pos c.of_u64.ensures) c.amount_of.ensures
