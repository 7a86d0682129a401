-- `amount::signed::limit` meets its contract. Both ends compute. Assumes nothing.
use Rattle.std.proofs.Common.{refl}
use Rattle.amount.specs.Amount.{value, minus_zero, saturated}
use Rattle.amount.proofs.signed.limit.Goals as goal

pub returns-then-negative : goal.returns-then-negative
unfolding value minus_zero saturated
returns-then-negative c = rw c.if-negative.true (record { stands = refl; plain = refl })

pub returns : goal.returns
unfolding value minus_zero saturated
returns c = rw c.if-negative.false (record { stands = refl; plain = refl })
