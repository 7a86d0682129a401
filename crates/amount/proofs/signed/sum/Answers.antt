-- `amount::signed::sum` meets its contract. Two signs are equal, or the second is the first turned. Assumes nothing.
use Rattle.amount.proofs.Tests.{beq_same, beq_other}
use Rattle.amount.proofs.signed.sum.Goals as goal

pub returns-then-negative-other : goal.returns-then-negative-other
returns-then-negative-other c = rw (beq_same c.args.negative c.args.other c.if-negative-other.true) c.sum_of_like.ensures

pub returns : goal.returns
returns c = rw (beq_other c.args.negative c.args.other c.if-negative-other.false) c.sum_of_unlike.ensures
