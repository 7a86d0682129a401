-- `decimal::run_of_digits` meets its contract.
use Rattle.std.proofs.Common.{sym, ◌∙◌, arith}
use Rattle.decimal.proofs.Loops.{outcome_large}
use Rattle.decimal.proofs.run_of_digits.Goals as goal
use Rattle.decimal.proofs.run_of_digits.Goals.{then-value-most-via-then-value-most, then-value-most-via-else-value-most+then-digit-most}

pub returns-then-value-most : goal.returns-then-value-most
returns-then-value-most c =
    let t = c.args.text.now in
    let l = c.loop-i in
    sym (l.invariant.0 ∙ (elim c.then-value-most.branch [
      | then-value-most-via-then-value-most w ↦ outcome_large t l.i l.value c.args.most (omega arith) (omega arith) (omega arith) (omega arith)
      | then-value-most-via-else-value-most+then-digit-most w ↦ outcome_large t l.i l.value c.args.most (omega arith) (omega arith) (omega arith) (omega arith)
    ]))
