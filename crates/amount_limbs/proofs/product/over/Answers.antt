-- `amount_limbs::product::over` meets its contract.
use Rattle.amount_limbs.specs.Limbs.{digits}
use Rattle.amount_limbs.specs.LongDivisionLaws.{Divided, quotient}
use Rattle.amount_limbs.proofs.product.over.Goals as goal

pub returns : goal.returns
returns c =
    let e = c.divide.ensures in
    let d : Divided (digits c.args.limbs) c.args.divisor (digits c.divide.result.limbs) c.divide.result.rest = record { whole = e.0; small = e.1 } in
    quotient d
