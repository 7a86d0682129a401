-- `amount::Amount::to_u64` meets its contract. A negative amount counts as 0, and one with a high half as 2^64 - 1. Assumes nothing.
use Rattle.std.proofs.Common.{ℕ, ◌-◌, ◌^◌, min, sym, ap, arith}
use Rattle.amount_limbs.specs.Limbs.{digits}
use Rattle.amount.specs.Amount.{value}
use Rattle.amount.proofs.MagnitudeLaws.{small_min, large_min}
use Rattle.amount.proofs.SignedLaws.{natural_minus}
use Rattle.amount.proofs.Amount.to_u64.Goals as goal

pub returns-then-self : goal.returns-then-self
unfolding value
returns-then-self c = rw c.if-self.true (sym (ap (λ (n : ℕ). min n (2 ^ 64 - 1)) (natural_minus (digits c.args.self.limbs))))

pub returns-then-m-eq0 : goal.returns-then-m-eq0
unfolding value
returns-then-m-eq0 c =
    let m = c.magnitude-m in
    rw c.if-self.false
    (rw m.ensures at (small_min m.result (omega (arith, m.type_inv)) c.if-m-eq0.true))

pub returns : goal.returns
unfolding value
returns c =
    let m = c.magnitude-m in
    rw c.if-self.false (rw m.ensures at (large_min m.result c.if-m-eq0.false))
