-- `amount_limbs::divide::divide` meets its contract.
use Rattle.std.proofs.Common.{◌≡◌, length}
use Rattle.std.proofs.Common.{rules}
use Rattle.amount_limbs.specs.LongDivisionLaws.{reached_all, reached_none, reached_limb}
use Rattle.amount_limbs.proofs.divide.divide.Goals as goal

pub loop-i-init : goal.loop-i-init
loop-i-init c = let h : length c.args.limbs ≡ 4 = search rules in
    reached_none c.args.limbs c.args.d h c.requires

pub loop-i-preserved : goal.loop-i-preserved
loop-i-preserved c = let s = c.divide_step-step in
    reached_limb s.result.quotient s.result.rest c.loop-i.invariant c.if-i-eq0.false s.ensures

pub returns : goal.returns
returns c = let s = reached_all c.loop-i.invariant c.if-i-eq0.true in (s.whole, s.small)
