-- `Line::amount` adds the sign and the two halves of the limbs' number. Assumes nothing.
use Rattle.std.proofs.Common.{◌≡◌, length, get_or}
use Rattle.std.proofs.Common.{rules}
use Rattle.replay.specs.Line.{written, amount_text}
use Rattle.replay.specs.LineLaws.{extended_thrice, halves}
use mir.Val.{Fits}
use mir.Syntax.{w32}
use Rattle.replay.proofs.line.Line.amount.Goals as goal

pub returns : goal.returns
unfolding amount_text
returns c = let a = c.args.a in
    let l0 : Fits w32 (get_or a.limbs 0 0) = search rules in
    let l1 : Fits w32 (get_or a.limbs 1 0) = search rules in
    let four : length a.limbs ≡ 4 = search rules in
    let h = halves a.limbs four l0.fits l1.fits in
    rw (c.then-2.ensures, c.then.ensures, c.truth.ensures, c.joined-2.ensures, c.joined.ensures, h.0, h.1)
    (extended_thrice (written c.args.self) _ _ _)
