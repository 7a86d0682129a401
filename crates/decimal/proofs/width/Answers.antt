-- `decimal::width` meets its contract.
use Rattle.std.proofs.Common.{◌≡◌, suc, ◌+◌, ◌-◌, ◌/◌, arith, length}
use Rattle.decimal.specs.Decimal.{digits_within, digits_of}
use Rattle.decimal.proofs.Loops.{one_digit, one_digit_more, last_digit}
use Rattle.decimal.proofs.width.Goals as goal

pub returns-then-rest-lt10 : goal.returns-then-rest-lt10
unfolding digits_of
returns-then-rest-lt10 c = let l = c.loop-width in
    let e : 21 - l.width ≡ suc (20 - l.width) = omega arith in
    let one : length (digits_within (21 - l.width) l.rest) ≡ 1 = rw e (one_digit (20 - l.width) l.rest (omega arith)) in
    omega (arith, one)

pub loop-width-preserved : goal.loop-width-preserved
loop-width-preserved c = let l = c.loop-width in
    let e : 21 - l.width ≡ suc (20 - l.width) = omega arith in
    let f : 21 - (l.width + 1) ≡ 20 - l.width = omega arith in
    let more : length (digits_within (21 - l.width) l.rest) ≡ length (digits_within (20 - l.width) (l.rest / 10)) + 1 = rw e (one_digit_more (20 - l.width) l.rest (omega arith)) in
    (rw f (omega (arith, more)), (omega arith, omega arith))

pub returns : goal.returns
unfolding digits_of
returns c = let l = c.loop-width in
    let e : 21 - l.width ≡ 1 = omega arith in
    let one : length (digits_within (21 - l.width) l.rest) ≡ 1 = rw e (last_digit l.rest) in
    omega (arith, one)
