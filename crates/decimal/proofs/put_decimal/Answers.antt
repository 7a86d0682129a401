-- `decimal::put_decimal` meets its contract.
use Rattle.std.proofs.Common.{◌≡◌, sym, ap, ◌∙◌, ℕ, suc, ◌+◌, ◌-◌, ◌%◌, arith, length-set}
use Rattle.lent_bytes.specs.LentBytes.{put}
use Rattle.lent_bytes.specs.LentBytesLaws.{put_nil}
use Rattle.decimal.specs.Ascii.{code}
use Rattle.decimal.specs.Decimal.{most_digits, digits_of}
use Rattle.decimal.specs.DecimalLaws.{low_digits, low_within}
use Rattle.decimal.proofs.Loops.{digit_written}
use Rattle.decimal.proofs.put_decimal.Goals as goal

pub loop-left-preserved : goal.loop-left-preserved
loop-left-preserved c = let a = c.args in let l = c.loop-left in
    let e : l.left ≡ suc (l.left - 1) = omega arith in (
      l.invariant.0 ∙ ap (λ (k : ℕ). put l.out a.at (low_digits k l.rest)) e
          ∙ digit_written l.out a.at (l.left - 1) l.rest (omega (arith, c.width-digits.ensures)),
      (length-set l.out (a.at + (l.left - 1)) (code "0" + l.rest % 10) ∙ l.invariant.1.0, omega arith),
    )

pub returns : goal.returns
unfolding digits_of
returns c = let a = c.args in let l = c.loop-left in
    let none : l.left ≡ 0 = omega arith in
    let whole : put a.out.now a.at (low_digits c.width-digits.result a.n) ≡ put a.out.now a.at (digits_of a.n) = rw (c.width-digits.ensures, low_within most_digits a.n) in (
      ap (λ (k : ℕ). a.at + k) c.width-digits.ensures,
      sym (put_nil l.out a.at) ∙ ap (λ (k : ℕ). put l.out a.at (low_digits k l.rest)) (sym none) ∙ sym l.invariant.0 ∙ whole,
    )
