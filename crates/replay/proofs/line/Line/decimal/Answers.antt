-- `Line::decimal` adds the digits of a number, which are written into a place of their own first. Assumes nothing.
use Rattle.std.proofs.Common.{◌≡◌, sym, ◌∙◌, ap, List, ℕ, arith, length, replicate}
use lib.Seq.{length-take-le}
use Rattle.decimal.specs.Decimal.{most_digits, digits_of}
use Rattle.text_pieces.specs.TextLaws.{few_digits}
use Rattle.replay.specs.Line.{written, extended}
use Rattle.replay.specs.LineLaws.{digits_written}
use Rattle.replay.proofs.line.Line.decimal.Goals as goal

pub put_decimal-end-requires : goal.put_decimal-end-requires
put_decimal-end-requires c = omega (arith, few_digits c.args.n)

pub slice_bounds-digits-end : goal.slice_bounds-digits-end
slice_bounds-digits-end c = let k : length c.put_decimal-end.new.out ≡ most_digits = c.put_decimal-end.auto.out in
    omega (arith, few_digits c.args.n, c.put_decimal-end.ensures.0)

pub slice_bounds-text-end : goal.slice_bounds-text-end
slice_bounds-text-end c = let k : length c.put_decimal-end.new.out ≡ most_digits = c.put_decimal-end.auto.out in
    sym (length-take-le c.put_decimal-end.result c.put_decimal-end.new.out (omega (arith, few_digits c.args.n, c.put_decimal-end.ensures.0)))

pub returns : goal.returns
returns c = c.text.ensures ∙ ap (λ (l : List ℕ). extended (written c.args.self) l) (digits_written (replicate most_digits 0) (digits_of c.args.n) c.put_decimal-end.new.out c.put_decimal-end.result c.put_decimal-end.ensures.0 c.put_decimal-end.ensures.1)
