-- `text_pieces::column::put_columns` meets its contract.
use Rattle.std.proofs.Common.{refl, sym, ap, ◌∙◌, arith, get_or}
use lib.Seq.{take_all}
use Rattle.text_pieces.specs.Text.{columns_text}
use Rattle.text_pieces.specs.TextLaws.{column_fits, columns_more, wrote_nothing, wrote_more, wrote_as}
use Rattle.text_pieces.proofs.column.put_columns.Goals as goal

pub loop-n-init : goal.loop-n-init
unfolding columns_text
loop-n-init c = let a = c.args in (omega arith, (omega arith, (wrote_nothing a.out.now a.at, refl)))

pub put_column-place-requires : goal.put_column-place-requires
put_column-place-requires c = let a = c.args in omega (arith, column_fits a.width (get_or a.numbers.now c.loop-n.n-index 0) (omega arith))

pub loop-n-preserved : goal.loop-n-preserved
loop-n-preserved c =
    let a = c.args in let turn = c.loop-n in let w = c.put_column-place.ensures in (
      omega arith,
      (
        omega (arith, w.behind, column_fits a.width (get_or a.numbers.now turn.n-index 0) (omega arith)),
        (
          wrote_as (sym (columns_more a.width a.numbers.now turn.n-index (omega arith))) (wrote_more turn.invariant.1.1.0 (omega arith) w),
          c.put_column-place.auto.out ∙ turn.invariant.1.1.1,
        ),
      ),
    )

pub shape_of-out : goal.shape_of-out
shape_of-out c = c.loop-n.invariant.1.1.1

pub returns : goal.returns
returns c = let a = c.args in let last = c.loop-n in
    wrote_as (ap (columns_text a.width) (take_all last.n-index a.numbers.now (omega arith))) last.invariant.1.1.0
