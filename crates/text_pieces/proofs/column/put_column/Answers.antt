-- `text_pieces::column::put_column` meets its contract. Blanks, and the number behind them. Assumes nothing.
use Rattle.std.proofs.Common.{◌≡◌, ap, ◌∙◌, ◌++◌, ℕ, ◌-◌, arith, length}
use lib.ListN.{length-replicate}
use Rattle.decimal.specs.Ascii.{blank}
use Rattle.decimal.specs.Decimal.{digits_of}
use Rattle.text_pieces.specs.Text.{blanks, number_text, column_text}
use Rattle.text_pieces.specs.TextLaws.{length_column, wrote_length, wrote_more, wrote_as}
use Rattle.text_pieces.proofs.column.put_column.Goals as goal

pub put_blanks-after_blanks-requires : goal.put_blanks-after_blanks-requires
put_blanks-after_blanks-requires c = let a = c.args in omega (arith, length_column a.width a.n, c.width.ensures, c.saturating_sub-left.ensures)

pub put_number-requires : goal.put_number-requires
put_number-requires c =
    let a = c.args in let w = c.put_blanks-after_blanks.ensures in
    let size = length-replicate {A = ℕ} c.saturating_sub-left.result blank in
    let column = length_column a.width a.n in
    let digits = c.width.ensures in
    let left = c.saturating_sub-left.ensures in
    omega (arith, w.behind, wrote_length w (omega arith))

pub returns : goal.returns
unfolding column_text
returns c =
    let a = c.args in
    let left : c.saturating_sub-left.result ≡ a.width - length (digits_of a.n) = c.saturating_sub-left.ensures ∙ ap (λ (k : ℕ). a.width - k) c.width.ensures in
    wrote_as (ap (λ (k : ℕ). blanks k ++ number_text a.n) left) (wrote_more c.put_blanks-after_blanks.ensures (omega arith) c.put_number.ensures)
