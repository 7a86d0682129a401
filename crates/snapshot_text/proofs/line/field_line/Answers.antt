-- `snapshot_text::line::field_line` meets its contract. A name, its number and a newline, each behind what stands there. Assumes nothing.
use Rattle.std.proofs.Common.{ap, ◌∙◌, ◌-◌, arith, length, length-append}
use Rattle.text_pieces.specs.Text.{column_text}
use Rattle.text_pieces.specs.TextLaws.{room_over, more_over}
use Rattle.snapshot_text.specs.Shown.{numbers_end, line_size, line_of}
use Rattle.snapshot_text.specs.LineLaws.{field_fits, field_whole, line_ends}
use Rattle.snapshot_text.proofs.line.field_line.Goals as goal

pub put_column-after_number-requires : goal.put_column-after_number-requires
put_column-after_number-requires c = let a = c.args in let name = a.name.now in
    room_over line_size c.put_text-after_name.ensures (length (column_text (numbers_end - length name) a.number))
    (omega (arith, field_fits name a.number (omega arith), length-append name (column_text (numbers_end - length name) a.number)))

pub bounds-out-after_number : goal.bounds-out-after_number
bounds-out-after_number c = let a = c.args in let w = more_over line_size c.put_text-after_name.ensures c.put_column-after_number.ensures in omega (arith, w.behind, field_fits a.name.now a.number (omega arith))

pub overflow_add-result : goal.overflow_add-result
overflow_add-result c = let a = c.args in let w = more_over line_size c.put_text-after_name.ensures c.put_column-after_number.ensures in omega (arith, w.behind, field_fits a.name.now a.number (omega arith))

pub returns : goal.returns
returns c = let a = c.args in let w = more_over line_size c.put_text-after_name.ensures c.put_column-after_number.ensures in
    line_ends w (omega (arith, field_fits a.name.now a.number (omega arith))) ∙ ap line_of (field_whole a.name.now a.number)
