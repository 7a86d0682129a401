-- `trace_lines::line::answer_line` meets its contract: a word, three numbers and a newline, each behind what stands there. Assumes nothing.
use Rattle.std.proofs.Common.{sym, ap, ◌∙◌, List, ◌++◌, ℕ, arith, length}
use Rattle.decimal.specs.DecimalLaws.{length_digits}
use Rattle.lent_bytes.specs.LentBytes.{zeros}
use Rattle.text_pieces.specs.Private.{Wrote}
use Rattle.text_pieces.specs.TextLaws.{room_over, more_over}
use Rattle.trace_lines.specs.Lines.{number_text, line_size, line_of}
use Rattle.trace_lines.proofs.Written.{line_ends, word_length, length_one, length_two, length_three, answer_whole}
use Rattle.trace_lines.proofs.line.answer_line.Goals as goal

pub put_number-after_messages-requires : goal.put_number-after_messages-requires
put_number-after_messages-requires c = let a = c.args in
    room_over line_size c.put_word-after_word.ensures (length (number_text a.messages)) (omega (arith, word_length a.word, length_digits 9 a.messages (omega arith)))

pub put_number-after_bytes-requires : goal.put_number-after_bytes-requires
put_number-after_bytes-requires c = let a = c.args in
    let one_written = more_over line_size c.put_word-after_word.ensures c.put_number-after_messages.ensures in
    room_over line_size one_written (length (number_text a.bytes)) (omega (arith, length_one a.word a.messages (omega arith), length_digits 19 a.bytes (omega arith)))

pub put_number-after_rows-requires : goal.put_number-after_rows-requires
put_number-after_rows-requires c =
    let a = c.args in
    let two-written = more_over line_size (more_over line_size c.put_word-after_word.ensures c.put_number-after_messages.ensures) c.put_number-after_bytes.ensures in
    room_over line_size two-written (length (number_text a.rows)) (omega (arith, length_two a.word a.messages a.bytes (omega arith) (omega arith), length_digits 19 a.rows (omega arith)))

-- the word and the three numbers stand at the front
text_written : {word messages bytes rows : List ℕ} {a b c d : ℕ} {t u v w : List ℕ} → Wrote (zeros line_size) 0 word a t → Wrote t a messages b u → Wrote u b bytes c v → Wrote v c rows d w
    → Wrote (zeros line_size) 0 (((word ++ messages) ++ bytes) ++ rows) d w
text_written h i j k = more_over line_size (more_over line_size (more_over line_size h i) j) k

pub bounds-out-after_rows : goal.bounds-out-after_rows
bounds-out-after_rows c =
    let a = c.args in
    let written = text_written c.put_word-after_word.ensures c.put_number-after_messages.ensures c.put_number-after_bytes.ensures c.put_number-after_rows.ensures in
    omega (arith, written.behind, length_three a.word a.messages a.bytes a.rows (omega arith) (omega arith) (omega arith))

pub overflow_add-result : goal.overflow_add-result
overflow_add-result c =
    let a = c.args in
    let written = text_written c.put_word-after_word.ensures c.put_number-after_messages.ensures c.put_number-after_bytes.ensures c.put_number-after_rows.ensures in
    omega (arith, written.behind, length_three a.word a.messages a.bytes a.rows (omega arith) (omega arith) (omega arith))

pub returns : goal.returns
returns c =
    let a = c.args in
    let written = text_written c.put_word-after_word.ensures c.put_number-after_messages.ensures c.put_number-after_bytes.ensures c.put_number-after_rows.ensures in
    line_ends written (omega (arith, length_three a.word a.messages a.bytes a.rows (omega arith) (omega arith) (omega arith)))
    ∙ ap line_of (sym (answer_whole a.word a.messages a.bytes a.rows))
