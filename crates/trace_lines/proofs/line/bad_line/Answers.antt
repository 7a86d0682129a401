-- `trace_lines::line::bad_line` meets its contract: words, a number and a newline, each behind what stands there. Assumes nothing.
use Rattle.std.proofs.Common.{ap, ◌∙◌, List, [], ◌∷◌, ◌++◌, append_assoc, ℕ, ◌≤◌, arith, length, length-append}
use Rattle.decimal.specs.Ascii.{ascii, newline}
use Rattle.text_pieces.specs.TextLaws.{few_digits, room_over, more_over}
use Rattle.trace_lines.specs.Lines.{number_text, bad_line_text, line_size, line_of}
use Rattle.trace_lines.proofs.Written.{line_ends}
use Rattle.trace_lines.proofs.line.bad_line.Goals as goal

abbrev words : List ℕ
words = ascii "bad line"

-- they leave room for a newline
text_fits : (n : ℕ) → length (words ++ number_text n) ≤ 29
text_fits n = omega (arith, length-append words (number_text n), few_digits n)

pub put_number-after_number-requires : goal.put_number-after_number-requires
put_number-after_number-requires c = let n = c.args.number in
    room_over line_size c.put_text-after_words.ensures (length (number_text n)) (omega (arith, few_digits n))

pub bounds-out-after_number : goal.bounds-out-after_number
bounds-out-after_number c =
    let w = more_over line_size c.put_text-after_words.ensures c.put_number-after_number.ensures in
    omega (arith, w.behind, text_fits c.args.number)

pub overflow_add-result : goal.overflow_add-result
overflow_add-result c =
    let w = more_over line_size c.put_text-after_words.ensures c.put_number-after_number.ensures in
    omega (arith, w.behind, text_fits c.args.number)

pub returns : goal.returns
unfolding bad_line_text
returns c =
    let n = c.args.number in
    let w = more_over line_size c.put_text-after_words.ensures c.put_number-after_number.ensures in
    line_ends w (omega (arith, text_fits n)) ∙ ap line_of (append_assoc words (number_text n) (newline ∷ []))
