-- `text_pieces::piece::put_refusal` meets its contract. A word, a number and a newline, each behind what stands there. Assumes nothing.
use Rattle.std.proofs.Common.{ℕ, ◌+◌, ◌≤◌, arith, List, length, length-append}
use Rattle.decimal.specs.Ascii.{newline}
use Rattle.text_pieces.specs.Text.{number_text, refusal_word, refusal_piece, refusal_text, refusal_room}
use Rattle.text_pieces.specs.Private.{Wrote}
use Rattle.text_pieces.specs.TextLaws.{few_digits, wrote_length, wrote_more, wrote_byte}
use Rattle.text_pieces.proofs.piece.put_refusal.Goals as goal

-- the word and the number
number_written : (n : ℕ) {s t u : List ℕ} {place end : ℕ} → Wrote s 0 refusal_word place t → Wrote t place (number_text n) end u → Wrote s 0 (refusal_piece n) end u
number_written n w v = wrote_more w (omega arith) v

-- the newline has room behind them
newline_room : {s u : List ℕ} {end : ℕ} (n : ℕ) → refusal_room ≤ length s → Wrote s 0 (refusal_piece n) end u → end + 1 ≤ length u
newline_room n h w =
    let size = length-append refusal_word (number_text n) in
    omega (arith, w.behind, few_digits n, wrote_length w (omega (arith, few_digits n)))

pub put_number-after_number-requires : goal.put_number-after_number-requires
put_number-after_number-requires c =
    let w = c.put_text-after_word.ensures in
    omega (arith, w.behind, wrote_length w (omega arith), few_digits c.args.number)

pub bounds-out-after_number : goal.bounds-out-after_number
bounds-out-after_number c =
    omega (arith, newline_room c.args.number c.requires (number_written c.args.number c.put_text-after_word.ensures c.put_number-after_number.ensures))

pub overflow_add-result : goal.overflow_add-result
overflow_add-result c =
    omega (arith, newline_room c.args.number c.requires (number_written c.args.number c.put_text-after_word.ensures c.put_number-after_number.ensures))

pub returns : goal.returns
unfolding refusal_text
returns c =
    let w = number_written c.args.number c.put_text-after_word.ensures c.put_number-after_number.ensures in
    let v = c.put_number-after_number in
    wrote_more w (omega arith) (wrote_byte v.new.out v.result newline (omega (arith, newline_room c.args.number c.requires w)))
