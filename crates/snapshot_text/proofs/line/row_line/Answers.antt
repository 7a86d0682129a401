-- `snapshot_text::line::row_line` meets its contract. A key, its numbers and a newline, each behind what stands there. Assumes nothing.
use Rattle.std.proofs.Common.{◌≡◌, ap, ◌∙◌, List, ◌++◌, ℕ, arith, length, rules}
use Rattle.lent_bytes.specs.LentBytes.{zeros}
use Rattle.peer_rows.specs.RowsLaws.{length_entry_words}
use Rattle.text_pieces.specs.Text.{columns_text, hex_text}
use Rattle.text_pieces.specs.Private.{Wrote}
use Rattle.text_pieces.specs.TextLaws.{length_hex, wrote_as, room_over, more_over}
use Rattle.snapshot_text.specs.Shown.{row_column, line_size, line_of}
use Rattle.snapshot_text.specs.LineLaws.{row_fits, row_whole, line_ends}
use Rattle.snapshot_text.proofs.line.row_line.Goals as goal

-- the key and the numbers are written
row_written : (k : List ℕ) {e numbers after : List ℕ} {at end : ℕ} {output : List ℕ}
    → numbers ≡ e → Wrote (zeros line_size) 0 (hex_text k) at after → Wrote after at (columns_text row_column numbers) end output
    → Wrote (zeros line_size) 0 (hex_text k ++ columns_text row_column e) end output
row_written k words first others =
    wrote_as (ap (λ (ns : List ℕ). hex_text k ++ columns_text row_column ns) words) (more_over line_size first others)

pub put_hex-after_key-requires : goal.put_hex-after_key-requires
put_hex-after_key-requires c = let h : length c.args.row.key.bytes ≡ 33 = search rules in omega arith

pub put_columns-after_numbers-requires-clause-numbers_in_bounds : goal.put_columns-after_numbers-requires-clause-numbers_in_bounds
put_columns-after_numbers-requires-clause-numbers_in_bounds c =
    let row = c.args.row in
    let h : length row.key.bytes ≡ 33 = search rules in
    let eleven : length c.words_of-numbers.result ≡ 11 = ap length c.words_of-numbers.ensures ∙ length_entry_words row.entry in
    omega (arith, room_over line_size c.put_hex-after_key.ensures 231 (omega (arith, length_hex row.key.bytes)))

pub bounds-out-after_numbers : goal.bounds-out-after_numbers
bounds-out-after_numbers c = let row = c.args.row in
    let h : length row.key.bytes ≡ 33 = search rules in
    let w = row_written row.key.bytes c.words_of-numbers.ensures c.put_hex-after_key.ensures c.put_columns-after_numbers.ensures in
    omega (arith, w.behind, row_fits row.key.bytes row.entry h)

pub overflow_add-result : goal.overflow_add-result
overflow_add-result c = let row = c.args.row in
    let h : length row.key.bytes ≡ 33 = search rules in
    let w = row_written row.key.bytes c.words_of-numbers.ensures c.put_hex-after_key.ensures c.put_columns-after_numbers.ensures in
    omega (arith, w.behind, row_fits row.key.bytes row.entry h)

pub returns : goal.returns
returns c = let row = c.args.row in
    let h : length row.key.bytes ≡ 33 = search rules in
    let w = row_written row.key.bytes c.words_of-numbers.ensures c.put_hex-after_key.ensures c.put_columns-after_numbers.ensures in
    line_ends w (omega (arith, row_fits row.key.bytes row.entry h)) ∙ ap line_of (row_whole row.key.bytes row.entry)
