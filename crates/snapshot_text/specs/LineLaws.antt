-- Laws of the lines: how long they are, and that what was written over zeros is a line. Assumes nothing.
use Rattle.std.specs.Prelude.{◌≡◌, List, [], ◌∷◌, ◌++◌, ℕ, ◌+◌, ◌-◌, ◌≤◌, length, set}
use Rattle.std.proofs.Common.{append_assoc, arith, length-append}
use Rattle.std.proofs.Math.Seq.{take-append_seam}
use Rattle.lent_bytes.specs.LentBytes.{zeros}
use Rattle.peer_state.specs.declared.entry.PeerMessagePolicyEntry.{PeerMessagePolicyEntry}
use Rattle.peer_rows.specs.Rows.{entry_words}
use Rattle.peer_rows.specs.RowsLaws.{length_entry_words}
use Rattle.decimal.specs.Ascii.{newline}
use Rattle.text_pieces.specs.Text.{column_text, columns_text, hex_text}
use Rattle.text_pieces.specs.Private.{Wrote}
use Rattle.text_pieces.specs.TextLaws.{few_digits, length_column, columns_fit, length_hex, byte_over, line_over}
use Rattle.snapshot_text.specs.declared.line.ShownLine.{ShownLine}
use Rattle.snapshot_text.specs.Words.{rate_name}
use Rattle.snapshot_text.specs.Shown.{numbers_end, field_text, row_column, row_text, line_size, line_of}
use Rattle.snapshot_text.specs.Scan.{text_of}

-- a text that is written as a line is the line's
pub text_of_line : (text : List ℕ) → text_of (line_of text) ≡ text
text_of_line text = take-append_seam text (zeros (line_size - length text))

-- what was written at the front of a line of zeros is the line
pub line_is : {text bytes : List ℕ} {place : ℕ} → Wrote (zeros line_size) 0 text place bytes → length text ≤ line_size
    → ◌≡◌ {A = ShownLine} (record { bytes = bytes; length = place }) (line_of text)
line_is w h = let l = line_over line_size w h in (λ i. record { bytes = l.0 i; length = l.1 i })

-- and so with a newline behind it
pub line_ends : {text bytes : List ℕ} {place : ℕ} → Wrote (zeros line_size) 0 text place bytes → length text + 1 ≤ line_size
    → ◌≡◌ {A = ShownLine} (record { bytes = set bytes place newline; length = place + 1 }) (line_of (text ++ (newline ∷ [])))
line_ends {text} w h = line_is (byte_over line_size w newline h) (omega (arith, length-append text (newline ∷ [])))

-- a named number takes all places up to the end of the numbers, and the blank
pub field_fits : (name : List ℕ) (n : ℕ) → length name ≤ length rate_name → length (name ++ column_text (numbers_end - length name) n) ≤ 1 + numbers_end
field_fits name n h =
    omega (arith, length-append name (column_text (numbers_end - length name) n), length_column (numbers_end - length name) n, few_digits n)

pub field_whole : (name : List ℕ) (n : ℕ) → (name ++ column_text (numbers_end - length name) n) ++ (newline ∷ []) ≡ field_text name n
unfolding field_text
field_whole name n = append_assoc name (column_text (numbers_end - length name) n) (newline ∷ [])

-- a row takes at most 297 places
pub row_fits : (key : List ℕ) (e : PeerMessagePolicyEntry) → length key ≡ 33 → length (hex_text key ++ columns_text row_column (entry_words e)) ≤ 297
row_fits key e h =
    omega (
      arith,
      length-append (hex_text key) (columns_text row_column (entry_words e)),
      length_hex key,
      columns_fit row_column (entry_words e) (omega arith),
      length_entry_words e,
    )

pub row_whole : (key : List ℕ) (e : PeerMessagePolicyEntry) → (hex_text key ++ columns_text row_column (entry_words e)) ++ (newline ∷ []) ≡ row_text key e
unfolding row_text
row_whole key e = append_assoc (hex_text key) (columns_text row_column (entry_words e)) (newline ∷ [])

-- a number from n on that is not n is from the next one on
pub above : (n i : ℕ) → n ≤ i → (i ≡ n → ⊥) → n + 1 ≤ i
above n i h other = omega arith
