-- A line that is written piece by piece over zeros. Assumes nothing.
use mathlib.Core.Path.{◌≡◌, refl, sym, ap, ◌∙◌}
use mathlib.Core.List.{List, [], ◌∷◌, ◌++◌, append_assoc, append-nil}
use Prim.Native.Nat.{ℕ, ◌+◌, ◌^◌, ◌≤◌, ◌<◌}
use native.Mathlib.Omega.{arith}
use lib.ListN.{length, set, length-append, drop_of_length-le}
use Rattle.lent_bytes.specs.LentBytes.{put, zeros}
use Rattle.lent_bytes.specs.LentBytesLaws.{set_put, put_put_at}
use Rattle.decimal.specs.Ascii.{newline}
use Rattle.decimal.specs.DecimalLaws.{length_digits}
use Rattle.text_pieces.specs.Private.{Wrote}
use Rattle.text_pieces.specs.TextLaws.{byte_over, line_over}
use Rattle.trace_lines.specs.Lines.{line_size, line_of, word_text, number_text, answer_text}
use Rattle.trace_lines.specs.declared.line.TraceLine.{TraceLine}
use Rattle.trace_lines.specs.declared.line.Word.{Word}
use Rattle.trace_lines.specs.declared.line.Word.TheVariants.{Allow, DisconnectMessages, DisconnectBytes, DisconnectCeiling, Ban, Banned, Noted, Free, Closed, Released}

-- a byte, and what follows it
pub put_head : (s : List ℕ) (i b : ℕ) (more : List ℕ) → i < length s → put s i (b ∷ more) ≡ put (set s i b) (i + 1) more
put_head s i b more h =
    sym (ap (λ (l : List ℕ). put l (i + 1) more) (set_put s i b h) ∙ put_put_at s i (b ∷ []) more 1 refl (omega arith))

-- a write that covers all is what stands there
pub put_all : (s b : List ℕ) → length s ≡ length b → put s 0 b ≡ b
unfolding put
put_all s b h = rw (drop_of_length-le s {i = 0 + length b} (omega arith)) (append-nil b)

-- what was written at the front of a line of zeros is the line
pub line_is : {text bytes : List ℕ} {place : ℕ} → Wrote (zeros line_size) 0 text place bytes → length text ≤ line_size
    → ◌≡◌ {A = TraceLine} (record { bytes = bytes; length = place }) (line_of text)
line_is w h = let l = line_over line_size w h in (λ i. record { bytes = l.0 i; length = l.1 i })

-- and so with a newline behind it
pub line_ends : {text bytes : List ℕ} {place : ℕ} → Wrote (zeros line_size) 0 text place bytes → length text + 1 ≤ line_size
    → ◌≡◌ {A = TraceLine} (record { bytes = set bytes place newline; length = place + 1 }) (line_of (text ++ (newline ∷ [])))
line_ends {text} w h = line_is (byte_over line_size w newline h) (omega (arith, length-append text (newline ∷ [])))

-- ════ An answer ════

-- no word is longer than `Disconnect-messages`
pub word_length : (w : Word) → length (word_text w) ≤ length (word_text DisconnectMessages)
word_length Allow = omega arith
word_length DisconnectMessages = omega arith
word_length DisconnectBytes = omega arith
word_length DisconnectCeiling = omega arith
word_length Ban = omega arith
word_length Banned = omega arith
word_length Noted = omega arith
word_length Free = omega arith
word_length Closed = omega arith
word_length Released = omega arith

-- what was written for a word of which it is told which one it is
pub word_written : (w known : Word) (s : List ℕ) {n : ℕ} {out : List ℕ} → w ≡ known → Wrote s 0 (word_text known) n out → Wrote s 0 (word_text w) n out
word_written w known s told h = rw told h

-- the text of an answer with one, two and three of its numbers
abbrev pub one : Word → ℕ → List ℕ
one w m = word_text w ++ number_text m

abbrev pub two : Word → ℕ → ℕ → List ℕ
two w m b = one w m ++ number_text b

abbrev pub three : Word → ℕ → ℕ → ℕ → List ℕ
three w m b r = two w m b ++ number_text r

pub length_one : (w : Word) (m : ℕ) → m < 10 ^ 10 → length (one w m) ≤ 30
length_one w m h = omega (arith, length-append (word_text w) (number_text m), word_length w, length_digits 9 m h)

pub length_two : (w : Word) (m b : ℕ) → m < 10 ^ 10 → b < 10 ^ 20 → length (two w m b) ≤ 51
length_two w m b h k = omega (arith, length-append (one w m) (number_text b), length_one w m h, length_digits 19 b k)

pub length_three : (w : Word) (m b r : ℕ) → m < 10 ^ 10 → b < 10 ^ 20 → r < 10 ^ 20 → length (three w m b r) ≤ 72
length_three w m b r h k l = omega (arith, length-append (two w m b) (number_text r), length_two w m b h k, length_digits 19 r l)

pub answer_whole : (w : Word) (m b r : ℕ) → answer_text w m b r ≡ three w m b r ++ (newline ∷ [])
unfolding answer_text
answer_whole w m b r = simp append_assoc
