-- Laws of `Text`: how long a piece is, one piece behind another, and the line that pieces over zeros make. Assumes nothing.
use Rattle.std.specs.Prelude.{◌≡◌, refl, Bool, true, false, cond, ℕ, zero, suc, ◌+◌, ◌-◌, ◌*◌, ◌/◌, ◌%◌, ◌≤◌, ◌<◌, ltb, take, get_or, set}
use Rattle.std.proofs.Common.{sym, ◌∙◌, add-one, arith, drop_at, take-suc, length-append, length-set}
use Rattle.std.proofs.Math.Path.{ap}
use mathlib.Core.List.{List, [], ◌∷◌, ◌++◌, append_assoc, append-nil}
use Rattle.std.proofs.Math.Nat.{zero-add}
use Rattle.std.proofs.Math.ListN.{length, drop}
use Rattle.std.proofs.lemmas.List.{length-replicate, replicate-append-replicate}
use Rattle.lent_bytes.specs.LentBytes.{put, zeros}
use Rattle.lent_bytes.specs.LentBytesLaws.{length_zeros, length_put, put_put, put_nil, set_put, put_snoc}
use Rattle.decimal.specs.Ascii.{code, blank, newline}
use Rattle.decimal.specs.Decimal.{digits_within, most_digits, digits_of}
use Rattle.text_pieces.specs.Text.{blanks, number_text, number_room, column_text, columns_text, hex_char, hex_text, refusal_word, refusal_text, refusal_room}
use Rattle.text_pieces.specs.Private.{Wrote}

-- ════ Lengths ════

-- room for so many digits makes no more of them
digits_within_lem : (k n : ℕ) → length (digits_within k n) ≤ k
digits_within_lem zero n = omega arith
digits_within_lem (suc k) n = go (ltb n 10) (digits_within_lem k (n / 10))
  where
    go : (b : Bool) → length (digits_within k (n / 10)) ≤ k
        → length (cond b ((code "0" + n) ∷ []) (digits_within k (n / 10) ++ ((code "0" + n % 10) ∷ []))) ≤ suc k
    go true h = omega arith
    go false h = omega (arith, length-append (digits_within k (n / 10)) ((code "0" + n % 10) ∷ []))

pub few_digits : (n : ℕ) → length (digits_of n) ≤ most_digits
unfolding digits_of
few_digits n = digits_within_lem most_digits n

pub length_column : (width n : ℕ) → length (column_text width n) ≡ (width - length (digits_of n)) + (1 + length (digits_of n))
unfolding column_text
length_column width n =
    length-append (blanks (width - length (digits_of n))) (number_text n)
    ∙ omega (arith, length-replicate {A = ℕ} (width - length (digits_of n)) blank)

-- a column of no more places than a number has digits takes at most one more
pub column_fits : (width n : ℕ) → width ≤ most_digits → length (column_text width n) ≤ number_room
column_fits width n h = omega (arith, length_column width n, few_digits n)

pub columns_fit : (width : ℕ) (ns : List ℕ) → width ≤ most_digits → length (columns_text width ns) ≤ number_room * length ns
unfolding columns_text
columns_fit width [] h = omega arith
columns_fit width (n ∷ ns) h =
    omega (arith, length-append (column_text width n) (columns_text width ns), column_fits width n h, columns_fit width ns h)

pub length_hex : (bs : List ℕ) → length (hex_text bs) ≡ 2 * length bs
length_hex [] = refl
length_hex (b ∷ bs) = omega (arith, length_hex bs)

pub refusal_fits : (n : ℕ) → length (refusal_text n) ≤ refusal_room
unfolding refusal_text
refusal_fits n =
    omega (arith, length-append refusal_word (number_text n ++ (newline ∷ [])), length-append (number_text n) (newline ∷ []), few_digits n)

-- ════ One more ════

columns_append : (width : ℕ) (xs ys : List ℕ) → columns_text width (xs ++ ys) ≡ columns_text width xs ++ columns_text width ys
unfolding columns_text
columns_append width [] ys = refl
columns_append width (x ∷ xs) ys =
    ap (λ (l : List ℕ). column_text width x ++ l) (columns_append width xs ys)
    ∙ sym (append_assoc (column_text width x) (columns_text width xs) (columns_text width ys))

one_column : (width n : ℕ) → columns_text width (n ∷ []) ≡ column_text width n
unfolding columns_text
one_column width n = append-nil (column_text width n)

-- the columns of one number more
pub columns_more : (width : ℕ) (ns : List ℕ) (i : ℕ) → i < length ns
    → columns_text width (take (i + 1) ns) ≡ columns_text width (take i ns) ++ column_text width (get_or ns i 0)
columns_more width ns i h =
    ap (λ (k : ℕ). columns_text width (take k ns)) (add-one i)
    ∙ ap (columns_text width) (take-suc ns i 0 h)
    ∙ columns_append width (take i ns) (get_or ns i 0 ∷ [])
    ∙ ap (λ (l : List ℕ). columns_text width (take i ns) ++ l) (one_column width (get_or ns i 0))

hex_append : (xs ys : List ℕ) → hex_text (xs ++ ys) ≡ hex_text xs ++ hex_text ys
hex_append [] ys = refl
hex_append (x ∷ xs) ys = ap (λ (l : List ℕ). hex_char (x / 16) ∷ hex_char (x % 16) ∷ l) (hex_append xs ys)

-- the digits of one byte more
pub hex_more : (bs : List ℕ) (i : ℕ) → i < length bs
    → hex_text (take (i + 1) bs) ≡ hex_text (take i bs) ++ (hex_char (get_or bs i 0 / 16) ∷ hex_char (get_or bs i 0 % 16) ∷ [])
hex_more bs i h =
    ap (λ (k : ℕ). hex_text (take k bs)) (add-one i)
    ∙ ap hex_text (take-suc bs i 0 h)
    ∙ hex_append (take i bs) (get_or bs i 0 ∷ [])

pub blanks_more : (n : ℕ) → blanks (n + 1) ≡ blanks n ++ (blank ∷ [])
blanks_more n = sym (replicate-append-replicate {A = ℕ} n 1 blank)

-- ════ Writing ════

module _ {s t : List ℕ} {at place : ℕ} {text : List ℕ} (w : Wrote s at text place t) where
  -- what is written keeps the length
  pub wrote_length : at + length text ≤ length s → length t ≡ length s
  wrote_length h = ap length w.leaves ∙ length_put s at text h

  -- a text written behind another
  pub wrote_more : at ≤ length s → {u : List ℕ} {end : ℕ} {more : List ℕ} → Wrote t place more end u → Wrote s at (text ++ more) end u
  wrote_more h {u} {end} {more} v =
      record {
        behind = omega (arith, w.behind, v.behind, length-append text more);
        leaves = v.leaves ∙ (λ i. put (w.leaves i) (w.behind i) more) ∙ put_put s at text more h;
      }

-- nothing is written
pub wrote_nothing : (s : List ℕ) (at : ℕ) → Wrote s at [] at s
wrote_nothing s at = record { behind = omega arith; leaves = sym (put_nil s at) }

-- one byte is written
pub wrote_byte : (s : List ℕ) (at b : ℕ) → at < length s → Wrote s at (b ∷ []) (at + 1) (set s at b)
wrote_byte s at b h = record { behind = refl; leaves = set_put s at b h }

-- the same text, spelled otherwise
pub wrote_as : {s t : List ℕ} {at place : ℕ} {text other : List ℕ} → text ≡ other → Wrote s at text place t → Wrote s at other place t
wrote_as {s} {t} {at} {place} e w =
    record { behind = w.behind ∙ ap (λ (l : List ℕ). at + length l) e; leaves = w.leaves ∙ ap (put s at) e }

-- one blank more is written
pub blank_written : (s : List ℕ) (at k : ℕ) → at + k < length s → set (put s at (blanks k)) (at + k) blank ≡ put s at (blanks (k + 1))
blank_written s at k h =
    let size : length (blanks k) ≡ k = length-replicate {A = ℕ} k blank in
    ap (λ (n : ℕ). set (put s at (blanks k)) (at + n) blank) (sym size)
    ∙ put_snoc s at (blanks k) blank (omega arith)
    ∙ ap (put s at) (sym (blanks_more k))

-- the digits of one byte more are written
pub hex_written : {s t : List ℕ} {at place : ℕ} (bs : List ℕ) (i : ℕ) → i < length bs → at ≤ length s → place + 1 < length t
    → Wrote s at (hex_text (take i bs)) place t → {high low : ℕ} → high ≡ hex_char (get_or bs i 0 / 16) → low ≡ hex_char (get_or bs i 0 % 16)
    → Wrote s at (hex_text (take (i + 1) bs)) (place + 2) (set (set t place high) (place + 1) low)
hex_written {s} {t} {at} {place} bs i h front room w {high} {low} e f =
    let before : List ℕ = hex_text (take i bs) in
    let both =
    wrote_more (wrote_more w front (wrote_byte t place high (omega arith))) front
    (wrote_byte (set t place high) (place + 1) low (simp length-set room)) in
    let text : (before ++ (high ∷ [])) ++ (low ∷ []) ≡ hex_text (take (i + 1) bs) =
    append_assoc before (high ∷ []) (low ∷ []) ∙ (λ d. before ++ (e d ∷ f d ∷ [])) ∙ sym (hex_more bs i h) in
    let told = wrote_as text both in
    record { behind = omega (arith, told.behind); leaves = told.leaves }

-- ════ A line over zeros ════

drop_zeros : (k n : ℕ) → k ≤ n → drop k (zeros n) ≡ zeros (n - k)
drop_zeros k n h =
    let e : k + (n - k) ≡ n = omega arith in
    ap (λ (m : ℕ). drop k (zeros m)) (sym e)
    ∙ ap (λ (l : List ℕ). drop k l) (sym (replicate-append-replicate {A = ℕ} k (n - k) 0))
    ∙ drop_at (zeros k) (zeros (n - k)) k (length-replicate {A = ℕ} k 0)

-- a text stands at the front of n zeros
module _ (n : ℕ) {text bytes : List ℕ} {place : ℕ} (w : Wrote (zeros n) 0 text place bytes) where
  pub length_over : length text ≤ n → length bytes ≡ n
  length_over h = wrote_length w (omega (arith, length_zeros n)) ∙ length_zeros n

  -- what is left of the zeros is room behind it
  pub room_over : (k : ℕ) → length text + k ≤ n → place + k ≤ length bytes
  room_over k h = omega (arith, w.behind, length_over (omega arith))

  -- another text is written behind it
  pub more_over : {after more : List ℕ} {end : ℕ} → Wrote bytes place more end after → Wrote (zeros n) 0 (text ++ more) end after
  more_over v = wrote_more w (omega arith) v

  -- a byte is stored behind it
  pub byte_over : (b : ℕ) → length text + 1 ≤ n → Wrote (zeros n) 0 (text ++ (b ∷ [])) (place + 1) (set bytes place b)
  byte_over b h = more_over (wrote_byte bytes place b (omega (arith, room_over 1 h)))

  -- the bytes are the text and the zeros that are left, and the place is its length
  pub line_over : length text ≤ n → (bytes ≡ text ++ zeros (n - length text)) × (place ≡ length text)
  unfolding put
  line_over h =
      let rest : drop (0 + length text) (zeros n) ≡ zeros (n - length text) =
      ap (λ (k : ℕ). drop k (zeros n)) (zero-add (length text)) ∙ drop_zeros (length text) n h in
      (w.leaves ∙ ap (λ (l : List ℕ). text ++ l) rest, w.behind ∙ zero-add (length text))
