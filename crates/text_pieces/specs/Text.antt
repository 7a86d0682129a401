-- Pieces of text, and what it is to write one. Definitions only; their laws are in `TextLaws`.
use Rattle.std.specs.Prelude.{cond, List, [], ◌∷◌, ◌++◌, ℕ, ◌+◌, ◌-◌, ◌/◌, ◌%◌, ltb, length, replicate}
use Rattle.decimal.specs.Ascii.{code, ascii, blank, newline}
use Rattle.decimal.specs.Decimal.{most_digits, digits_of}

-- n blanks
abbrev pub blanks : ℕ → List ℕ
blanks n = replicate n blank

-- a blank and a number
abbrev pub number_text : ℕ → List ℕ
number_text n = blank ∷ digits_of n

-- how many places that takes at most
abbrev pub number_room : ℕ
number_room = 1 + most_digits

-- a blank and a number that is right-aligned in so many places; a longer one takes its length
unfoldable pub column_text : ℕ → ℕ → List ℕ
column_text width n = blanks (width - length (digits_of n)) ++ number_text n

-- numbers in columns of one width
unfoldable pub columns_text : ℕ → List ℕ → List ℕ
columns_text width [] = []
columns_text width (n ∷ more) = column_text width n ++ columns_text width more

-- the hex digit of a number below 16
abbrev pub hex_char : ℕ → ℕ
hex_char h = cond (ltb h 10) (code "0" + h) ((code "a" - 10) + h)

-- the hex digits of bytes, two for each
abbrev pub hex_text : List ℕ → List ℕ
hex_text [] = []
hex_text (b ∷ more) = hex_char (b / 16) ∷ hex_char (b % 16) ∷ hex_text more

abbrev pub refusal_word : List ℕ
refusal_word = ascii "refusal"

-- `refusal N`
abbrev pub refusal_piece : ℕ → List ℕ
refusal_piece n = refusal_word ++ number_text n

-- the line of it
unfoldable pub refusal_text : ℕ → List ℕ
refusal_text n = refusal_piece n ++ (newline ∷ [])

-- how many places that takes at most
abbrev pub refusal_room : ℕ
refusal_room = length refusal_word + number_room + 1
