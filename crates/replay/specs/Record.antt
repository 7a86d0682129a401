-- What the contracts of `replay` say of a record: the words that its bytes spell, and the key and the amount that words spell.
-- Definitions only.
use Rattle.std.specs.Prelude.{Bool, not, List, ◌++◌, ℕ, ◌+◌, ◌*◌, eqb, ℤ}
use Rattle.amount.specs.Amount.{signed}
use Rattle.lent_bytes.specs.LentBytes.{part, le, bytes}
use Rattle.replay.specs.declared.record.Record.{Record}

-- the word at a place: 8 bytes, the least first
abbrev pub word_at : List ℕ → ℕ → ℕ
word_at s at = le (part s at 8)

-- the eight words of 64 bytes
unfoldable pub record_of : List ℕ → Record
record_of s =
    record {
      operation = word_at s 0;
      first = word_at s 8;
      second = word_at s 16;
      third = word_at s 24;
      fourth = word_at s 32;
      fifth = word_at s 40;
      sixth = word_at s 48;
      seventh = word_at s 56;
    }

-- the first 33 bytes of five words
unfoldable pub key_of : ℕ → ℕ → ℕ → ℕ → ℕ → List ℕ
key_of first second third fourth fifth =
    bytes 8 first ++ (bytes 8 second ++ (bytes 8 third ++ (bytes 8 fourth ++ bytes 1 fifth)))

-- whether a sign's word says minus
abbrev pub minus : ℕ → Bool
minus sign = not (eqb sign 0)

-- the integer that a sign, a low and a high word spell
unfoldable pub spelled : ℕ → ℕ → ℕ → ℤ
spelled sign low high = signed (minus sign) (low + 18446744073709551616 * high)
