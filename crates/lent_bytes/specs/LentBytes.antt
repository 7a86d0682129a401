-- What the contracts of `lent_bytes` say: little-endian numbers, a part of a list of bytes, and the one way of writing
-- into one, `put`, that every contract over lent memory is stated by. Definitions only; their laws are in `LentBytesLaws`.
use Rattle.std.specs.Prelude.{List, [], ◌∷◌, ◌++◌, ℕ, zero, suc, ◌+◌, ◌*◌, ◌/◌, ◌%◌, ◌<◌, length, take, drop, get_or, replicate}

-- the n bytes of s that begin at the place `at`
unfoldable pub part : List ℕ → ℕ → ℕ → List ℕ
part s at n = take n (drop at s)

-- s with the bytes b written over it from the place `at` on
unfoldable pub put : List ℕ → ℕ → List ℕ → List ℕ
put s at b = take at s ++ (b ++ drop (at + length b) s)

-- the number that bytes spell, the least first
abbrev pub le : List ℕ → ℕ
le [] = 0
le (b ∷ bs) = b + 256 * le bs

-- the n bytes that spell v, the least first
abbrev pub bytes : ℕ → ℕ → List ℕ
bytes zero v = []
bytes (suc n) v = v % 256 ∷ bytes n (v / 256)

-- n zero bytes
abbrev pub zeros : ℕ → List ℕ
zeros n = replicate n 0

-- every element of s is a byte: this is what a slice of bytes offers of the list that stands in it
abbrev pub Bytes : List ℕ → Type 0
Bytes s = (i : ℕ) → get_or s i 0 < 256
