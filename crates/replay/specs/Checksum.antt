-- What the contracts of `replay` say of a checksum, and of bytes that look like anything.
-- Definitions only; their laws are in `ChecksumLaws`.
use Rattle.std.specs.Prelude.{◌≡◌, List, [], ◌∷◌, ◌++◌, ℕ, zero, suc, ◌+◌, ◌*◌, ◌/◌, ◌%◌, length}

-- a sum with a number added, modulo the largest prime below 2^55
unfoldable pub added : ℕ → ℕ → ℕ
added sum n = (sum % 36028797018963913 * 257 + n + 1) % 36028797018963913

-- with a word's two halves added, the low one first
unfoldable pub word_added : ℕ → ℕ → ℕ
word_added sum n = added (added sum (n % 4294967296)) (n / 4294967296)

-- with numbers added, the first one first
unfoldable pub all_added : ℕ → List ℕ → ℕ
all_added sum [] = sum
all_added sum (n ∷ ns) = all_added (added sum n) ns

-- the seed after so many made-up bytes
unfoldable pub seed_after : ℕ → ℕ → ℕ
seed_after seed zero = seed
seed_after seed (suc n) = added (seed_after seed n) 7

-- so many made-up bytes: each is the lowest byte of the seed after it
unfoldable pub made_up : ℕ → ℕ → List ℕ
made_up seed zero = []
made_up seed (suc n) = made_up seed n ++ (seed_after seed (suc n) % 256 ∷ [])

-- a memory becomes as many made-up bytes as it has, and the seed after them is answered
abbrev pub Filled : List ℕ → ℕ → ℕ → List ℕ → Type 0
Filled before seed answer after = (answer ≡ seed_after seed (length before)) × (after ≡ made_up seed (length before))
