-- Where numbers of eight bytes stand, a law that both kinds cite. Assumes nothing.
use Rattle.std.specs.Prelude.{◌≡◌, List, ℕ, zero, suc, ◌+◌, ◌*◌, ◌≤◌}
use Rattle.std.proofs.Common.{ap, ◌∙◌, add-zero, arith}
use Rattle.lent_bytes.specs.LentBytes.{part, le}
use Rattle.lent_bytes.specs.LentBytesLaws.{part_part}
use Rattle.table.specs.Memory.{word_of}

-- the number at the i-th eight bytes from a place on
abbrev pub word_at : List ℕ → ℕ → ℕ → ℕ
word_at s at zero = le (part s at 8)
word_at s at (suc i) = le (part s (at + 8 * suc i) 8)

-- a number of a part stands that much further on
pub word_place : (s : List ℕ) (at n i : ℕ) → 8 * (i + 1) ≤ n → word_of (part s at n) i ≡ word_at s at i
word_place s at n zero h = ap le (part_part s at n 0 8 (omega arith)) ∙ ap (λ (m : ℕ). le (part s m 8)) (add-zero at)
word_place s at n (suc i) h = ap le (part_part s at n (8 * suc i) 8 (omega arith))
