-- `lent_bytes::number::front_at` meets its contract. Assumes nothing.
use Rattle.std.proofs.Common.{◌≡◌, ap, ◌∙◌, List, ℕ, arith}
use Rattle.std.specs.Int.{w64, from_be_bytes}
use Rattle.lent_bytes.specs.Private.{front}
use Rattle.lent_bytes.specs.FrontLaws.{front_part}
use Rattle.lent_bytes.proofs.number.front_at.Goals as goal

-- the sum of eight bytes, each at its worth
eight : (b : List ℕ) → from_be_bytes w64 b ≡ front 8 b 0
unfolding front
eight b = omega arith

pub returns : goal.returns
returns c =
    let read = c.array_at.ensures in
    let h = ap (λ (b : List ℕ). front 8 b 0) read ∙ front_part 8 c.args.s.now c.args.at 8 (omega arith) in
    c.from_be_bytes.ensures ∙ eight c.array_at.result ∙ h
