-- `amount_of` gives the amount that the words spell: four limbs are two halves of two limbs each. Assumes nothing.
use Rattle.std.proofs.Common.{◌≡◌, refl, ap, [], ◌∷◌, ℕ, ◌+◌, ◌*◌, ◌/◌, ◌%◌, arith}
use Rattle.amount_limbs.specs.Limbs.{digits}
use Rattle.amount.specs.Amount.{value, signed}
use Rattle.replay.specs.Record.{minus, spelled}
use Rattle.replay.proofs.record.amount_of.Goals as goal

-- the limbs of two words
limbs : (low high : ℕ)
    → digits (low % 4294967296 ∷ low / 4294967296 ∷ high % 4294967296 ∷ high / 4294967296 ∷ []) ≡ low + 18446744073709551616 * high
limbs low high = omega arith

pub returns : goal.returns
unfolding value spelled
returns c =
    let args = c.args in (
      refl,
      ap (signed (minus args.sign))
          (rw (c.high_half-2.ensures, c.low_half-2.ensures, c.high_half.ensures, c.low_half.ensures) (limbs args.low args.high)),
    )
