-- `amount::Amount::is_above` meets its contract. What `is_less` says of the two magnitudes, said of n and the amount's integer. Assumes nothing.
use Rattle.std.proofs.Common.{ℕ, pos, ap, ◌∙◌}
use lib.Signed.{lt_z}
use Rattle.amount.specs.Amount.{value, signed}
use Rattle.amount.specs.Private.{size}
use Rattle.amount.proofs.Amount.is_above.Goals as goal

pub returns : goal.returns
unfolding value
returns c =
    let s = c.args.self.negative in
    c.is_less.ensures
    ∙ ap (λ (n : ℕ). lt_z (pos n) (signed s (size c.magnitude.result))) c.of_u64.ensures
    ∙ ap (λ (n : ℕ). lt_z (pos c.args.n) (signed s n)) c.magnitude.ensures
