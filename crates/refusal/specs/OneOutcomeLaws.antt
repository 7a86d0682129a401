-- At most one outcome satisfies a contract that says "the outcome is this": the lemma that every call's law is a line of.
-- Assumes nothing.
use Rattle.std.specs.Prelude.{◌≡◌}
use Rattle.std.proofs.Common.{sym, ◌∙◌}

pub one_outcome {ℓ} : {A : Type ℓ} {outcome first second : A} → first ≡ outcome → second ≡ outcome → first ≡ second
one_outcome p q = p ∙ sym q
