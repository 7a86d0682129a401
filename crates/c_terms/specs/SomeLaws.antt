-- At most one outcome behind the C boundary: a call that has one answer leaves one thing. Assumes nothing.
use Rattle.std.specs.Prelude.{◌≡◌}
use Rattle.std.proofs.Common.{subst}
use Rattle.refusal.specs.Some.{Some}

-- where the call has one answer, with what else it determines, and an answer leaves one thing, so does the exported function
pub some_one : {A : Type 0} {meets left meets' left' : A → Type 0} {Else Left : Type 0}
    → ((a b : A) → meets a → meets' b → (a ≡ b) × Else) → ((a : A) → left a → left' a → Left) → Some meets left → Some meets' left'
    → Left × Else
some_one {left = left} one leaves h k =
    let same = one h.answer k.answer h.met k.met in
    (leaves k.answer (subst left same.0 h.leaves) k.leaves, same.1)

-- the same, where the call determines nothing else
pub some_alone : {A : Type 0} {meets left meets' left' : A → Type 0} {Left : Type 0}
    → ((a b : A) → meets a → meets' b → a ≡ b) → ((a : A) → left a → left' a → Left) → Some meets left → Some meets' left' → Left
some_alone one leaves h k = (some_one (λ a b m n. (one a b m n, tt {0})) leaves h k).0
