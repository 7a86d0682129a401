-- Two tests that hold together have the same answer. Assumes nothing.
use Rattle.std.proofs.Common.{◌≡◌, ℕ, ◌<◌, ◌≤◌, Bool, true, false, not, eqb, ltb, sym, refl, ltb-false, ltb-true, le-ltb, lt-ltb, eq-eqb, ne_eqb, eqb-true}
use mathlib.Core.Bool.{beq}
use borrow.Author.Tests.{eqb-false}

pub same_ltb : (a b c d : ℕ) → (a < b → c < d) → (b ≤ a → d ≤ c) → ltb a b ≡ ltb c d
same_ltb a b c d h k = go (ltb a b) refl
  where
    go : (t : Bool) → ltb a b ≡ t → t ≡ ltb c d
    go true e = sym (lt-ltb c d (h (ltb-true a b e)))
    go false e = sym (le-ltb c d (k (ltb-false a b e)))

pub same_eqb : (a b c d : ℕ) → (a ≡ b → c ≡ d) → ((a ≡ b → ⊥) → c ≡ d → ⊥) → eqb a b ≡ eqb c d
same_eqb a b c d h k = go (eqb a b) refl
  where
    go : (t : Bool) → eqb a b ≡ t → t ≡ eqb c d
    go true e = sym (eq-eqb c d (h (eqb-true a b e)))
    go false e = sym (ne_eqb c d (k (eqb-false a b e)))

-- two signs that are equal, and two that are not
pub beq_same : (s t : Bool) → beq s t ≡ true → t ≡ s
beq_same true true h = refl
beq_same true false h = h
beq_same false true h = sym h
beq_same false false h = refl

pub beq_other : (s t : Bool) → beq s t ≡ false → t ≡ not s
beq_other true true h = h
beq_other true false h = refl
beq_other false true h = refl
beq_other false false h = sym h
