-- What the laws of the buckets' answers share. Assumes nothing.
use Rattle.std.specs.Prelude.{◌≡◌, Bool, true, false, cond}
use Rattle.std.proofs.Common.{sym, ◌∙◌, ap}

-- what a call hands back where it refuses, if it refuses nothing that is sound
pub refused_leaves : {Handed Bucket Answer : Type 0} (bucket : Handed → Bucket) (answer : Handed → Answer) (sound : Bool)
    {r done left : Handed} {no : Answer}
    → r ≡ cond sound done left → answer r ≡ no → (answer done ≡ no → ⊥) → bucket r ≡ bucket left
refused_leaves bucket answer true e k never = absurd (never (sym (ap answer e) ∙ k))
refused_leaves bucket answer false e k never = ap bucket e

-- of two that a test chooses from, neither refuses: the chosen one does not
pub neither_refuses : {Handed Answer : Type 0} (answer : Handed → Answer) (test : Bool) (x y : Handed) {no : Answer}
    → (answer x ≡ no → ⊥) → (answer y ≡ no → ⊥) → answer (cond test x y) ≡ no → ⊥
neither_refuses answer true x y h k = h
neither_refuses answer false x y h k = k
