-- At most one outcome satisfies a contract that says `Meets`: the same answer and the same memory. Assumes nothing.
use Rattle.std.specs.Prelude.{◌≡◌, List, ℕ}
use Rattle.std.proofs.Common.{sym, ◌∙◌}
use Rattle.table.specs.Memory.{Layout}
use Rattle.table.specs.Outcome.{Change, same, become, Memory, Outcome, Meets}

-- a change leaves one memory
one_memory : {A : Type 0} (L : Layout A) (before : List ℕ) {first second : List ℕ} (n : ℕ) (change : Change A)
    → Memory L before first n change → Memory L before second n change → first ≡ second
one_memory L before n same h k = h ∙ sym k
one_memory L before n (become rs) h k = h.memory ∙ sym k.memory

-- an outcome has one answer and leaves one memory
pub one_meets : {A : Type 0} {L : Layout A} {R : Type 0} {a b : R} {before first second : List ℕ} {n : ℕ} {o : Outcome A R}
    → Meets L a before first n o → Meets L b before second n o → (a ≡ b) × (first ≡ second)
one_meets {L = L} {before = before} {n = n} {o = o} h k =
    (h.answers ∙ sym k.answers, one_memory L before n o.change h.leaves k.leaves)
