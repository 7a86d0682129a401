-- What it means that two states are the same policy: they are alike now, and whatever is called from here on says the same on both and
-- leaves them alike. Bytes that hold no row may differ, and so may the memories' lengths. Definitions only.
use Rattle.std.specs.Prelude.{◌≡◌, true, List, [], ◌∷◌, ℕ, take}
use Rattle.std.specs.Prelude.{Result, Ok}
use Rattle.refusal.specs.declared.Refusal.{Refusal}
use Rattle.lent_bytes.specs.LentBytes.{Bytes}
use Rattle.refusal.specs.Refusal.{Said}
use Rattle.peer_message_policy.specs.Policy.{sound}
use Rattle.peer_runs.specs.Runs.{Call, State, rows_in, Step, CallFits}
use Rattle.snapshot.specs.Snapshot.{WriteMeets}

-- the same policy, with the same rows in both memories, and both sound; memory holds bytes, as all memory does
pub record Alike (s t : State) : Type 0 where
  pub policy : t.policy ≡ s.policy
  pub rows : rows_in t ≡ rows_in s
  pub first_sound : sound s.policy s.memory ≡ true
  pub second_sound : sound t.policy t.memory ≡ true
  pub first_bytes : Bytes s.memory
  pub second_bytes : Bytes t.memory

-- calls one after another, with any arguments and any times, what each of them said, and the state that they lead to
pub data Calls : State → List Call → List Said → State → Type 0 where
  done : {s : State} → Calls s [] [] s
  next : {s : State} {calls : List Call} {saids : List Said} {u : State} (call : Call) (said : Said) (t : State)
      → CallFits call → Step s call said t → Calls t calls saids u → Calls s (call ∷ calls) (said ∷ saids) u

-- a snapshot of either is the same
pub record WrittenAlike (s t : State) : Type 0 where
  -- written into the same output, it is answered the same and leaves the same output
  pub same_output : (out : List ℕ) (r q : Result ℕ Refusal) (x y : List ℕ) → WriteMeets s.policy s.memory out r x
      → WriteMeets t.policy t.memory out q y → (r ≡ q) × (x ≡ y)
  -- written into any two outputs, it has the same length and the same bytes
  pub any_outputs : (out other : List ℕ) (n m : ℕ) (x y : List ℕ) → WriteMeets s.policy s.memory out (Ok n) x
      → WriteMeets t.policy t.memory other (Ok m) y → (n ≡ m) × (take n x ≡ take m y)

-- the same policy: after any calls, none included, both have said the same and are alike, and so are their snapshots
abbrev pub SamePolicy : State → State → Type 0
SamePolicy s t =
    (calls : List Call) (saids others : List Said) (u v : State) → Calls s calls saids u → Calls t calls others v
    → (saids ≡ others) × Alike u v × WrittenAlike u v
