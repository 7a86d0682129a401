-- What a call leaves behind the C boundary. Definitions only.
use Rattle.std.specs.Prelude.{◌≡◌, List, [], ◌∷◌, ℕ}
use Rattle.c_terms.specs.declared.reply.Reply.{Reply}
use Rattle.c_terms.specs.Answers.{kept}

-- the number returned is what is said; the words become these, and the value what is said, or stay on a refusal
abbrev pub Left : Reply → List ℕ → List ℕ → List ℕ → List ℕ → List ℕ → ℕ → List ℕ → List ℕ → List ℕ → Type 0
Left reply toLongs toShorts longs shorts value r longs' shorts' value' =
    (r ≡ reply.number)
    × (longs' ≡ kept reply.number longs toLongs)
    × (shorts' ≡ kept reply.number shorts toShorts)
    × (value' ≡ kept reply.number value (reply.value ∷ []))

-- a call that is lent nothing to change: so it is done, and the table stays
abbrev pub Untouched : {D : Type 0} → D → D → List ℕ → List ℕ → Type 0
Untouched d e before after = (d ≡ e) × (after ≡ before)
