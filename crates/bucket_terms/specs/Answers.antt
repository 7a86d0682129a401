-- What the buckets' answers say. Definitions only.
use Rattle.std.specs.Prelude.{ℕ, Bool, true, false, List, [], ◌∷◌, ◌++◌, Result, Ok, Err, codes, decimal}
use Rattle.refusal.specs.declared.Refusal.{Refusal}
use Rattle.refusal.specs.Refusal.{Said, gives, refused, number_of, text_of}
use Rattle.bucket_terms.specs.declared.answer.NotGiven.{NotGiven}
use Rattle.bucket_terms.specs.declared.answer.NotGiven.TheVariants as NotGiven

-- a bucket that was brought up to date
abbrev pub refilled_says : Result (Unit {0}) Refusal → Said
refilled_says (Ok tt) = gives []
refilled_says (Err r) = refused (number_of r)

-- 1 for yes; 0 for no, and by how much it fell short
abbrev pub consumed_says : Result (Unit {0}) NotGiven → Said
consumed_says (Ok tt) = gives (1 ∷ [])
consumed_says (Err (NotGiven.Short short)) = gives (0 ∷ short ∷ [])
consumed_says (Err (NotGiven.Refused r)) = refused (number_of r)

-- so many milliseconds
abbrev pub delay_says : Result ℕ Refusal → Said
delay_says (Ok ms) = gives (ms ∷ [])
delay_says (Err r) = refused (number_of r)

-- 1 for yes, 0 for no
abbrev pub told_says : Result Bool Refusal → Said
told_says (Ok true) = gives (1 ∷ [])
told_says (Ok false) = gives (0 ∷ [])
told_says (Err r) = refused (number_of r)

-- a test as an answer
abbrev pub told : Bool → Result Bool Refusal
told = Ok

-- what is shown of what a bucket did not give
abbrev pub not_given_text : NotGiven → List ℕ
not_given_text (NotGiven.Short by) = codes "short by " ++ decimal by
not_given_text (NotGiven.Refused r) = text_of r
