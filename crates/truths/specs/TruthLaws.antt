-- Laws of tests, the Bools that definitions choose by, beside those of `mathlib.Core.Bool`. In order: a test by its answers; two
-- tests, and one of two; what is chosen by a test. Assumes nothing.
use Rattle.std.specs.Prelude.{Bool, true, false, ◌&&◌, ◌||◌, cond, ◌≡◌, refl, ℕ}
use Rattle.std.proofs.Common.{arith}

-- ════ A test by its answers ════

-- a fact by the two answers of a test, each with the equation that says it
pub by_test {ℓ} : {B : Type ℓ} (t : Bool) → (t ≡ true → B) → (t ≡ false → B) → B
by_test true a b = a refl
by_test false a b = b refl

-- a test is not both true and false
pub true_is_not_false : {t : Bool} → t ≡ true → t ≡ false → ⊥
true_is_not_false h k = let z : ◌≡◌ {A = ℕ} 0 1 = cc in omega arith

-- ════ Two tests, and one of two ════

-- where both of two tests are passed, each is
pub both_parts : (a b : Bool) → (a && b) ≡ true → (a ≡ true) × (b ≡ true)
both_parts true b h = (refl, h)
both_parts false b h = absurd (true_is_not_false h refl)

-- two tests that are passed are passed together
pub both : {a b : Bool} → a ≡ true → b ≡ true → (a && b) ≡ true
both h k = rw (h, k)

-- where the second of two tests fails, they fail together
pub second_fails : (a : Bool) {b : Bool} → b ≡ false → (a && b) ≡ false
second_fails true h = h
second_fails false h = refl

-- where not one of two tests is passed, each fails
pub neither : (a b : Bool) → (a || b) ≡ false → (a ≡ false) × (b ≡ false)
neither true b h = absurd (true_is_not_false refl h)
neither false b h = (refl, h)

-- one of two tests is passed if the second is where the first is not
pub or_else : (a : Bool) {b : Bool} → (a ≡ false → b ≡ true) → (a || b) ≡ true
or_else true h = refl
or_else false h = h refl

-- ════ What is chosen by a test ════

-- a property of both choices, each where it is the one, is one of the choice
pub chosen : {A : Type 0} (P : A → Type 0) (t : Bool) {x y : A} → (t ≡ true → P x) → (t ≡ false → P y) → P (cond t x y)
chosen P true first second = first refl
chosen P false first second = second refl

-- a property of both choices is one of the choice
pub either : {A : Type 0} (P : A → Type 0) (t : Bool) {x y : A} → P x → P y → P (cond t x y)
either P t first second = chosen P t (λ _. first) (λ _. second)

-- two choices by one test are the same where each side is
pub same_choice : {A : Type 0} (t : Bool) {x x' y y' : A} → (t ≡ true → x ≡ x') → (t ≡ false → y ≡ y') → cond t x y ≡ cond t x' y'
same_choice true h k = h refl
same_choice false h k = k refl
