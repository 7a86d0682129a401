-- The orders of `specs/Order` are those that the standard library's `cmp` and `then` answer by. Assumes nothing.
use Rattle.std.proofs.Common.{◌≡◌, refl, sym, ap, ◌∙◌, ℕ, Bool, true, false, List, ◌+◌, ◌≤◌, ◌<◌, min, length, drop, slice_index, ⊎_elim, arith}
use Rattle.std.specs.Cmp.{nat_cmp_is}
use Rattle.std.proofs.lemmas.Cmp.{ranked}
use Rattle.std.specs.Ordering.{nat_cmp, bool_cmp, ordering_then, is_ne}
use Rattle.std.specs.declared.cmp.Ordering.{Ordering}
use Rattle.std.specs.declared.cmp.Ordering.TheVariants.{Less, Equal, Greater}
use Rattle.pubkey.specs.Order.{◌then◌, compare_numbers, compare_bytes, compare_sides}
use Rattle.lent_bytes.specs.LentBytes.{Bytes}
use Rattle.lent_bytes.specs.Private.{front}
use Rattle.pubkey.specs.FrontLaws.{compare_fronts}
use Rattle.pubkey.specs.OrderLaws.{numbers_less, numbers_equal, numbers_greater, numbers_cases, compare_from, first_ended, second_ended, both_ended}

pub then_is : (p q : Ordering) → p then q ≡ ordering_then p q
then_is Less q = refl
then_is Equal q = refl
then_is Greater q = refl

pub numbers_are : (x y : ℕ) → compare_numbers x y ≡ nat_cmp x y
numbers_are x y =
    ⊎_elim (λ h. numbers_less h ∙ nat_cmp_is x y Less h)
    (⊎_elim (λ h. numbers_equal h ∙ nat_cmp_is x y Equal h)
    (λ h. numbers_greater h ∙ nat_cmp_is x y Greater h))
    (numbers_cases x y)

pub sides_are : (a b : Bool) → compare_sides a b ≡ bool_cmp a b
sides_are true true = refl
sides_are true false = refl
sides_are false true = refl
sides_are false false = refl

-- an answer that decides, and one that doesn't
pub decided : (o p : Ordering) → is_ne o ≡ true → o then p ≡ o
decided Less p h = refl
decided Equal p h = cc
decided Greater p h = refl

pub undecided : (o p : Ordering) → is_ne o ≡ false → o then p ≡ p
undecided Less p h = cc
undecided Equal p h = refl
undecided Greater p h = cc

-- from a place on, two lists compare as the fronts there do, and then as what is behind them
pub by_fronts : (n : ℕ) (a b : List ℕ) (i x y : ℕ) (o : Ordering) → x ≡ front n a i → y ≡ front n b i → o ≡ nat_cmp x y
    → Bytes a → Bytes b → i + n ≤ length a → i + n ≤ length b
    → compare_bytes (drop i a) (drop i b) ≡ o then compare_bytes (drop (i + n) a) (drop (i + n) b)
by_fronts n a b i x y o e f g fa fb ha hb =
    let same : compare_numbers (front n a i) (front n b i) ≡ o =
    numbers_are (front n a i) (front n b i) ∙ sym (g ∙ rw (e, f)) in
    compare_fronts n a b i fa fb ha hb ∙ ap (λ (p : Ordering). p then compare_bytes (drop (i + n) a) (drop (i + n) b)) same

-- and by one byte
pub by_byte : (a b : List ℕ) (i : ℕ) (o : Ordering) → o ≡ nat_cmp (slice_index a i) (slice_index b i) → i < length a → i < length b
    → compare_bytes (drop i a) (drop i b) ≡ o then compare_bytes (drop (i + 1) a) (drop (i + 1) b)
by_byte a b i o e h k =
    let same : compare_numbers (slice_index a i) (slice_index b i) ≡ o = numbers_are (slice_index a i) (slice_index b i) ∙ sym e in
    compare_from a b i h k ∙ ap (λ (p : Ordering). p then compare_bytes (drop (i + 1) a) (drop (i + 1) b)) same

-- where one has ended, or both have, the longer comes last
pub by_length : (a b : List ℕ) (i : ℕ) (o : Ordering) → o ≡ nat_cmp (length a) (length b) → i ≡ min (length a) (length b)
    → compare_bytes (drop i a) (drop i b) ≡ o
by_length a b i Less e h = first_ended a b i (omega (arith, ranked (length a) (length b) Less e)) (omega (arith, ranked (length a) (length b) Less e))
by_length a b i Equal e h = both_ended a b i (omega (arith, ranked (length a) (length b) Equal e)) (omega (arith, ranked (length a) (length b) Equal e))
by_length a b i Greater e h = second_ended a b i (omega (arith, ranked (length a) (length b) Greater e)) (omega (arith, ranked (length a) (length b) Greater e))
