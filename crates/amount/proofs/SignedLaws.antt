-- Sums and order of integers that are given by a sign and a number, as the code has them. Assumes nothing.
use Rattle.std.proofs.Common.{◌≡◌, ℕ, zero, suc, ◌+◌, ◌-◌, ◌^◌, ◌<◌, ◌≤◌, Bool, true, false, not, ◌&&◌, eqb, ltb, leb, List, ℤ, pos, ◌+ℤ◌, neg_ℤ, sym, refl, ap, ◌∙◌, le_of_suc-le-suc, not-suc-le-zero, arith, le-ltb, lt-ltb, ne_eqb, eqb-true, le-leb}
use mathlib.Core.Bool.{and-true, and-false}
use borrow.Author.Tests.{lt-leb, eqb-false}
use lib.Dec.{leb-suc-suc, eqb-suc-zero, eqb-suc-suc}
use lib.IntN.{neg_ℤ-neg_ℤ, neg_ℤ-+ℤ, +ℤ_comm}
use lib.Signed.{lt_z}
use Rattle.amount.specs.declared.Amount.{Amount}
use Rattle.amount_limbs.specs.Limbs.{digits}
use Rattle.amount.specs.Amount.{signed, value, minus_zero, saturated, in_range, natural}
use Rattle.amount.specs.Private.{Is}
use Rattle.amount.specs.AmountLaws.{minus_pos, saturated_beyond, saturated_signed, saturated_in_range, natural_negative, natural_other}

pub signed_not : (s : Bool) (n : ℕ) → signed (not s) n ≡ neg_ℤ (signed s n)
signed_not false n = refl
signed_not true n = sym (neg_ℤ-neg_ℤ (pos n))

-- ════ Sums ════

pub sum_same : (s : Bool) (n m : ℕ) → signed s n +ℤ signed s m ≡ signed s (n + m)
sum_same false n m = refl
sum_same true n m = sym (neg_ℤ-+ℤ (pos n) (pos m))

pub sum_larger : (s : Bool) {n m : ℕ} → m ≤ n → signed s n +ℤ signed (not s) m ≡ signed s (n - m)
sum_larger false h = minus_pos h
sum_larger true {n} {m} h =
    ap (λ (z : ℤ). neg_ℤ (pos n) +ℤ z) (sym (neg_ℤ-neg_ℤ (pos m)))
    ∙ sym (neg_ℤ-+ℤ (pos n) (neg_ℤ (pos m)))
    ∙ ap neg_ℤ (minus_pos h)

pub sum_smaller : (s : Bool) {n m : ℕ} → n ≤ m → signed s n +ℤ signed (not s) m ≡ signed (not s) (m - n)
sum_smaller false {n} {m} h = +ℤ_comm (pos n) (neg_ℤ (pos m)) ∙ sum_larger true h
sum_smaller true {n} {m} h = +ℤ_comm (neg_ℤ (pos n)) (pos m) ∙ sum_larger false h

-- a sum of one sign that is 2^127 away from 0, or more
pub sum_beyond : (s : Bool) (n m : ℕ) → 2 ^ 127 ≤ n + m → saturated (signed s (2 ^ 127)) ≡ saturated (signed s n +ℤ signed s m)
sum_beyond s n m h = sym (ap saturated (sum_same s n m) ∙ saturated_beyond s (n + m) h)

pub left_over : {M n : ℕ} (m : ℕ) → M ≤ n → M ≤ n + m
left_over m h = omega arith

pub right_over : {M m : ℕ} (n : ℕ) → M ≤ m → M ≤ n + m
right_over n h = omega arith

-- ════ Order ════

pub below_both_minus : (n m : ℕ) → lt_z (signed true n) (signed true m) ≡ ltb m n
below_both_minus zero zero = refl
below_both_minus zero (suc m) = sym (le-ltb (suc m) 0 (omega arith))
below_both_minus (suc n) zero = sym (lt-ltb 0 (suc n) (omega arith))
below_both_minus (suc n) (suc m) = sym (leb-suc-suc (suc m) n)

pub below_zero_plus : (m : ℕ) → ltb 0 m ≡ not (eqb m 0)
below_zero_plus zero = refl
below_zero_plus (suc m) = lt-ltb 0 (suc m) (omega arith) ∙ sym (ap not (ne_eqb (suc m) 0 (omega arith)))

pub below_minus_plus : (n m : ℕ) → (n ≡ 0 → ⊥) → lt_z (signed true n) (signed false m) ≡ true
below_minus_plus zero m h = absurd (h refl)
below_minus_plus (suc n) m h = refl

pub below_plus_minus : (n m : ℕ) → lt_z (signed false n) (signed true m) ≡ false
below_plus_minus n zero = le-ltb n 0 (omega arith)
below_plus_minus n (suc m) = refl

-- ════ The amount with a sign and limbs ════

zero_signed : (s : Bool) → signed s 0 ≡ pos 0
zero_signed false = refl
zero_signed true = refl

pub zero_is : (s : Bool) (n : ℕ) {limbs : List ℕ} → digits limbs ≡ n → n ≡ 0 → Is (record { negative = false; limbs = limbs }) (signed s n)
unfolding value minus_zero
zero_is s n {limbs} e z = record { stands = ap pos (e ∙ z) ∙ sym (rw z (zero_signed s)); plain = refl }

pub nonzero_is : (s : Bool) (n : ℕ) {limbs : List ℕ} → digits limbs ≡ n → (n ≡ 0 → ⊥) → Is (record { negative = s; limbs = limbs }) (signed s n)
unfolding value minus_zero
nonzero_is s n {limbs} e z =
    record {
      stands = ap (λ (k : ℕ). signed s k) e;
      plain = ap (λ (b : Bool). s && b) (ne_eqb (digits limbs) 0 (λ h. z (sym e ∙ h))) ∙ and-false s;
    }

-- ════ Whether a sign and a number are an i128 ════

pub plus_i128 : (n : ℕ) (t : Bool) → (t ≡ true → n < 2 ^ 127) → (t ≡ false → 2 ^ 127 ≤ n) → t ≡ (in_range (pos n) && true)
plus_i128 n true h k = sym (and-true (in_range (pos n)) ∙ le-leb n (2 ^ 127 - 1) (le_of_suc-le-suc (h refl)))
plus_i128 n false h k = sym (and-true (in_range (pos n)) ∙ lt-leb n (2 ^ 127 - 1) (k refl))

pub minus_within : (n : ℕ) → n < 2 ^ 127 → (in_range (signed true n) && not (eqb n 0)) ≡ not (eqb n 0)
minus_within n h =
    ap (λ (t : Bool). t && not (eqb n 0))
    (ap in_range (sym (saturated_signed true n h)) ∙ saturated_in_range (signed true n))

at_most : (M k : ℕ) → M ≤ k → leb k M ≡ eqb k M
at_most M k h = go (eqb k M) refl
  where
    go : (t : Bool) → eqb k M ≡ t → leb k M ≡ t
    go true e = le-leb k M (omega (arith, eqb-true k M e))
    go false e = lt-leb k M (let d : (k ≡ M → ⊥) = eqb-false k M e in omega arith)

pub minus_beyond : (n : ℕ) → 2 ^ 127 ≤ n → (in_range (signed true n) && not (eqb n 0)) ≡ eqb n (2 ^ 127)
minus_beyond zero h = absurd (not-suc-le-zero {n = 2 ^ 127 - 1} h)
minus_beyond (suc k) h =
    ap (λ (t : Bool). leb k (2 ^ 127 - 1) && not t) (eqb-suc-zero k)
    ∙ and-true (leb k (2 ^ 127 - 1))
    ∙ at_most (2 ^ 127 - 1) k (le_of_suc-le-suc h)
    ∙ sym (eqb-suc-suc k (2 ^ 127 - 1))

pub natural_minus : (n : ℕ) → natural (signed true n) ≡ 0
natural_minus zero = refl
natural_minus (suc n) = refl

-- an amount that stands for z, tested for its sign
pub negative_natural : {a : Amount} {z : ℤ} → Is a z → lt_z (value a) (pos 0) ≡ true → pos 0 ≡ pos (natural z)
negative_natural {a} {z} h test = ap pos (sym (natural_negative z (rw h.stands at test)))

pub other_natural : {a : Amount} {z : ℤ} → Is a z → lt_z (value a) (pos 0) ≡ false → z ≡ pos (natural z)
other_natural {a} {z} h test = natural_other z (rw h.stands at test)
