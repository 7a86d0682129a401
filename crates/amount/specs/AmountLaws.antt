-- Laws of `Amount`: what its definitions say, for callers' proofs to cite. Assumes nothing.
use Rattle.std.specs.Prelude.{◌≡◌, ℕ, zero, suc, ◌+◌, ◌-◌, ◌*◌, ◌^◌, ◌<◌, ◌≤◌, min, Bool, true, false, cond, not, ◌&&◌, List, [], ◌∷◌, length, ℤ, pos, negsuc, ◌+ℤ◌, ◌-ℤ◌, ◌==◌, ◌≢◌, int_lt, nat_lt, slice_index, refl}
use Rattle.std.proofs.Common.{sym, ◌∙◌, ap, mul-le-mul_left, le_of_lt, le_of_suc-le-suc, not-suc-le-zero, arith, leb-true, lt-ltb, ltb-true, ltb-false, le-leb, Fits}
use Rattle.std.proofs.Math.Nat.{min-eq_left, min-eq_right, min-le_right}
use Rattle.std.proofs.lemmas.Bool.{not-true}
use Rattle.std.specs.Int.{w32}
use Rattle.std.proofs.Math.IntN.{+ℤ-neg_ℤ_cancel}
use Rattle.truths.specs.TruthLaws.{true_is_not_false, both_parts}
use Rattle.amount.specs.declared.Amount.{Amount}
use Rattle.amount_limbs.specs.Limbs.{digits}
use Rattle.amount.specs.Amount.{signed, value, minus_zero, saturated, natural, lesser, in_range, is_i128}
use Rattle.amount.specs.Private.{Is}

-- ════ Four limbs, each below 2^32: what the language gives of any amount that a program holds (`search needs` finds it) ════

pub record Whole (a : Amount) : Type 0 where
  pub four : length a.limbs ≡ 4
  pub fit : (i : ℕ) → Fits w32 (slice_index a.limbs i)

-- a digit below P before a number below Q makes a number below P * Q
pub digit_under : {P Q x y : ℕ} → x < P → y < Q → x + P * y < P * Q
digit_under {P} {Q} {x} {y} h k = omega (arith, mul-le-mul_left P k)

too_long : {n : ℕ} → suc (suc (suc (suc (suc n)))) ≢ 4
too_long h = omega arith

-- four limbs spelt out, in two halves
pub digits_four : (xs : List ℕ) → length xs ≡ 4 → digits xs ≡ slice_index xs 0 + 4294967296 * slice_index xs 1 + 18446744073709551616 * (slice_index xs 2 + 4294967296 * slice_index xs 3)
digits_four [] h = omega arith
digits_four (a ∷ []) h = omega arith
digits_four (a ∷ b ∷ []) h = omega arith
digits_four (a ∷ b ∷ c ∷ []) h = omega arith
digits_four (a ∷ b ∷ c ∷ d ∷ []) h = omega arith
digits_four (a ∷ b ∷ c ∷ d ∷ e ∷ xs) h = absurd (too_long h)

-- the magnitude of an amount is below 2^128
pub whole_below : {a : Amount} → Whole a → digits a.limbs < 2 ^ 128
whole_below {a} w =
    rw (digits_four a.limbs w.four)
    (digit_under {P = 2 ^ 64} {Q = 2 ^ 64}
    (digit_under {P = 2 ^ 32} {Q = 2 ^ 32} (w.fit 0).fits (w.fit 1).fits)
    (digit_under {P = 2 ^ 32} {Q = 2 ^ 32} (w.fit 2).fits (w.fit 3).fits))

never : (n m : ℕ) → negsuc n ≢ pos m
never n m h = let z : ◌≡◌ {A = ℕ} 0 1 = cc in omega arith

-- limbs are their number's only ones: lists of one length, each limb below 2^32
pub digits_injective : (xs ys : List ℕ) → length xs ≡ length ys → ((i : ℕ) → slice_index xs i < 2 ^ 32) → ((i : ℕ) → slice_index ys i < 2 ^ 32) → digits xs ≡ digits ys → xs ≡ ys
digits_injective [] [] l f g e = refl
digits_injective [] (y ∷ ys) l f g e = absurd (omega arith)
digits_injective (x ∷ xs) [] l f g e = absurd (omega arith)
digits_injective (x ∷ xs) (y ∷ ys) l f g e =
    let head : x ≡ y = omega (arith, f 0, g 0) in
    let rest : digits xs ≡ digits ys = omega (arith, f 0, g 0) in
    let tail : xs ≡ ys =
    digits_injective xs ys (omega arith) (λ i. f (suc i)) (λ i. g (suc i)) rest
    in
    cc

-- a sign and a number are their integer's only ones, minus zero apart
pub signed_injective : (s t : Bool) (n m : ℕ) → (s && n == 0) ≡ false → (t && m == 0) ≡ false → signed s n ≡ signed t m → (s ≡ t) × (n ≡ m)
signed_injective false false n m h k e = (refl, (cc))
signed_injective true false zero m h k e = absurd (true_is_not_false refl h)
signed_injective true false (suc n) m h k e = absurd (never n m e)
signed_injective false true n zero h k e = absurd (true_is_not_false refl k)
signed_injective false true n (suc m) h k e = absurd (never m n (sym e))
signed_injective true true zero m h k e = absurd (true_is_not_false refl h)
signed_injective true true (suc n) zero h k e = absurd (true_is_not_false refl k)
signed_injective true true (suc n) (suc m) h k e = (refl, (cc))

-- an amount is its integer's only one
pub one_representation : {a b : Amount} → Whole a → Whole b → minus_zero a ≡ false → minus_zero b ≡ false → value a ≡ value b → a ≡ b
unfolding value minus_zero
one_representation {a} {b} v w h k e =
    let same = signed_injective a.negative b.negative (digits a.limbs) (digits b.limbs) h k e in
    let limbs =
    digits_injective a.limbs b.limbs (v.four ∙ sym w.four) (λ i. (v.fit i).fits) (λ i. (w.fit i).fits) same.1
    in
    λ i. record { negative = same.0 i; limbs = limbs i }

-- what an amount stands for, under an equal name
pub is_moved : {a : Amount} {z w : ℤ} → z ≡ w → Is a z → Is a w
is_moved e h = record { stands = h.stands ∙ e; plain = h.plain }

-- two answers that stand for one integer are equal
pub is_unique : {a b : Amount} {z : ℤ} → Whole a → Whole b → Is a z → Is b z → a ≡ b
is_unique v w h k = one_representation v w h.plain k.plain (h.stands ∙ sym k.stands)

-- an amount that stands for n has n's digits and no sign
pub is_pos : {a : Amount} {n : ℕ} → Is a (pos n) → (digits a.limbs ≡ n) × (a.negative ≡ false)
unfolding value minus_zero
is_pos {a} {n} h =
    let same = signed_injective a.negative false (digits a.limbs) n h.plain refl h.stands in
    (same.1, same.0)

-- ════ The range of an i128 ════

-- what is in range stays
pub saturated_pos : {n : ℕ} → n < 2 ^ 127 → saturated (pos n) ≡ pos n
unfolding saturated
saturated_pos h = ap pos (min-eq_left (le_of_suc-le-suc {m = 2 ^ 127 - 1} h))

pub saturated_negsuc : {n : ℕ} → n < 2 ^ 127 → saturated (negsuc n) ≡ negsuc n
unfolding saturated
saturated_negsuc h = ap negsuc (min-eq_left (le_of_suc-le-suc {m = 2 ^ 127 - 1} h))

pub saturated_in : (z : ℤ) → in_range z ≡ true → saturated z ≡ z
unfolding saturated
saturated_in (pos n) h = ap pos (min-eq_left (leb-true n (2 ^ 127 - 1) h))
saturated_in (negsuc n) h = ap negsuc (min-eq_left (leb-true n (2 ^ 127 - 1) h))

pub saturated_signed : (s : Bool) (n : ℕ) → n < 2 ^ 127 → saturated (signed s n) ≡ signed s n
saturated_signed false n h = saturated_pos h
saturated_signed true zero h = saturated_pos h
saturated_signed true (suc n) h = saturated_negsuc (le_of_lt h)

-- what is 2^127 away from 0, or more, ends where 2^127 does
pub saturated_beyond : (s : Bool) (n : ℕ) → 2 ^ 127 ≤ n → saturated (signed s n) ≡ saturated (signed s (2 ^ 127))
unfolding saturated
saturated_beyond false n h = ap pos (min-eq_right (le_of_lt {n = 2 ^ 127 - 1} h))
saturated_beyond true zero h = absurd (not-suc-le-zero {n = 2 ^ 127 - 1} h)
saturated_beyond true (suc n) h = ap negsuc (min-eq_right (le_of_suc-le-suc h))

pub saturated_in_range : (z : ℤ) → in_range (saturated z) ≡ true
unfolding saturated
saturated_in_range (pos n) = le-leb _ _ (min-le_right n (2 ^ 127 - 1))
saturated_in_range (negsuc n) = le-leb _ _ (min-le_right n (2 ^ 127 - 1))

-- an i128 is in range and no minus zero
pub i128_in_range : (a : Amount) → is_i128 a ≡ true → in_range (value a) ≡ true
unfolding is_i128
i128_in_range a h = (both_parts (in_range (value a)) (not (minus_zero a)) h).0

pub i128_plain : (a : Amount) → is_i128 a ≡ true → minus_zero a ≡ false
unfolding is_i128
i128_plain a h = not-true (minus_zero a) (both_parts (in_range (value a)) (not (minus_zero a)) h).1

pub i128_saturated : (a : Amount) → is_i128 a ≡ true → saturated (value a) ≡ value a
i128_saturated a h = saturated_in (value a) (i128_in_range a h)

-- a saturated answer is an i128
pub saturated_i128 : {a : Amount} (z : ℤ) → Is a (saturated z) → is_i128 a ≡ true
unfolding is_i128
saturated_i128 {a} z h = rw (h.stands, h.plain, saturated_in_range z)

-- ════ Amounts that stand for natural numbers ════

pub natural_pos : (n : ℕ) → natural (pos n) ≡ n
natural_pos n = refl

pub below_pos : (a : Amount) {n : ℕ} (m : ℕ) → value a ≡ pos n → int_lt (value a) (pos m) ≡ nat_lt n m
below_pos a m h = rw h

pub above_pos : (a : Amount) {n : ℕ} (m : ℕ) → value a ≡ pos n → int_lt (pos m) (value a) ≡ nat_lt m n
above_pos a m h = rw h

pub saturated_sum_pos : (n m : ℕ) → saturated (pos n +ℤ pos m) ≡ pos (min (n + m) (2 ^ 127 - 1))
unfolding saturated
saturated_sum_pos n m = refl

pub lesser_pos : (n m : ℕ) → lesser (pos n) (pos m) ≡ pos (min n m)
lesser_pos n m = go (nat_lt n m) refl
  where
    go : (b : Bool) → nat_lt n m ≡ b → cond b (pos n) (pos m) ≡ pos (min n m)
    go true h = ap pos (sym (min-eq_left (le_of_lt (ltb-true n m h))))
    go false h = ap pos (sym (min-eq_right (ltb-false n m h)))

-- the smaller of two integers, by the test
pub lesser_left : (a b : ℤ) → int_lt a b ≡ true → lesser a b ≡ a
lesser_left a b h = ap (λ (t : Bool). cond t a b) h

pub lesser_right : (a b : ℤ) → int_lt a b ≡ false → lesser a b ≡ b
lesser_right a b h = ap (λ (t : Bool). cond t a b) h

-- a negative integer counts as 0, and any other is its natural number
pub natural_negative : (z : ℤ) → int_lt z (pos 0) ≡ true → natural z ≡ 0
natural_negative (pos n) h = omega (arith, ltb-true n 0 h)
natural_negative (negsuc n) h = refl

pub natural_other : (z : ℤ) → int_lt z (pos 0) ≡ false → z ≡ pos (natural z)
natural_other (pos n) h = refl
natural_other (negsuc n) h = absurd (true_is_not_false refl h)

pub minus_pos : {n m : ℕ} → m ≤ n → pos n -ℤ pos m ≡ pos (n - m)
minus_pos {n} {m} h =
    let e : n ≡ (n - m) + m = omega arith in
    ap (λ (k : ℕ). pos k -ℤ pos m) e ∙ +ℤ-neg_ℤ_cancel (pos (n - m)) (pos m)

less_under : {n M : ℕ} (m : ℕ) → n < M → n - m < M
less_under m h = omega arith

minus_more : (n m : ℕ) → n < m → natural (saturated (pos n -ℤ pos m)) ≡ n - m
unfolding saturated
minus_more n zero h = absurd (not-suc-le-zero h)
minus_more n (suc m) h =
    let none : n - suc m ≡ 0 = omega arith in
    ap (λ (t : Bool). natural (saturated (cond t (negsuc (suc m - suc n)) (pos (n - suc m))))) (lt-ltb n (suc m) h)
    ∙ sym none

pub saturated_minus_pos : {n m : ℕ} → n < 2 ^ 127 → m ≤ n → saturated (pos n -ℤ pos m) ≡ pos (n - m)
saturated_minus_pos {n} {m} h k = ap saturated (minus_pos k) ∙ saturated_pos (less_under m h)

-- what n lacks of m, where m may be more than n: the difference of natural numbers
pub natural_minus_pos : {n : ℕ} (m : ℕ) → n < 2 ^ 127 → natural (saturated (pos n -ℤ pos m)) ≡ n - m
natural_minus_pos {n} m h = go (nat_lt n m) refl
  where
    go : (t : Bool) → nat_lt n m ≡ t → natural (saturated (pos n -ℤ pos m)) ≡ n - m
    go true e = minus_more n m (ltb-true n m e)
    go false e = ap natural (saturated_minus_pos h (ltb-false n m e))
