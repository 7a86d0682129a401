-- The halves of a magnitude: order, zero, differences, and 2^127. Assumes nothing.
-- Each law is proved of two digits in a base P, a variable, since `omega` stops at numbers of more than 38 digits.
use Rattle.std.proofs.Common.{◌≡◌, ℕ, suc, ◌+◌, ◌-◌, ◌*◌, ◌%◌, ◌^◌, ◌<◌, ◌≤◌, min, Bool, true, false, eqb, ltb, sym, refl, ap, ◌∙◌, le_of_suc-le-suc, le_of_lt, mul-le-mul_left, not-le_of_lt, arith, lit<, ltb-false, ltb-true, ne_eqb}
use native.Mathlib.Nat.{min-eq_left, min-eq_right}
use Rattle.amount.specs.declared.magnitude.Magnitude.{Magnitude}
use Rattle.amount.specs.AmountLaws.{digit_under}
use Rattle.amount.specs.Private.{size}
use Rattle.amount.proofs.Tests.{same_ltb, same_eqb}

-- ════ Two digits in base P: a and b the low ones, h and k the high ones ════

module _ (P a b h k : ℕ) where
  equal_high : h ≡ k → ltb a b ≡ ltb (a + P * h) (b + P * k)
  equal_high e =
      let same : P * h ≡ P * k = ap (λ (n : ℕ). P * n) e in
      same_ltb a b (a + P * h) (b + P * k) (omega arith) (omega arith)

  larger_high : a < P → h < k → a + P * h < b + P * k
  larger_high l e = omega (arith, mul-le-mul_left P e)

  least_high : a < b → h ≤ k → a + P * h < b + P * k
  least_high l e = omega (arith, mul-le-mul_left P e)

  difference : b ≤ a → k ≤ h → (a - b) + P * (h - k) ≡ (a + P * h) - (b + P * k)
  difference l m =
      let e : h ≡ k + (h - k) = omega arith in
      let f : P * h ≡ P * (k + (h - k)) = ap (λ (n : ℕ). P * n) e in
      omega arith

  borrowed : (r : ℕ) → r + b ≡ a + P → k < h → r + P * ((h - k) - 1) ≡ (a + P * h) - (b + P * k)
  borrowed r l m =
      let e : h ≡ k + (((h - k) - 1) + 1) = omega arith in
      let f : P * h ≡ P * (k + (((h - k) - 1) + 1)) = ap (λ (n : ℕ). P * n) e in
      omega arith

  summed : (s c : ℕ) → s + P * c ≡ a + b → s + P * ((h + k) + c) ≡ (a + P * h) + (b + P * k)
  summed s c e = omega arith

at_end : (P Q a h : ℕ) → h ≡ Q → eqb a 0 ≡ eqb (a + P * h) (P * Q)
at_end P Q a h e =
    let same : P * h ≡ P * Q = ap (λ (n : ℕ). P * n) e in
    same_eqb a 0 (a + P * h) (P * Q) (omega arith) (omega arith)

past_end : (P Q a h : ℕ) → 0 < P → Q < h → eqb (a + P * h) (P * Q) ≡ false
past_end P Q a h l e =
    let more : P * suc Q ≤ P * h = mul-le-mul_left P e in
    ne_eqb (a + P * h) (P * Q) (omega arith)

digit_over : (P : ℕ) {Q : ℕ} (x : ℕ) {y : ℕ} → Q ≤ y → P * Q ≤ x + P * y
digit_over P x h = omega (arith, mul-le-mul_left P h)

not_below : (n m : ℕ) → (n < m → ⊥) → m ≤ n
not_below n m h = go (ltb n m) refl
  where
    go : (t : Bool) → ltb n m ≡ t → m ≤ n
    go true e = absurd (h (ltb-true n m e))
    go false e = ltb-false n m e

wrapped : {r a b : ℕ} → r < 2 ^ 64 → b < 2 ^ 64 → a < b → (r + b) % 2 ^ 64 ≡ a → r + b ≡ a + 2 ^ 64
wrapped h k l e = omega arith

-- ════ Order, sums and differences ════

module _ (a b : Magnitude) where
  pub low_decides : a.high ≡ b.high → ltb a.low b.low ≡ ltb (size a) (size b)
  low_decides e = equal_high (2 ^ 64) a.low b.low a.high b.high e

  pub high_decides : a.low < 2 ^ 64 → b.low < 2 ^ 64 → (a.high ≡ b.high → ⊥) → ltb a.high b.high ≡ ltb (size a) (size b)
  high_decides l m e =
      same_ltb a.high b.high (size a) (size b)
      (λ t. larger_high (2 ^ 64) a.low b.low a.high b.high l t)
      (λ t. le_of_lt (larger_high (2 ^ 64) b.low a.low b.high a.high m (omega arith)))

  pub high_most : a.low < 2 ^ 64 → size b ≤ size a → b.high ≤ a.high
  high_most l e =
      not_below a.high b.high
      (λ t. not-le_of_lt (larger_high (2 ^ 64) a.low b.low a.high b.high l t) e)

  pub high_more : a.low < b.low → size b ≤ size a → b.high < a.high
  high_more l e =
      not_below a.high (suc b.high)
      (λ t. not-le_of_lt (least_high (2 ^ 64) a.low b.low a.high b.high l (le_of_suc-le-suc t)) e)

  pub size_difference : a.low < 2 ^ 64 → size b ≤ size a → b.low ≤ a.low → (a.low - b.low) + 2 ^ 64 * (a.high - b.high) ≡ size a - size b
  size_difference l e m = difference (2 ^ 64) a.low b.low a.high b.high m (high_most l e)

  pub size_borrowed : {r : ℕ} → r < 2 ^ 64 → b.low < 2 ^ 64 → a.low < b.low → size b ≤ size a → (r + b.low) % 2 ^ 64 ≡ a.low → r + 2 ^ 64 * ((a.high - b.high) - 1) ≡ size a - size b
  size_borrowed {r} h k l e w =
      borrowed (2 ^ 64) a.low b.low a.high b.high r (wrapped h k l w) (high_more l e)

  pub size_sum : (s c : ℕ) → s + 2 ^ 64 * c ≡ a.low + b.low → s + 2 ^ 64 * ((a.high + b.high) + c) ≡ size a + size b
  size_sum s c e = summed (2 ^ 64) a.low b.low a.high b.high s c e

pub high_sum_fits : {h k c : ℕ} → h < 2 ^ 63 → k < 2 ^ 63 → c ≤ 1 → h + k + c < 2 ^ 64
high_sum_fits h k c = omega arith

-- ════ 2^127 ════

pub size_under : (m : Magnitude) → m.low < 2 ^ 64 → m.high < 2 ^ 63 → size m < 2 ^ 127
size_under m l h = digit_under {P = 2 ^ 64} {Q = 2 ^ 63} l h

pub size_over : (m : Magnitude) → 2 ^ 63 ≤ m.high → 2 ^ 127 ≤ size m
size_over m h = digit_over (2 ^ 64) {Q = 2 ^ 63} m.low h

pub size_end : (m : Magnitude) → m.high ≡ 2 ^ 63 → eqb m.low 0 ≡ eqb (size m) (2 ^ 127)
size_end m h = at_end (2 ^ 64) (2 ^ 63) m.low m.high h

pub size_past : (m : Magnitude) → 2 ^ 63 ≤ m.high → (m.high ≡ 2 ^ 63 → ⊥) → eqb (size m) (2 ^ 127) ≡ false
size_past m h k = past_end (2 ^ 64) (2 ^ 63) m.low m.high (lit< tt) (omega arith)

-- ════ 2^64 ════

ne_zero_over : (a h : ℕ) → (h ≡ 0 → ⊥) → 2 ^ 64 - 1 ≤ a + 2 ^ 64 * h
ne_zero_over a h e = omega arith

pub small_min : (m : Magnitude) → m.low < 2 ^ 64 → m.high ≡ 0 → m.low ≡ min (size m) (2 ^ 64 - 1)
small_min m l h =
    let e : size m ≡ m.low = omega arith in
    let within : size m ≤ 2 ^ 64 - 1 = rw e (le_of_suc-le-suc l) in
    sym e ∙ sym (min-eq_left within)

pub large_min : (m : Magnitude) → (m.high ≡ 0 → ⊥) → 2 ^ 64 - 1 ≡ min (size m) (2 ^ 64 - 1)
large_min m h =
    let beyond : 2 ^ 64 - 1 ≤ size m = ne_zero_over m.low m.high h in
    sym (min-eq_right beyond)
