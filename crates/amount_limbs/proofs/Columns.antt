-- Products column by column: what a column holds at most, the columns of a number times a limb, and where a number times four limbs stops. Assumes nothing.
use mathlib.Core.Path.{◌≡◌, sym, subst, ◌∙◌}
use Prim.Native.Nat.{ℕ, ◌+◌, ◌-◌, ◌*◌, ◌^◌, ◌<◌, ◌≤◌}
use native.Mathlib.Nat.{le_of_lt, le_trans, min-eq_left, min-eq_right, mul-le-mul_left}
use native.Mathlib.Omega.{arith}
use lib.Arith.{digits_lt}
use lib.Pow.{le_ones, ones_lt}
use Rattle.amount_limbs.specs.Limbs.{saturated_unsigned}

-- m is k times n, with s added and c carried in
pub record Scaled (k n s c m : ℕ) : Type 0 where
  pub sum : m ≡ k * n + s + c

-- above the highest limb: the carry is all there is
pub no_columns : (k c : ℕ) → Scaled k 0 0 c (c + 0)
no_columns k c = record { sum = omega arith }

-- one column more, below the others: l stays, and h is carried up
pub column : (x y l h c : ℕ) {k n s m : ℕ} → l + h * 4294967296 ≡ x * k + c + y → Scaled k n s h m → Scaled k (x + 4294967296 * n) (y + 4294967296 * s) c (l + 4294967296 * m)
column x y l h c e t = record { sum = omega (arith, t.sum) }

-- n times two limbs: the row of the low one, and on top of it, a limb up, the row of the high one
pub two_rows : (l : ℕ) {b₀ b₁ n s m : ℕ} → Scaled b₀ n 0 0 (l + 4294967296 * s) → Scaled b₁ n s 0 m → l + 4294967296 * m ≡ n * (b₀ + 4294967296 * (b₁ + 0))
two_rows l t u = omega (arith, t.sum, u.sum)

-- four limbs are below the fourth power of their base
pub four_below : (P a b c d : ℕ) → a < P → b < P → c < P → d < P → a + P * (b + P * (c + P * (d + P * 0))) < P * P * P * P
four_below P a b c d ha hb hc hd =
    let h₁ : d * P + c < P * P = digits_lt hd hc in
    let h₂ : (d * P + c) * P + b < P * P * P = digits_lt h₁ hb in
    let h₃ : ((d * P + c) * P + b) * P + a < P * P * P * P = digits_lt h₂ ha in
    omega arith

-- and a fifth limb takes them past it
pub fifth_above : (P a b c d e : ℕ) → (e ≡ 0 → ⊥) → P * P * P * P ≤ a + P * (b + P * (c + P * (d + P * (e + P * 0))))
fifth_above P a b c d e h =
    let one : 1 ≤ e = omega arith in
    omega (arith, mul-le-mul_left (P * P * P * P) one)

-- ════ Saturation of k times n, which is m ════

pub saturated_fits : (k n : ℕ) {m : ℕ} → Scaled k n 0 0 m → m < 2 ^ 128 → m ≡ saturated_unsigned (k * n)
saturated_fits k n {m} s h =
    let e : m ≡ k * n = omega (arith, s.sum) in
    e ∙ sym (min-eq_left {n = k * n} {m = 2 ^ 128 - 1} (subst (λ (x : ℕ). x ≤ 2 ^ 128 - 1) e (le_ones 128 h)))

pub saturated_stops : (k n : ℕ) {m : ℕ} → Scaled k n 0 0 m → 2 ^ 128 ≤ m → 2 ^ 128 - 1 ≡ saturated_unsigned (k * n)
saturated_stops k n {m} s h =
    let e : m ≡ k * n = omega (arith, s.sum) in
    sym (min-eq_right {n = 2 ^ 128 - 1} {m = k * n} (subst (λ (x : ℕ). 2 ^ 128 - 1 ≤ x) e (le_trans (le_of_lt (ones_lt 128)) h)))
