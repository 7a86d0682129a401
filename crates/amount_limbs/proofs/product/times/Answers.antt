-- `amount_limbs::product::times` meets its contract: what the four columns and the last carry come to is the factor times the number, and the last carry
-- says whether that is below 2^128. Assumes nothing.
use Rattle.std.proofs.Common.{◌≡◌, ℕ, ◌+◌, ◌*◌, List, [], ◌∷◌, arith, length, get_or}
use Rattle.std.proofs.Common.{rules}
use Rattle.amount_limbs.specs.Limbs.{digits}
use Rattle.amount_limbs.proofs.Columns.{Scaled, no_columns, column, four_below, fifth_above, saturated_fits, saturated_stops}
use Rattle.amount_limbs.proofs.Fours.{four}
use Rattle.amount_limbs.proofs.product.times.Goals as goal

-- what the four columns come to, with what the last one carries
columns : (f : ℕ) (l : List ℕ) → length l ≡ 4 → (l₀ h₀ l₁ h₁ l₂ h₂ l₃ h₃ : ℕ)
    → l₃ + h₃ * 4294967296 ≡ get_or l 3 0 * f + h₂ + 0
    → l₂ + h₂ * 4294967296 ≡ get_or l 2 0 * f + h₁ + 0
    → l₁ + h₁ * 4294967296 ≡ get_or l 1 0 * f + h₀ + 0
    → l₀ + h₀ * 4294967296 ≡ get_or l 0 0 * f + 0 + 0
    → Scaled f (digits l) 0 0 (digits (l₀ ∷ l₁ ∷ l₂ ∷ l₃ ∷ h₃ ∷ []))
columns f l h l₀ h₀ l₁ h₁ l₂ h₂ l₃ h₃ e₃ e₂ e₁ e₀ =
    let s₃ = column (get_or l 3 0) 0 l₃ h₃ h₂ e₃ (no_columns f h₃) in
    let s₂ = column (get_or l 2 0) 0 l₂ h₂ h₁ e₂ s₃ in
    let s₁ = column (get_or l 1 0) 0 l₁ h₁ h₀ e₁ s₂ in
    let s₀ = column (get_or l 0 0) 0 l₀ h₀ 0 e₀ s₁ in
    rw (four l h) s₀

pub returns-then-fourth-eq0 : goal.returns-then-fourth-eq0
returns-then-fourth-eq0 c =
    let a = c.args in
    let h : length a.limbs ≡ 4 = search rules in
    let w₀ = c.mul_add-first in
    let w₁ = c.mul_add-second in
    let w₂ = c.mul_add-third in
    let w₃ = c.mul_add-fourth in
    let s = columns a.factor a.limbs h w₀.result.low w₀.result.high w₁.result.low w₁.result.high w₂.result.low w₂.result.high w₃.result.low w₃.result.high w₃.ensures w₂.ensures w₁.ensures w₀.ensures in
    saturated_fits a.factor (digits a.limbs) (rw c.if-fourth-eq0.true at s)
    (four_below 4294967296 w₀.result.low w₁.result.low w₂.result.low w₃.result.low
    (omega (arith, w₀.type_inv)) (omega (arith, w₁.type_inv)) (omega (arith, w₂.type_inv)) (omega (arith, w₃.type_inv)))

pub returns-else-fourth-eq0 : goal.returns-else-fourth-eq0
returns-else-fourth-eq0 c =
    let a = c.args in
    let h : length a.limbs ≡ 4 = search rules in
    let w₀ = c.mul_add-first in
    let w₁ = c.mul_add-second in
    let w₂ = c.mul_add-third in
    let w₃ = c.mul_add-fourth in
    let s = columns a.factor a.limbs h w₀.result.low w₀.result.high w₁.result.low w₁.result.high w₂.result.low w₂.result.high w₃.result.low w₃.result.high w₃.ensures w₂.ensures w₁.ensures w₀.ensures in
    saturated_stops a.factor (digits a.limbs) s
    (fifth_above 4294967296 w₀.result.low w₁.result.low w₂.result.low w₃.result.low w₃.result.high c.if-fourth-eq0.false)
