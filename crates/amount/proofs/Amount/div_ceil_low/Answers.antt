-- `amount::Amount::div_ceil_low` meets its contract: rounding up adds 1 to the low half where something is left, and wraps there. Assumes nothing.
use Rattle.std.proofs.Common.{◌≡◌, ℕ, ◌+◌, ◌*◌, ◌%◌, ◌^◌, ◌<◌, false, sym, refl, ap, ◌∙◌, arith}
use Rattle.amount_limbs.specs.Limbs.{digits, ceil_div}
use Rattle.amount.specs.declared.Amount.{Amount}
use Rattle.amount.specs.Amount.{value, natural}
use Rattle.amount_limbs.specs.LongDivisionLaws.{Divided, nothing, ceil_exact, ceil_low}
use Rattle.amount.proofs.Unsigned.{natural_negative, natural_plain}
use Rattle.amount.proofs.Amount.div_ceil_low.Goals as goal

-- the division, of the amount as a natural number
divided : (a : Amount) {d q rest : ℕ} → a.negative ≡ false → (q * d + rest ≡ digits a.limbs) × (rest < d) → Divided (natural (value a)) d q rest
divided a f e = record { whole = e.0 ∙ sym (natural_plain a f); small = e.1 }

pub returns-then-self : goal.returns-then-self
returns-then-self c = let a = c.args in
    let none : natural (value a.self) ≡ 0 = natural_negative a.self c.if-self.true in
    ap (λ (n : ℕ). n % 2 ^ 64) (sym (ap (λ (n : ℕ). ceil_div n a.d) none ∙ ceil_exact (nothing a.d c.requires) refl))

pub returns-then-quotient-eq0 : goal.returns-then-quotient-eq0
returns-then-quotient-eq0 c = c.low_half-low.ensures ∙ ap (λ (n : ℕ). n % 2 ^ 64) (sym (ceil_exact (divided c.args.self c.if-self.false c.divide-quotient.ensures) c.if-quotient-eq0.true))

pub returns-then-low-lt18446744073709551615 : goal.returns-then-low-lt18446744073709551615
returns-then-low-lt18446744073709551615 c = let low = c.low_half-low.result in
    let fits : (low + 1) % 2 ^ 64 ≡ low + 1 = omega arith in
    sym (ceil_low (divided c.args.self c.if-self.false c.divide-quotient.ensures) c.if-quotient-eq0.false c.low_half-low.ensures ∙ fits)

pub returns : goal.returns
returns c = let low = c.low_half-low.result in
    let wraps : (low + 1) % 2 ^ 64 ≡ 0 = omega arith in
    sym (ceil_low (divided c.args.self c.if-self.false c.divide-quotient.ensures) c.if-quotient-eq0.false c.low_half-low.ensures ∙ wraps)
