-- `amount::Amount::lesser` meets its contract. The test picks the smaller, and what is picked is saturated. Assumes nothing.
use Rattle.std.proofs.Common.{◌≡◌, ℕ, Bool, false, pos, sym, ap, ◌∙◌}
use lib.Signed.{lt_z}
use Rattle.amount_limbs.specs.Limbs.{digits}
use Rattle.amount.specs.declared.Amount.{Amount}
use Rattle.amount.specs.Amount.{value, saturated, signed}
use Rattle.amount.specs.AmountLaws.{lesser_left, lesser_right, is_moved}
use Rattle.amount.proofs.Amount.lesser.Goals as goal

-- `amount::Amount::lesser` meets its contract. The test picks the smaller, and what is picked is saturated. Assumes nothing.

-- what the test says, of the amount and n
tested : (a : Amount) {t : Bool} {m k n : ℕ} → m ≡ digits a.limbs → k ≡ n → t ≡ lt_z (signed a.negative m) (signed false k) → t ≡ lt_z (value a) (pos n)
unfolding value
tested a e f h = rw (e, f) at h

pub returns-then-is_less : goal.returns-then-is_less
unfolding value
returns-then-is_less c =
    let s = c.args.self.negative in
    let least = lesser_left (value c.args.self) (pos c.args.n) (sym (tested c.args.self c.magnitude-m.ensures c.of_u64-other.ensures c.is_less.ensures) ∙ c.if-is_less.true) in
    is_moved (ap saturated (ap (λ (k : ℕ). signed s k) c.magnitude-m.ensures ∙ sym least)) c.clamped.ensures

pub returns : goal.returns
returns c =
    let least = lesser_right (value c.args.self) (pos c.args.n) (sym (tested c.args.self c.magnitude-m.ensures c.of_u64-other.ensures c.is_less.ensures) ∙ c.if-is_less.false) in
    is_moved (ap saturated (ap pos c.of_u64-other.ensures ∙ sym least)) c.clamped-2.ensures
