-- `amount::Amount::deficit` meets its contract. Where the sum of n and the amount with its sign turned is negative, nothing is missing. Assumes nothing.
use Rattle.std.proofs.Common.{◌≡◌, ℕ, false, not, ℤ, pos, ◌+ℤ◌, ◌-ℤ◌, neg_ℤ, sym, ap, ◌∙◌}
use Rattle.amount_limbs.specs.Limbs.{digits}
use Rattle.amount.specs.declared.Amount.{Amount}
use Rattle.amount.proofs.SignedLaws.{signed_not, negative_natural, other_natural}
use Rattle.amount.specs.Amount.{value, signed, saturated}
use Rattle.amount.specs.Private.{Is}
use Rattle.amount.specs.AmountLaws.{is_moved}
use Rattle.amount.proofs.Amount.deficit.Goals as goal

-- the sum is n less the amount
missing : (a : Amount) {m k n : ℕ} {r : Amount} → m ≡ digits a.limbs → k ≡ n → Is r (saturated (signed false k +ℤ signed (not a.negative) m)) → Is r (saturated (pos n -ℤ value a))
unfolding value
missing a {m = m} {n = n} e f h =
    let s = a.negative in
    is_moved
    (ap saturated
    (ap (λ (k : ℕ). pos k +ℤ signed (not s) m) f
    ∙ ap (λ (z : ℤ). pos n +ℤ z) (signed_not s m ∙ ap (λ (k : ℕ). neg_ℤ (signed s k)) e)))
    h

pub returns-then-is_negative : goal.returns-then-is_negative
returns-then-is_negative c = is_moved (negative_natural (missing c.args.self c.magnitude.ensures c.of_u64.ensures c.sum-missing.ensures) (sym c.is_negative.ensures ∙ c.if-is_negative.true)) c.from_u64.ensures

pub returns : goal.returns
returns c = is_moved (other_natural (missing c.args.self c.magnitude.ensures c.of_u64.ensures c.sum-missing.ensures) (sym c.is_negative.ensures ∙ c.if-is_negative.false)) (missing c.args.self c.magnitude.ensures c.of_u64.ensures c.sum-missing.ensures)
