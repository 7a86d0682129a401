-- `amount::signed::sum_of_unlike` meets its contract. The sign is that of the larger magnitude, and the size is the difference. Assumes nothing.
use Rattle.std.proofs.Common.{ℕ, not, sym, ap, ◌∙◌, le_of_lt, ltb-false, ltb-true}
use Rattle.amount.specs.Amount.{saturated, signed}
use Rattle.amount.specs.Private.{size}
use Rattle.amount.proofs.SignedLaws.{sum_larger, sum_smaller}
use Rattle.amount.specs.AmountLaws.{is_moved}
use Rattle.amount.proofs.signed.sum_of_unlike.Goals as goal

pub returns-then-is_below : goal.returns-then-is_below
returns-then-is_below c =
    let s = c.args.negative in
    let a = size c.args.a in
    let b = size c.args.b in
    let below = ltb-true a b (sym c.is_below.ensures ∙ c.if-is_below.true) in
    let size_is = ap (λ (n : ℕ). signed (not s) n) c.excess.ensures in
    is_moved (ap saturated (size_is ∙ sym (sum_smaller s (le_of_lt below)))) c.clamped.ensures

pub returns : goal.returns
returns c =
    let s = c.args.negative in
    let a = size c.args.a in
    let b = size c.args.b in
    let most = ltb-false a b (sym c.is_below.ensures ∙ c.if-is_below.false) in
    let size_is = ap (λ (n : ℕ). signed s n) c.excess-2.ensures in
    is_moved (ap saturated (size_is ∙ sym (sum_larger s most))) c.clamped-2.ensures
