-- `amount::signed::sum_of_like` meets its contract. A magnitude of 2^127 or more takes the sum to the limit; otherwise the high halves and the carry fit. Assumes nothing.
use Rattle.std.proofs.Common.{ℕ, ◌+◌, ◌^◌, ◌≤◌, sym, ap, ◌∙◌, arith}
use Rattle.amount.specs.Amount.{saturated, signed}
use Rattle.amount.specs.Private.{size}
use Rattle.amount.proofs.MagnitudeLaws.{size_over, size_sum, high_sum_fits}
use Rattle.amount.proofs.SignedLaws.{sum_same, sum_beyond, left_over, right_over}
use Rattle.amount.specs.AmountLaws.{is_moved}
use Rattle.amount.proofs.signed.sum_of_like.Goals as goal
use Rattle.amount.proofs.signed.sum_of_like.Goals.{then-a-ge9223372036854775808-via-then-a-ge9223372036854775808, then-a-ge9223372036854775808-via-else-a-ge9223372036854775808+then-b-ge9223372036854775808}

pub returns-then-a-ge9223372036854775808 : goal.returns-then-a-ge9223372036854775808
returns-then-a-ge9223372036854775808 c =
    let s = c.args.negative in
    let a = c.args.a in
    let b = c.args.b in
    let over : 2 ^ 127 ≤ size a + size b = elim c.then-a-ge9223372036854775808.branch [
      | then-a-ge9223372036854775808-via-then-a-ge9223372036854775808 w ↦ left_over (size b) (size_over a (omega arith))
      | then-a-ge9223372036854775808-via-else-a-ge9223372036854775808+then-b-ge9223372036854775808 w ↦ right_over (size a) (size_over b (omega arith))
    ] in
    is_moved (sum_beyond s (size a) (size b) over) c.limit.ensures

pub overflow_add-a-2 : goal.overflow_add-a-2
overflow_add-a-2 c = record { fits = high_sum_fits (omega arith) (omega arith) c.carried_sum-low.ensures.1 }

pub returns : goal.returns
returns c =
    let s = c.args.negative in
    let a = c.args.a in
    let b = c.args.b in
    let low = c.carried_sum-low in
    let whole = size_sum a b low.result.sum low.result.carry low.ensures.0 in
    is_moved (ap saturated (ap (λ (n : ℕ). signed s n) whole ∙ sym (sum_same s (size a) (size b)))) c.clamped.ensures
