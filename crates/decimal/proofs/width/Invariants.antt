-- `decimal::width` meets its contract. The invariant of its loop: the digits counted and those of what is left are the number's,
-- with one counted in advance. Assumes nothing.
use Rattle.std.proofs.Common.{◌≡◌, ◌+◌, ◌-◌, ◌≤◌, length}
use Rattle.decimal.specs.Decimal.{digits_within, most_digits}
use Rattle.decimal.proofs.width.Given as goal

abbrev pub invariant-loop-width : goal.invariant-loop-width
invariant-loop-width l = (length (digits_within most_digits l.n) + 1 ≡ l.width + length (digits_within (21 - l.width) l.rest)) × ((1 ≤ l.width) × (l.width ≤ 20))
