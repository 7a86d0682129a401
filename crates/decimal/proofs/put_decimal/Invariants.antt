-- `decimal::put_decimal` meets its contract. The invariant of its loop: what is left to write, written over what stands there, gives
-- what is to stand there at the end. Assumes nothing.
use Rattle.std.proofs.Common.{◌≡◌, ◌≤◌, length}
use Rattle.lent_bytes.specs.LentBytes.{put}
use Rattle.decimal.specs.DecimalLaws.{low_digits}
use Rattle.decimal.proofs.put_decimal.Given as goal

abbrev pub invariant-loop-left : goal.invariant-loop-left
invariant-loop-left l = (put l.initial.out l.at (low_digits l.digits l.n) ≡ put l.out l.at (low_digits l.left l.rest)) × ((length l.out ≡ length l.initial.out) × (l.left ≤ l.digits))
