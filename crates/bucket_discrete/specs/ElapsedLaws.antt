-- The time of the intervals that a refill counts never passes the time that has elapsed. Assumes nothing.
use Rattle.std.specs.Prelude.{ℕ, ◌*◌, ◌/◌, ◌%◌, ◌≤◌}
use Rattle.std.proofs.Common.{le_trans, div-mul-le_self, mul-le-mul_right}
use Rattle.std.proofs.Math.Nat.{mod-le}

pub counted_within_elapsed : (elapsed interval : ℕ) → elapsed / interval % 4294967296 * interval ≤ elapsed
counted_within_elapsed elapsed interval =
    le_trans (mul-le-mul_right interval (mod-le (elapsed / interval) 4294967296)) (div-mul-le_self elapsed interval)
