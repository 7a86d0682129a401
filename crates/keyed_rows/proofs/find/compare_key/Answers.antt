-- `keyed_rows::find::compare_key` meets its contract: the part of the slice is as long as the key. Assumes nothing.
use Rattle.std.proofs.Common.{◌≡◌, ◌+◌, ◌-◌, arith, length}
use Rattle.lent_bytes.specs.LentBytes.{part}
use Rattle.keyed_rows.proofs.find.compare_key.Goals as goal

pub returns : goal.returns
unfolding part
returns c = let a = c.args in
    let n = length a.key.now in
    let e : (a.at + n) - a.at ≡ n = omega arith in
    rw e at c.compare_bytes.ensures
