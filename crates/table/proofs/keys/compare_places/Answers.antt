-- `table::keys::compare_places` meets its contract: the two parts of the slice are as wide as was asked. Assumes nothing.
use Rattle.std.proofs.Common.{◌≡◌, ◌+◌, ◌-◌, arith}
use Rattle.lent_bytes.specs.LentBytes.{part}
use Rattle.table.proofs.keys.compare_places.Goals as goal

pub returns : goal.returns
unfolding part
returns c = let a = c.args in
    let e : (a.a + a.width) - a.a ≡ a.width = omega arith in
    let f : (a.b + a.width) - a.b ≡ a.width = omega arith in
    rw (e, f) at c.compare_bytes.ensures
