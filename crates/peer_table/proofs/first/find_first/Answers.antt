-- `peer_table::first::find_first` meets its contract.
use Rattle.std.proofs.Common.{refl, arith}
use Rattle.peer_rows.specs.Rows.{peer_layout}
use Rattle.peer_table.specs.Private.{best_of, measure_of, measure_by}
use Rattle.table_laws.specs.MinimumRowsLaws.{first_ends, first_goes_on}
use Rattle.peer_table.proofs.first.find_first.Goals as goal

pub loop-i-init : goal.loop-i-init
loop-i-init c = refl

pub loop-i-preserved : goal.loop-i-preserved
loop-i-preserved c = let a = c.args in
    let turn = c.loop-i in
    first_goes_on peer_layout (measure_by a.banned) a.table.now a.count turn.i (best_of turn.found) turn.invariant
    (measure_of c.measure_at.result) (best_of c.better_of-found.result) (omega arith) c.measure_at.ensures c.better_of-found.ensures

pub returns : goal.returns
returns c = let a = c.args in
    let last = c.loop-i in
    first_ends peer_layout (measure_by a.banned) a.table.now a.count last.i (best_of last.found) last.invariant (omega arith)
