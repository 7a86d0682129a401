-- `table::rows::remove_rows` meets its contract: the two writes are one (`removed`). Assumes nothing.
use Rattle.std.proofs.Common.{ap, ◌∙◌, List, ℕ, ◌+◌, ◌-◌, ◌*◌, mul-add, arith}
use Rattle.lent_bytes.specs.LentBytes.{put, zeros}
use Rattle.table.proofs.Moves.{places_around, removed}
use Rattle.table.proofs.rows.remove_rows.Goals as goal

pub overflow_mul-next : goal.overflow_mul-next
overflow_mul-next c = let a = c.args in
    omega (arith, mul-add a.width a.index a.run, places_around a.width a.count a.index a.run (omega arith))

pub overflow_mul-behind : goal.overflow_mul-behind
overflow_mul-behind c = let a = c.args in
    omega (arith, places_around a.width a.count a.index a.run (omega arith))

pub overflow_mul-freed : goal.overflow_mul-freed
overflow_mul-freed c = let a = c.args in
    omega (arith, places_around a.width a.count a.index a.run (omega arith))

pub move_down-requires : goal.move_down-requires
move_down-requires c = let a = c.args in
    omega (arith, mul-add a.width a.index a.run, places_around a.width a.count a.index a.run (omega arith))

pub overflow_mul-width : goal.overflow_mul-width
overflow_mul-width c = let a = c.args in
    omega (arith, places_around a.width a.count a.index a.run (omega arith))

pub overflow_add-width : goal.overflow_add-width
overflow_add-width c = let a = c.args in
    omega (arith, places_around a.width a.count a.index a.run (omega arith))

pub fill_zeros-requires : goal.fill_zeros-requires
fill_zeros-requires c = let a = c.args in
    omega (arith, places_around a.width a.count a.index a.run (omega arith))

pub returns : goal.returns
returns c =
    let a = c.args in
    c.fill_zeros.ensures
    ∙ ap (λ (l : List ℕ). put l (a.width * a.index + a.width * (a.count - (a.index + a.run))) (zeros (a.width * a.run))) c.move_down.ensures
    ∙ removed a.table.now a.width a.count a.index a.run (omega arith) (omega arith)
