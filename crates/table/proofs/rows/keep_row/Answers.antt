-- `table::rows::keep_row` meets its contract: a row moves down, or stays and is written by what stands there. Assumes nothing.
use Rattle.std.proofs.Common.{◌≡◌, sym, ap, ◌∙◌, ℕ, ◌*◌, arith}
use Rattle.lent_bytes.specs.LentBytes.{part, put}
use Rattle.lent_bytes.specs.LentBytesLaws.{put_part}
use Rattle.table.proofs.Moves.{next_place, places, down}
use Rattle.table.proofs.rows.keep_row.Goals as goal

pub overflow_mul-width : goal.overflow_mul-width
overflow_mul-width c = let a = c.args in
    omega (arith, next_place a.width a.from, places a.width a.from a.to (omega arith))

pub overflow_mul-width-then-to-from : goal.overflow_mul-width-then-to-from
overflow_mul-width-then-to-from c = let a = c.args in
    omega (arith, next_place a.width a.from, places a.width a.from a.to (omega arith))

pub move_down-requires : goal.move_down-requires
move_down-requires c = let a = c.args in
    omega (arith, next_place a.width a.from, places a.width a.from a.to (omega arith))

pub returns-then-to-from : goal.returns-then-to-from
returns-then-to-from c = let a = c.args in
    c.move_down.ensures
    ∙ ap (λ (m : ℕ). put a.table.now m (part a.table.now (a.width * a.from) a.width)) (down a.width a.from a.to (omega arith))

pub returns-else-to-from : goal.returns-else-to-from
returns-else-to-from c = let a = c.args in
    let s = a.table.now in
    let e : a.to ≡ a.from = omega arith in
    sym (ap (λ (m : ℕ). put s (a.width * m) (part s (a.width * a.from) a.width)) e
    ∙ put_part s (a.width * a.from) a.width (omega (arith, next_place a.width a.from)))
