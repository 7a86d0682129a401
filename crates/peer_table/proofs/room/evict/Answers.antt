-- `peer_table::room::evict` meets its contract: what the searches found decides which row goes. Assumes nothing.
use Rattle.std.proofs.Common.{true, false, sym, ap, ◌∙◌, arith, rules}
use Rattle.table.specs.Memory.{rows}
use Rattle.peer_rows.specs.Rows.{peer_layout}
use Rattle.peer_table.specs.Private.{best_of, measure_by}
use Rattle.peer_table.specs.RoomLaws.{evict_ordinary, evict_banned, evict_nobody}
use Rattle.table_laws.specs.MinimumRowsLaws.{found_inside}
use Rattle.table_laws.specs.RoomLaws.{evicted_row, left_alone}
use Rattle.peer_rows.specs.RowsLaws.{peer_faithful}
use Rattle.peer_table.proofs.room.evict.Goals as goal

pub remove_at-requires : goal.remove_at-requires
remove_at-requires c = let a = c.args in
    omega (arith, c.requires, found_inside peer_layout (measure_by false) a.table.now a.count (sym c.find_first.ensures ∙ ap best_of c.in-Some.is))

pub overflow_sub-result : goal.overflow_sub-result
overflow_sub-result c =
    let a = c.args in
    omega (arith, c.requires, found_inside peer_layout (measure_by false) a.table.now a.count (sym c.find_first.ensures ∙ ap best_of c.in-Some.is))

pub returns-in-Some : goal.returns-in-Some
returns-in-Some c =
    let a = c.args in
    let found = sym c.find_first.ensures ∙ ap best_of c.in-Some.is in
    evicted_row peer_faithful a.table.now a.count _ (found_inside peer_layout (measure_by false) a.table.now a.count found)
    (evict_ordinary (rows peer_layout a.table.now a.count) found) c.remove_at.ensures

pub remove_at-requires-in-Some-find_first : goal.remove_at-requires-in-Some-find_first
remove_at-requires-in-Some-find_first c =
    let a = c.args in
    omega (arith, c.requires, found_inside peer_layout (measure_by true) a.table.now a.count (sym c.find_first-2.ensures ∙ ap best_of c.in-Some-find_first.is))

pub overflow_sub-result-in-Some-find_first : goal.overflow_sub-result-in-Some-find_first
overflow_sub-result-in-Some-find_first c =
    let a = c.args in
    omega (arith, c.requires, found_inside peer_layout (measure_by true) a.table.now a.count (sym c.find_first-2.ensures ∙ ap best_of c.in-Some-find_first.is))

pub returns-in-Some-find_first : goal.returns-in-Some-find_first
returns-in-Some-find_first c =
    let a = c.args in
    let found = sym c.find_first-2.ensures ∙ ap best_of c.in-Some-find_first.is in
    evicted_row peer_faithful a.table.now a.count _ (found_inside peer_layout (measure_by true) a.table.now a.count found)
    (evict_banned (rows peer_layout a.table.now a.count) (sym c.find_first.ensures ∙ ap best_of c.in_default.is) found)
    c.remove_at-in-Some-find_first.ensures

pub returns : goal.returns
returns c =
    let a = c.args in
    left_alone peer_faithful a.table.now a.count (λ k. search rules) (omega (arith, c.requires))
    (evict_nobody (rows peer_layout a.table.now a.count) (sym c.find_first.ensures ∙ ap best_of c.in_default.is)
    (sym c.find_first-2.ensures ∙ ap best_of c.in_default-find_first.is))
