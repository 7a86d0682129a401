-- `kind::remove_at` meets its contract: the write leaves memory without the row (`removed`). Assumes nothing.
use Rattle.std.proofs.Common.{◌≤◌, ◌*◌, ◌∙◌, arith, rules, length}
use Rattle.table_laws.specs.ChangeLaws.{removed}
use Rattle.keyed_rows.proofs.kind.remove_at.Goals as goal

pub returns : goal.returns
returns g c =
    let a = c.args in
    let k = g.met.K.RowKind in
    let L = g.K.RowKind.layout in
    let fits : L.width * a.count ≤ length a.table.now = rw (← k.width_is) c.requires.count_in_bounds in
    removed k.faithful a.table.now _ a.count (λ i. search rules) fits a.index (omega (arith, c.requires))
    (rw (c.WIDTH.ensures ∙ k.width_is) at c.remove_row.ensures)
