-- `kind::retain` meets its contract: the rows gathered, and zeros behind them (`plain_removed`). Assumes nothing.
use Rattle.std.proofs.Common.{◌≤◌, ◌*◌, ◌∙◌, rules, length}
use Rattle.table_laws.specs.KeepLaws.{plain_removed}
use Rattle.keyed_rows.proofs.kind.retain.Goals as goal

pub returns : goal.returns
returns g c =
    let a = c.args in
    let k = g.met.K.RowKind in
    let L = g.K.RowKind.layout in
    let fits : L.width * a.count ≤ length a.table.now = rw (← k.width_is) c.requires.count_in_bounds in
    λ test agrees.
    let gathered = c.gather-kept.ensures.gathered test agrees in (
      plain_removed k.faithful (λ r. test r.entry) a.table.now a.count (λ i. search rules) fits c.gather-kept.new.table c.zero_rows.new.table c.gather-kept.result
          gathered.0 gathered.1 (rw (c.WIDTH.ensures ∙ k.width_is) at c.zero_rows.ensures),
      gathered.1,
    )
