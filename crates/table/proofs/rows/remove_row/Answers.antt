-- `table::rows::remove_row` meets its contract: a run of one row. Assumes nothing.
use Rattle.std.proofs.Common.{ap, ◌∙◌, ◌++◌, ℕ, ◌+◌, ◌-◌, ◌*◌, mul-one}
use Rattle.lent_bytes.specs.LentBytes.{part, put, zeros}
use Rattle.table.proofs.rows.remove_row.Goals as goal

pub returns : goal.returns
returns c = let a = c.args in
    c.remove_rows.ensures
    ∙ ap (λ (m : ℕ). put a.table.now (a.width * a.index) (part a.table.now (a.width * (a.index + 1)) (a.width * (a.count - (a.index + 1))) ++ zeros m)) (mul-one a.width)
