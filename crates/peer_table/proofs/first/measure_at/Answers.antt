-- `peer_table::first::measure_at` meets its contract: the kind that is asked for and the mark decide. Assumes nothing.
use Rattle.std.proofs.Common.{sym, ap, ◌∙◌}
use borrow.Author.Tests.{eq-eqb, ne_eqb}
use Rattle.peer_table.specs.Private.{measure_by}
use Rattle.peer_rows.specs.RowsLaws.{row_places}
use Rattle.peer_table.proofs.first.measure_at.Goals as goal

pub returns-then-mark-ne1 : goal.returns-then-mark-ne1
returns-then-mark-ne1 c = let a = c.args in
    sym (ap (measure_by a.banned) (row_places a.table.now a.at)
    ∙ rw (c.if-banned.true, ← c.get_u64-mark.ensures, ne_eqb _ _ c.if-mark-ne1.true))

pub returns-then-banned : goal.returns-then-banned
returns-then-banned c = let a = c.args in
    sym (ap (measure_by a.banned) (row_places a.table.now a.at)
    ∙ rw (c.if-banned.true, ← c.get_u64-mark.ensures, eq-eqb _ _ c.if-mark-ne1.false, ← c.get_u64.ensures))

pub returns-then-mark-eq1 : goal.returns-then-mark-eq1
returns-then-mark-eq1 c = let a = c.args in
    sym (ap (measure_by a.banned) (row_places a.table.now a.at)
    ∙ rw (c.if-banned.false, ← c.get_u64-mark.ensures, eq-eqb _ _ c.if-mark-eq1.true))

pub returns : goal.returns
returns c = let a = c.args in
    sym (ap (measure_by a.banned) (row_places a.table.now a.at)
    ∙ rw (c.if-banned.false, ← c.get_u64-mark.ensures, ne_eqb _ _ c.if-mark-eq1.false, ← c.get_u64-2.ensures))
