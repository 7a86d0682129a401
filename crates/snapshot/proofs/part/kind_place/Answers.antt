-- `part::kind_place` meets its contract. Assumes nothing.
use Rattle.std.proofs.Common.{ap, ◌∙◌, rules}
use Rattle.snapshot_layout.specs.Layout.{place_of}
use Rattle.snapshot.specs.Form.{first, rows_in}
use Rattle.snapshot.specs.Snapshot.{placed}
use Rattle.snapshot.specs.JudgeLaws.{slots_are}
use Rattle.snapshot.specs.PartLaws.{placed_ok_or}
use Rattle.snapshot.proofs.part.kind_place.Goals as goal

pub place_of-requires : goal.place_of-requires
place_of-requires c = rw (c.kinds-kinds.ensures, c.lengths-lengths.ensures) (search rules)

pub returns : goal.returns
returns c =
    let a = c.args in
    let told = slots_are first c.kinds-kinds.result c.lengths-lengths.result c.rows_in.result (rows_in first a.snapshot.now) c.kinds-kinds.ensures c.lengths-lengths.ensures c.rows_in.ensures in
    c.ok_or.ensures.value ∙ placed_ok_or c.place_of.result ∙ ap placed (c.place_of.ensures ∙ ap (place_of a.kind) told)
