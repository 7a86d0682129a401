-- `part::part` meets its contract. Assumes nothing.
use Rattle.std.proofs.Common.{sym, ap, ◌∙◌, arith}
use Rattle.lent_bytes.specs.LentBytes as lent
use Rattle.snapshot.specs.Form.{first}
use Rattle.snapshot.specs.Snapshot.{part_of}
use Rattle.snapshot.specs.PartLaws.{part_within}
use Rattle.snapshot.proofs.part.part.Goals as goal

pub slice_bounds-result-count : goal.slice_bounds-result-count
slice_bounds-result-count c = let a = c.args in
    let w = part_within first a.snapshot.now a.kind c.in-Ok.from c.in-Ok.end (sym c.place_of_kind.ensures ∙ c.in-Ok.is) in
    omega (arith, w.0, w.1)

pub slice_bounds-result-start : goal.slice_bounds-result-start
slice_bounds-result-start c = let a = c.args in
    let w = part_within first a.snapshot.now a.kind c.in-Ok.from c.in-Ok.end (sym c.place_of_kind.ensures ∙ c.in-Ok.is) in
    omega (arith, w.0, w.1)

pub slice_bounds-result-end : goal.slice_bounds-result-end
slice_bounds-result-end c = let a = c.args in
    let w = part_within first a.snapshot.now a.kind c.in-Ok.from c.in-Ok.end (sym c.place_of_kind.ensures ∙ c.in-Ok.is) in
    omega (arith, w.0, w.1)

pub returns-in-Ok : goal.returns-in-Ok
unfolding lent.part
returns-in-Ok c = let a = c.args in
    sym (ap (part_of a.snapshot.now) (sym c.place_of_kind.ensures ∙ c.in-Ok.is))

pub returns-in-Err : goal.returns-in-Err
returns-in-Err c = let a = c.args in
    sym (ap (part_of a.snapshot.now) (sym c.place_of_kind.ensures ∙ c.in-Err.is))
