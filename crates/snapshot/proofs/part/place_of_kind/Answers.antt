-- `part::place_of_kind` meets its contract. Assumes nothing.
use Rattle.std.proofs.Common.{sym, ap, ◌∙◌}
use Rattle.snapshot.specs.Form.{first}
use Rattle.snapshot.specs.Snapshot.{kind_place, part_place}
use Rattle.snapshot.proofs.part.place_of_kind.Goals as goal

pub returns-in-None : goal.returns-in-None
unfolding part_place
returns-in-None c = let a = c.args in
    sym (ap (kind_place first a.snapshot.now a.kind) (sym c.settings_in.ensures ∙ c.in-None.is))

pub returns-in-Some : goal.returns-in-Some
unfolding part_place
returns-in-Some c = let a = c.args in
    c.kind_place.ensures ∙ sym (ap (kind_place first a.snapshot.now a.kind) (sym c.settings_in.ensures ∙ c.in-Some.is))
