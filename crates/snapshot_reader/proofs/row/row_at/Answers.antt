-- `row::row_at` meets its contract: the place, the end, then the row. Assumes nothing.
use Rattle.std.proofs.Common.{sym, ap, ◌∙◌, ◌+◌, arith}
use Rattle.std.specs.Prelude.{Ok, Some}
use Rattle.snapshot_reader.specs.declared.row.SnapshotRow.{SnapshotRow}
use Rattle.snapshot_reader.specs.ReaderLaws.{row_fits, step_refused, step_done, step_given}
use Rattle.snapshot_reader.proofs.row.row_at.Goals as goal

pub returns-then-not-place_stands : goal.returns-then-not-place_stands
returns-then-not-place_stands c = let a = c.args in
    sym (step_refused a.snapshot.now a.at (sym c.place_stands.ensures ∙ c.if-not-place_stands.true))

pub returns-then-at-snapshot : goal.returns-then-at-snapshot
returns-then-at-snapshot c = let a = c.args in
    sym (step_done a.snapshot.now a.at (sym c.place_stands.ensures ∙ c.if-not-place_stands.false) (omega arith))

pub given_at-requires : goal.given_at-requires
given_at-requires c = let a = c.args in
    row_fits a.snapshot.now a.at (sym c.place_stands.ensures ∙ c.if-not-place_stands.false) (λ e. omega arith)

pub overflow_add-result : goal.overflow_add-result
overflow_add-result c = let a = c.args in
    omega (arith, row_fits a.snapshot.now a.at (sym c.place_stands.ensures ∙ c.if-not-place_stands.false) (λ e. omega arith))

pub returns : goal.returns
returns c = let a = c.args in
    ap (λ (x : SnapshotRow). Ok (Some (record { row = x; at = a.at + 121 }))) c.given_at.ensures
    ∙ sym (step_given a.snapshot.now a.at (sym c.place_stands.ensures ∙ c.if-not-place_stands.false) (λ e. omega arith))
