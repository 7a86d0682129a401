-- `row::place_stands` meets its contract: by its four tests. Assumes nothing.
use Rattle.std.proofs.Common.{sym, ◌∙◌}
use Rattle.snapshot_reader.specs.ReaderLaws.{stands_not, stands_whole}
use Rattle.std.proofs.Math.Logic.{inl, inr}
use Rattle.snapshot_reader.proofs.row.place_stands.Goals.{then-not-opens-via-then-not-opens, then-not-opens-via-else-not-opens+then-at-lt-FIRST_ROW, then-not-opens-via-else-not-opens+else-at-lt-FIRST_ROW+then-snapshot-at}
use Rattle.snapshot_reader.proofs.row.place_stands.Goals as goal

pub returns-then-not-opens : goal.returns-then-not-opens
returns-then-not-opens c =
    let a = c.args in
    sym (stands_not a.snapshot.now a.at (elim c.then-not-opens.branch [
      | then-not-opens-via-then-not-opens w ↦ inl (sym c.opens.ensures ∙ w.if-not-opens.true)
      | then-not-opens-via-else-not-opens+then-at-lt-FIRST_ROW w ↦ inr (inl w.if-at-lt-FIRST_ROW.true)
      | then-not-opens-via-else-not-opens+else-at-lt-FIRST_ROW+then-snapshot-at w ↦ inr (inr w.if-snapshot-at.true)
    ]))

pub returns : goal.returns
returns c = let a = c.args in
    sym (stands_whole a.snapshot.now a.at (sym c.opens.ensures ∙ c.if-not-opens.false) c.if-at-lt-FIRST_ROW.false c.if-snapshot-at.false)
