-- `keyed_rows::find::find` meets its contract. The invariant is that of `WalkLaws`, with the rule of any row. Assumes nothing.
use Rattle.std.proofs.Common.{length}
use Rattle.table_laws.specs.Raw.{raw_layout, any_row}
use Rattle.table_laws.specs.Walk.{Walking}
use Rattle.keyed_rows.proofs.find.find.Given as goal

abbrev pub invariant-loop-i : goal.invariant-loop-i
invariant-loop-i l = Walking (raw_layout (length l.key) l.width) any_row 8 l.table l.count l.key l.i l.last l.place
