-- `kind::sought` meets its contract. The invariant is that of `WalkLaws`, with the rule of the kind. Assumes nothing.
use Rattle.table_laws.specs.Walk.{Walking}
use Rattle.keyed_rows.proofs.kind.sought.Given as goal

abbrev pub invariant-loop-i : goal.invariant-loop-i
invariant-loop-i g l = Walking g.K.RowKind.layout (g.K.RowKind.sound l.kind) 8 l.table l.count l.key l.i l.last l.place
