-- `kind::gather` meets its contract. The invariant: what is kept of the first i rows stands at the front, and `kept` counts it, whatever
-- test the closure computes. Assumes nothing.
use Rattle.std.proofs.Common.{◌≡◌, ◌≤◌, Bool, length}
use Rattle.table.specs.Memory.{rows}
use Rattle.table_laws.specs.KeepLaws.{KeptSo}
use Rattle.keyed_rows.proofs.kind.gather.Given as goal

abbrev pub invariant-loop-i : goal.invariant-loop-i
invariant-loop-i g l =
    record {
      callable : goal.F-IsAlwaysCallable g l.passes;
      few : l.kept ≤ l.i;
      size : length l.table ≡ length l.initial.table;
      kept_so : (test : _ → Bool) → ((e : _) (b : Bool) → goal.F-post g l.passes e b → b ≡ test e)
          → KeptSo g.K.RowKind.layout (λ r. test r.entry) l.initial.table (rows g.K.RowKind.layout l.initial.table l.count) l.i l.table l.kept;
    }
