-- `parts::place_of` meets its contract: a kind above 16 bits is none. Assumes nothing.
use Rattle.std.proofs.Common.{sym, arith}
use Rattle.c_snapshot.specs.PlaceLaws.{large_kind}
use Rattle.c_snapshot.proofs.parts.place_of.Goals as goal

pub returns-then-kind-gt-LARGEST_KIND : goal.returns-then-kind-gt-LARGEST_KIND
returns-then-kind-gt-LARGEST_KIND c = let a = c.args in sym (large_kind a.snapshot.now a.kind (omega arith))
