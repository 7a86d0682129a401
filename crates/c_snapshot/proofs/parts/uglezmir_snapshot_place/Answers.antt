-- `parts::uglezmir_snapshot_place` meets its contract: by what was found. Assumes nothing.
use Rattle.std.proofs.Common.{refl, sym}
use Rattle.c_snapshot.proofs.parts.uglezmir_snapshot_place.Goals as goal

pub returns-in-Ok : goal.returns-in-Ok
returns-in-Ok c = rw (sym c.place_of.ensures, c.in-Ok.is) (refl, refl)

pub returns-in-Err : goal.returns-in-Err
returns-in-Err c = rw (sym c.place_of.ensures, c.in-Err.is) (c.number.ensures, refl)
