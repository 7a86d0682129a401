-- `Line::empty` holds nothing. Assumes nothing.
use Rattle.std.proofs.Common.{refl}
use Rattle.replay.specs.Line.{written}
use Rattle.replay.proofs.line.Line.empty.Goals as goal

pub returns : goal.returns
unfolding written
returns c = refl
