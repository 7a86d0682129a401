-- `checksum::add` gives the sum with a number added: a sum below 2^55 times 257, and a number below 2^32, are below 2^64. Assumes nothing.
use Rattle.std.proofs.Common.{refl}
use Rattle.replay.specs.Checksum.{added}
use Rattle.replay.proofs.checksum.add.Goals as goal

pub returns : goal.returns
unfolding added
returns c = refl
