-- `checksum::add_word` adds both halves. Assumes nothing.
use Rattle.replay.specs.Checksum.{word_added}
use Rattle.replay.proofs.checksum.add_word.Goals as goal

pub returns : goal.returns
unfolding word_added
returns c = rw (c.add-2.ensures, c.add.ensures, c.high_half.ensures, c.low_half.ensures)
