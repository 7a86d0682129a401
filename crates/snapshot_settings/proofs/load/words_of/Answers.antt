-- `load::words_of` meets its contract, which says the numbers in their order. Assumes nothing.
use Rattle.std.proofs.Common.{refl}
use Rattle.snapshot_settings.specs.Load.{load_words}
use Rattle.snapshot_settings.proofs.load.words_of.Goals as goal

pub returns : goal.returns
unfolding load_words
returns c = refl
