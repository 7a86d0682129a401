-- `settings::words_of` meets its contract, which says the numbers in their order. Assumes nothing.
use Rattle.std.proofs.Common.{refl}
use Rattle.snapshot_settings.specs.Settings.{settings_words}
use Rattle.snapshot_settings.proofs.settings.words_of.Goals as goal

pub returns : goal.returns
unfolding settings_words
returns c = refl
