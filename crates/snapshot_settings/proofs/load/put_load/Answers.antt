-- `load::put_load` meets its contract: the numbers' bytes are written. Assumes nothing.
use Rattle.std.proofs.Common.{ap, ◌∙◌, List, ℕ}
use Rattle.lent_bytes.specs.LentBytes.{put}
use Rattle.table.specs.Memory.{word_bytes}
use Rattle.snapshot_settings.specs.Load.{load_bytes}
use Rattle.snapshot_settings.proofs.load.put_load.Goals as goal

pub returns : goal.returns
unfolding load_bytes
returns c =
    let a = c.args in
    c.put_words.ensures ∙ ap (λ (l : List ℕ). put a.output.now a.at (word_bytes l)) c.words_of.ensures
