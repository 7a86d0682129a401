-- `parts::numbers_of` meets its contract: word by word. Assumes nothing.
use Rattle.peer_rows.specs.Rows.{entry_words}
use Rattle.c_snapshot.proofs.parts.numbers_of.Goals as goal

pub returns : goal.returns
unfolding entry_words
returns c = rw c.words_of-words.ensures
