-- `words::place_of` meets its contract: word by word. Assumes nothing.
use Rattle.c_trace.proofs.words.place_of.Goals as goal

pub returns : goal.returns
returns c = rw c.phase_number.ensures
