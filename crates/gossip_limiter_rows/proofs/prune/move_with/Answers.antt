-- `prune::move_with` meets its contract (`moved_with`). Assumes nothing.
use Rattle.std.proofs.Common.{arith}
use Rattle.table.specs.Memory.{word_bytes}
use Rattle.table.specs.MemoryLaws.{length_word_bytes}
use Rattle.table_laws.specs.MapLaws.{moved_with}
use Rattle.gossip_limiter_rows.specs.Rows.{key_width, row_width, entry_words}
use Rattle.gossip_limiter_rows.proofs.prune.move_with.Goals as goal

pub returns : goal.returns
returns c =
    let a = c.args in
    moved_with row_width key_width a.from a.to a.table.now _ _ (word_bytes (entry_words a.e)) (omega arith) (omega arith) (omega (arith, c.requires)) (length_word_bytes (entry_words a.e)) c.keep_row.ensures (rw c.words_of-words.ensures at c.put_words.ensures)
