-- `table::rows::put_words` meets its contract. The invariant of its loop: the first i numbers are written. Assumes nothing.
use Rattle.std.proofs.Common.{◌≡◌, length, take}
use Rattle.lent_bytes.specs.LentBytes.{put}
use Rattle.table.specs.Memory.{word_bytes}
use Rattle.table.proofs.rows.put_words.Given as goal

abbrev pub invariant-loop-i : goal.invariant-loop-i
invariant-loop-i l = (l.table ≡ put l.initial.table l.at (word_bytes (take l.i l.words))) × (length l.table ≡ length l.initial.table)
