-- `key_of` gives the first 33 bytes of five words: four words written one after the other, and one byte of the fifth. Assumes nothing.
use Rattle.lent_bytes.specs.LentBytes.{put}
use Rattle.replay.specs.Record.{key_of}
use Rattle.replay.proofs.record.key_of.Goals as goal

pub returns : goal.returns
unfolding key_of put
returns c =
    rw (c.put_u64-4.ensures, c.put_u64-3.ensures, c.put_u64-2.ensures, c.put_u64.ensures)
