-- `gossip_outbound_rows::entry::is_sound` meets its contract: the definition, number by number. Assumes nothing.
use Rattle.std.proofs.Common.{ap, ◌∙◌}
use borrow.Author.Tests.{le-leb, lt-leb}
use Rattle.bucket_bytes.specs.ByteBucket.{byte_sound}
use Rattle.gossip_outbound_rows.specs.Entry.{entry_sound}
use Rattle.gossip_outbound_rows.proofs.entry.is_sound.Goals as goal

pub returns-then-e-le1 : goal.returns-then-e-le1
unfolding entry_sound
returns-then-e-le1 c = rw (le-leb c.args.e.sign 1 c.if-e-le1.true) (c.is_sound.ensures ∙ ap byte_sound c.bucket_of.ensures)

pub returns-else-e-le1 : goal.returns-else-e-le1
unfolding entry_sound
returns-else-e-le1 c = rw (lt-leb c.args.e.sign 1 c.if-e-le1.false)
