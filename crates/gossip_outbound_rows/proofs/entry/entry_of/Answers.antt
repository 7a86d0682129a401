-- `gossip_outbound_rows::entry::entry_of` meets its contract: the definition, number by number. Assumes nothing.
use Rattle.gossip_outbound_rows.specs.Entry.{entry_of}
use Rattle.gossip_outbound_rows.proofs.entry.entry_of.Goals as goal

pub returns : goal.returns
unfolding entry_of
returns c = rw (c.sign_of.ensures, c.joined.ensures, c.joined-2.ensures)
