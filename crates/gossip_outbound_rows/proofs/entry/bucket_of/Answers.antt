-- `gossip_outbound_rows::entry::bucket_of` meets its contract: the definition, number by number. Assumes nothing.
use Rattle.gossip_outbound_rows.proofs.entry.bucket_of.Goals as goal

pub returns : goal.returns
returns c = rw c.amount_from.ensures
