-- `gossip_outbound_rows::entry::amount_from` meets its contract: the definition, number by number. Assumes nothing.
use Rattle.std.proofs.Common.{refl}
use Rattle.gossip_outbound_rows.specs.Entry.{amount_from}
use Rattle.gossip_outbound_rows.proofs.entry.amount_from.Goals as goal

pub returns : goal.returns
unfolding amount_from
returns c = refl
