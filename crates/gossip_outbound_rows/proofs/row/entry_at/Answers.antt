-- `gossip_outbound_rows::row::entry_at` meets its contract: the numbers by their places. Assumes nothing.
use Rattle.std.proofs.Common.{sym}
use Rattle.gossip_outbound_rows.specs.RowsLaws.{entry_places_lem}
use Rattle.gossip_outbound_rows.proofs.row.entry_at.Goals as goal

pub returns : goal.returns
returns c = let a = c.args in
    rw (c.get_u64.ensures, c.get_u64-2.ensures, c.get_u64-3.ensures, c.get_u64-4.ensures) (sym (entry_places_lem a.table.now a.at))
