-- `gossip_ban_rows::room::first_to_go` meets its contract: the invariant is that of `MinimumRowsLaws` (of table_laws), and that what was found is a row. Assumes nothing.
use Rattle.std.proofs.Common.{◌<◌}
use Rattle.table.specs.Table.{Row}
use Rattle.table_laws.specs.MinimumRowsLaws.{FirstSo}
use Rattle.gossip_ban_rows.specs.declared.entry.GossipBanEntry.{GossipBanEntry}
use Rattle.gossip_ban_rows.specs.Rows.{ban_layout}
use Rattle.gossip_ban_rows.specs.Room.{rank}
use Rattle.gossip_ban_rows.proofs.room.first_to_go.Given as goal

abbrev pub invariant-loop-i : goal.invariant-loop-i
invariant-loop-i l = (l.found < l.count) × FirstSo ban_layout (λ (r : Row GossipBanEntry). rank l.now_ms r.entry) l.table l.count l.i l.found
