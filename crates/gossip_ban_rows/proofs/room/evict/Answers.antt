-- `gossip_ban_rows::room::evict` meets its contract: the row that was found goes (`evict_found_lem`). Assumes nothing.
use Rattle.std.proofs.Common.{sym, arith}
use Rattle.table.specs.Memory.{rows}
use Rattle.table.specs.MemoryLaws.{length_rows}
use Rattle.table_laws.specs.ChangeLaws.{holds_same}
use Rattle.table_laws.specs.MinimumRowsLaws.{found_inside}
use Rattle.gossip_ban_rows.specs.Rows.{ban_layout}
use Rattle.gossip_ban_rows.specs.Room.{eviction_rank}
use Rattle.gossip_ban_rows.specs.RoomLaws.{evict_found_lem, length_evict}
use Rattle.gossip_ban_rows.proofs.room.evict.Goals as goal

pub remove_at-requires : goal.remove_at-requires
remove_at-requires c = let a = c.args in
    omega (arith, c.requires, found_inside ban_layout (eviction_rank a.now_ms) a.table.now a.count c.first_to_go-index.ensures)

pub returns : goal.returns
returns c = let a = c.args in
    (holds_same (sym (evict_found_lem a.now_ms (rows ban_layout a.table.now a.count) c.first_to_go-index.ensures)) c.remove_at.ensures, omega (arith, c.requires, length_evict a.now_ms (rows ban_layout a.table.now a.count) (omega (arith, c.requires, length_rows ban_layout a.table.now a.count)), length_rows ban_layout a.table.now a.count))
