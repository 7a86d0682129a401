-- `gossip_bans::tracker::GossipBanTracker::store_new` meets its contract: room is made and the entry stored, and two changes are one (`left_new`). Assumes nothing.
use Rattle.std.proofs.Common.{arith}
use Rattle.gossip_bans.proofs.Judged.{rows_fit}
use Rattle.gossip_bans.proofs.Carried.{one_more_fits, left_new}
use Rattle.gossip_bans.proofs.tracker.GossipBanTracker.store_new.Goals as goal

pub make_room-left-requires : goal.make_room-left-requires
make_room-left-requires c = let a = c.args in
    omega (arith, c.limit-limit.ensures, rows_fit a.self a.table.now c.requires.is_sound)

pub store-rows-requires : goal.store-rows-requires
store-rows-requires c = let a = c.args in
    omega (arith, one_more_fits a.self a.table.now a.peer.bytes a.gap a.now_ms c.limit-limit.result c.requires c.limit-limit.ensures c.make_room-left.result c.make_room-left.ensures.1)

pub returns : goal.returns
returns c =
    let a = c.args in
    rw c.with_rows.ensures (left_new a.self a.table.now a.peer.bytes a.gap a.now_ms c.limit-limit.result c.requires c.limit-limit.ensures (λ i. (c.slice_known-1.given i).fits) _ c.make_room-left.result c.make_room-left.ensures _ c.store-rows.result a.e c.store-rows.ensures)
