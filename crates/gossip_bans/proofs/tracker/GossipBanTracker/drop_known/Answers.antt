-- `gossip_bans::tracker::GossipBanTracker::drop_known` meets its contract: the peer's row is taken out (`left_out`). Assumes nothing.
use Rattle.std.proofs.Common.{arith}
use Rattle.gossip_bans.proofs.Judged.{known_inside, rows_fit}
use Rattle.gossip_bans.proofs.Carried.{left_out}
use Rattle.gossip_bans.proofs.tracker.GossipBanTracker.drop_known.Goals as goal

pub remove_at-requires : goal.remove_at-requires
remove_at-requires c = let a = c.args in
    record {
      index_lt_count = known_inside a.self a.table.now a.peer.bytes a.index c.requires;
      count_in_bounds = rows_fit a.self a.table.now c.requires.is_sound;
    }

pub overflow_sub-self : goal.overflow_sub-self
overflow_sub-self c = let a = c.args in
    omega (arith, known_inside a.self a.table.now a.peer.bytes a.index c.requires)

pub returns : goal.returns
returns c = let a = c.args in
    rw c.with_rows.ensures (left_out a.self a.table.now _ a.peer.bytes a.index c.requires c.remove_at.ensures)
