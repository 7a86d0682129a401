-- `PeerMessagePolicy::drop_known` meets its contract: the peer's row is taken out (`left_out`). Assumes nothing.
use Rattle.std.proofs.Common.{arith}
use Rattle.peer_message_policy.proofs.Judged.{known_inside, rows_fit}
use Rattle.peer_message_policy.proofs.Changes.{left_out}
use Rattle.peer_message_policy.proofs.policy.PeerMessagePolicy.drop_known.Goals as goal

pub remove_at-requires : goal.remove_at-requires
remove_at-requires c = let a = c.args in
    record { index_lt_count = known_inside a.self a.table.now a.peer.bytes a.index c.requires; count_in_bounds = rows_fit a.self a.table.now c.requires.is_sound }

pub overflow_sub-self : goal.overflow_sub-self
overflow_sub-self c = let a = c.args in
    omega (arith, known_inside a.self a.table.now a.peer.bytes a.index c.requires)

pub returns : goal.returns
returns c =
    let a = c.args in
    rw c.after.ensures (left_out a.self a.table.now a.peer.bytes a.index c.requires _ c.remove_at.ensures)
