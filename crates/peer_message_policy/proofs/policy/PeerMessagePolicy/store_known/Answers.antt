-- `PeerMessagePolicy::store_known` meets its contract: a write over the peer's row is a store (`left_over`). Assumes nothing.
use Rattle.std.proofs.Common.{refl}
use Rattle.peer_message_policy.proofs.Judged.{known_inside, rows_fit}
use Rattle.peer_message_policy.proofs.Changes.{left_over}
use Rattle.peer_message_policy.proofs.policy.PeerMessagePolicy.store_known.Goals as goal

pub overwrite_at-requires : goal.overwrite_at-requires
overwrite_at-requires c = let a = c.args in
    record { index_lt_count = known_inside a.self a.table.now a.peer.bytes a.index c.requires; count_in_bounds = rows_fit a.self a.table.now c.requires.is_sound }

pub returns : goal.returns
returns c = let a = c.args in
    rw c.after.ensures (left_over a.self a.table.now a.peer.bytes a.index c.requires a.ingress _ a.entry a.entry refl c.overwrite_at.ensures)
