-- `PeerMessagePolicy::held_known` meets its contract. Assumes nothing.
use Rattle.peer_message_policy.proofs.Judged.{known_fits, known_look}
use Rattle.peer_message_policy.proofs.Branches.{held_later}
use Rattle.peer_message_policy.proofs.policy.PeerMessagePolicy.held_known.Goals as goal

pub entry_at-requires : goal.entry_at-requires
entry_at-requires c = let a = c.args in
    known_fits a.self a.table.now a.peer.bytes a.index c.requires

pub returns : goal.returns
returns c = let a = c.args in
    let e = c.entry_at.result in
    rw c.max.ensures (held_later a.self a.table.now a.peer a.given_ms c.requires.is_sound e (known_look a.self a.table.now a.peer.bytes a.index c.requires e c.entry_at.ensures))
