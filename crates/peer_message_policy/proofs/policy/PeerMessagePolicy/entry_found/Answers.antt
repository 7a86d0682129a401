-- `PeerMessagePolicy::entry_found` meets its contract: by what was found. Assumes nothing.
use Rattle.peer_message_policy.specs.Private.{entry_found}
use Rattle.peer_message_policy.proofs.Judged.{known_fits}
use Rattle.peer_message_policy.proofs.policy.PeerMessagePolicy.entry_found.Goals as goal

pub entry_at-requires : goal.entry_at-requires
entry_at-requires c =
    let a = c.args in
    known_fits a.self a.table.now a.peer.bytes _ (rw c.in-At.is at c.requires)

pub returns-in-At : goal.returns-in-At
unfolding entry_found
returns-in-At c = rw c.in-At.is c.entry_at.ensures

pub returns-in-Gap : goal.returns-in-Gap
unfolding entry_found
returns-in-Gap c = rw c.in-Gap.is c.new.ensures

pub returns-in-Unsound : goal.returns-in-Unsound
unfolding entry_found
returns-in-Unsound c = rw c.in-Unsound.is c.new-in-Unsound.ensures
