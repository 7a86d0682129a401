-- `policy::PeerMessagePolicy::default` meets its contract. Assumes nothing.
use Rattle.peer_message_policy.proofs.policy.PeerMessagePolicy.default.Goals as goal

pub returns : goal.returns
returns c = rw c.default.ensures at c.new.ensures
