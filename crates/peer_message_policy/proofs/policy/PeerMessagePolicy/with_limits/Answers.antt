-- `policy::PeerMessagePolicy::with_limits` meets its contract. Assumes nothing.
use Rattle.peer_message_policy.proofs.policy.PeerMessagePolicy.with_limits.Goals as goal

pub returns : goal.returns
returns c = rw c.with_limits-config.ensures at c.new.ensures
