-- `gossip_policy::state::GossipPolicyState::remove_outbound_peer` meets its contract: that of the half, told of the whole. Assumes nothing.
use Rattle.std.proofs.Common.{◌≡◌, rules}
use Rattle.gossip_policy.specs.State.{with_outbound}
use Rattle.gossip_policy.proofs.Whole.{handed, removed}
use Rattle.gossip_policy.proofs.state.GossipPolicyState.remove_outbound_peer.Goals as goal

pub returns : goal.returns
returns c =
    let a = c.args in
    let after : c.map_state.result.state ≡ with_outbound a.self c.remove_outbound_peer-removed.result.state = search rules in
    rw (handed after c.map_state.ensures.answer) (removed a.self a.outbound_table.now _ a.peer c.remove_outbound_peer-removed.result (rw c.outbound.ensures at c.remove_outbound_peer-removed.ensures))
