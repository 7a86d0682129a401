-- `gossip_policy::state::GossipPolicyState::refund_outbound_message` meets its contract: that of the half, told of the whole. Assumes nothing.
use Rattle.std.proofs.Common.{◌≡◌, rules}
use Rattle.gossip_policy.specs.State.{with_outbound}
use Rattle.gossip_policy.proofs.Whole.{handed, refunded}
use Rattle.gossip_policy.proofs.state.GossipPolicyState.refund_outbound_message.Goals as goal

pub returns : goal.returns
returns c =
    let a = c.args in
    let after : c.map_state.result.state ≡ with_outbound a.self c.refund_outbound_message-r.result.state = search rules in
    rw (handed after c.map_state.ensures.answer) (refunded a.self a.outbound_table.now _ a.peer a.bytes a.now_ms c.refund_outbound_message-r.result (rw c.outbound-outbound.ensures at c.refund_outbound_message-r.ensures))
