-- `gossip_policy::state::GossipPolicyState::is_banned` meets its contract: that of the half, told of the whole. Assumes nothing.
use Rattle.std.proofs.Common.{◌≡◌, rules}
use Rattle.gossip_policy.specs.State.{with_tracker}
use Rattle.gossip_policy.proofs.Whole.{handed, standing}
use Rattle.gossip_policy.proofs.state.GossipPolicyState.is_banned.Goals as goal

pub returns : goal.returns
returns c =
    let a = c.args in
    let after : c.map_state.result.state ≡ with_tracker a.self c.is_banned.result.state = search rules in
    rw (handed after c.map_state.ensures.answer) (standing a.self a.ban_table.now _ a.now_ms a.peer c.is_banned.result c.is_banned.ensures)
