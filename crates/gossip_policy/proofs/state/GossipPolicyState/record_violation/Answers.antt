-- `gossip_policy::state::GossipPolicyState::record_violation` meets its contract: that of the half, told of the whole. Assumes nothing.
use Rattle.std.proofs.Common.{◌≡◌, rules}
use Rattle.gossip_policy.specs.State.{with_tracker}
use Rattle.gossip_policy.proofs.Whole.{handed, recorded}
use Rattle.gossip_policy.proofs.state.GossipPolicyState.record_violation.Goals as goal

pub returns : goal.returns
returns c =
    let a = c.args in
    let after : c.map_state.result.state ≡ with_tracker a.self c.record_violation.result.state = search rules in
    rw (handed after c.map_state.ensures.answer) (recorded a.self a.ban_table.now _ a.now_ms a.peer a.violation c.record_violation.result c.record_violation.ensures)
