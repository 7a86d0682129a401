-- `gossip_policy::state::GossipPolicyState::prune_bans` meets its contract: that of the half, told of the whole. Assumes nothing.
use Rattle.std.proofs.Common.{◌≡◌, rules}
use Rattle.gossip_policy.specs.State.{with_tracker}
use Rattle.gossip_policy.proofs.Whole.{handed, pruned}
use Rattle.gossip_policy.proofs.state.GossipPolicyState.prune_bans.Goals as goal

pub returns : goal.returns
returns c =
    let a = c.args in
    let after : c.map_state.result.state ≡ with_tracker a.self c.prune_expired.result.state = search rules in
    rw (handed after c.map_state.ensures.answer) (pruned a.self a.ban_table.now _ a.now_ms c.prune_expired.result c.prune_expired.ensures)
