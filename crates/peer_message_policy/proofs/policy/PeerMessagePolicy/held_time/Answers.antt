-- `PeerMessagePolicy::held_time` meets its contract. Assumes nothing.
use Rattle.std.proofs.Common.{sym, ◌∙◌}
use Rattle.peer_message_policy.proofs.Judged.{sought_unsound, sought_known, sought_unknown, unknown_look}
use Rattle.peer_message_policy.proofs.Branches.{held_unsound, held_nobody}
use Rattle.peer_message_policy.proofs.policy.PeerMessagePolicy.held_time.Goals as goal

pub held_known-requires : goal.held_known-requires
held_known-requires c = let a = c.args in
    sought_known a.self a.table.now a.peer.bytes (sym c.sought.ensures ∙ c.in-At.is)

pub returns-in-Unsound : goal.returns-in-Unsound
returns-in-Unsound c = let a = c.args in
    held_unsound a.self a.table.now a.peer a.given_ms (sought_unsound a.self a.table.now a.peer.bytes (sym c.sought.ensures ∙ c.in-Unsound.is))

pub returns-in-Gap : goal.returns-in-Gap
returns-in-Gap c = let a = c.args in
    let u = sought_unknown a.self a.table.now a.peer.bytes (sym c.sought.ensures ∙ c.in-Gap.is) in
    held_nobody a.self a.table.now a.peer a.given_ms u.is_sound (unknown_look a.self a.table.now a.peer.bytes _ u)
