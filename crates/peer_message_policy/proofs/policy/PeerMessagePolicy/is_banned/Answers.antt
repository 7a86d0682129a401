-- `PeerMessagePolicy::is_banned` meets its contract. Assumes nothing.
use Rattle.std.proofs.Common.{sym, ◌∙◌}
use Rattle.peer_message_policy.proofs.Judged.{sought_unsound, sought_known, sought_unknown, unknown_look}
use Rattle.peer_message_policy.proofs.Branches.{standing_unsound, standing_nobody}
use Rattle.peer_message_policy.proofs.policy.PeerMessagePolicy.is_banned.Goals as goal

pub standing_known-requires : goal.standing_known-requires
standing_known-requires c = let a = c.args in
    sought_known a.self a.table.now a.peer.bytes (sym c.sought.ensures ∙ c.in-At.is)

pub returns-in-Unsound : goal.returns-in-Unsound
returns-in-Unsound c = let a = c.args in
    standing_unsound a.self a.table.now a.peer a.now_ms (sought_unsound a.self a.table.now a.peer.bytes (sym c.sought.ensures ∙ c.in-Unsound.is))

pub returns-in-Gap : goal.returns-in-Gap
returns-in-Gap c = let a = c.args in
    let u = sought_unknown a.self a.table.now a.peer.bytes (sym c.sought.ensures ∙ c.in-Gap.is) in
    standing_nobody a.self a.table.now a.peer a.now_ms u.is_sound (unknown_look a.self a.table.now a.peer.bytes _ u)
