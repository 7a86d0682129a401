-- `PeerMessagePolicy::admit` meets its contract. Assumes nothing.
use Rattle.std.proofs.Common.{sym, ◌∙◌}
use Rattle.peer_message_policy.proofs.Judged.{sought_unsound, sought_found}
use Rattle.peer_message_policy.proofs.Branches.{admit_unsound}
use Rattle.peer_message_policy.proofs.policy.PeerMessagePolicy.admit.Goals as goal

pub returns-in-Unsound : goal.returns-in-Unsound
returns-in-Unsound c =
    let a = c.args in
    admit_unsound a.self a.table.now a.peer a.bytes a.now_ms (sought_unsound a.self a.table.now a.peer.bytes (sym c.sought-found.ensures ∙ c.in-Unsound.is))

pub admit_found-requires : goal.admit_found-requires
admit_found-requires c =
    let a = c.args in
    sought_found a.self a.table.now a.peer.bytes c.sought-found.result (sym c.sought-found.ensures) c.in_default.not-Unsound
