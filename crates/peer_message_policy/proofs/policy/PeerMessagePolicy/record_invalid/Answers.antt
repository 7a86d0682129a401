-- `PeerMessagePolicy::record_invalid` meets its contract. Assumes nothing.
use Rattle.std.proofs.Common.{sym, ◌∙◌}
use Rattle.peer_message_policy.proofs.Judged.{sought_unsound, sought_found}
use Rattle.peer_message_policy.proofs.Branches.{invalid_unsound}
use Rattle.peer_message_policy.proofs.policy.PeerMessagePolicy.record_invalid.Goals as goal

pub returns-in-Unsound : goal.returns-in-Unsound
returns-in-Unsound c =
    let a = c.args in
    invalid_unsound a.self a.table.now a.peer a.now_ms (sought_unsound a.self a.table.now a.peer.bytes (sym c.sought-found.ensures ∙ c.in-Unsound.is))

pub invalid_found-requires : goal.invalid_found-requires
invalid_found-requires c =
    let a = c.args in
    sought_found a.self a.table.now a.peer.bytes c.sought-found.result (sym c.sought-found.ensures) c.in_default.not-Unsound
