-- `PeerMessagePolicy::invalid_found` meets its contract. Assumes nothing.
use Rattle.std.proofs.Common.{sym, ◌∙◌}
use Rattle.peer_message_policy.proofs.Found.{found_live, found_goes_on, left_among}
use Rattle.peer_message_policy.proofs.Branches.{invalid_live, invalid_carried}
use Rattle.peer_message_policy.proofs.policy.PeerMessagePolicy.invalid_found.Goals as goal

pub returns-then-is_banned : goal.returns-then-is_banned
returns-then-is_banned c =
    let a = c.args in
    let e = c.entry_found-entry.result in
    invalid_live a.self a.table.now a.peer a.now_ms c.requires.is_sound e (found_live a.self a.table.now a.peer.bytes a.now_ms a.found c.requires e c.entry_found-entry.ensures (sym c.is_banned.ensures ∙ c.if-is_banned.true)) (sym c.is_banned.ensures ∙ c.if-is_banned.true)

pub returns : goal.returns
returns c =
    let a = c.args in
    let x = c.to_update-current.result in
    let u = found_goes_on a.self a.table.now a.peer.bytes a.now_ms a.found c.requires c.entry_found-entry.result c.entry_found-entry.ensures (sym c.is_banned.ensures ∙ c.if-is_banned.false) x c.to_update-current.ensures in
    invalid_carried a.self a.table.now a.peer a.now_ms c.requires.is_sound x u.among u.found c.decide_invalid-d.result c.decide_invalid-d.ensures c.store_found.result _ (left_among u c.decide_invalid-d.result.entry c.store_found.ensures)
