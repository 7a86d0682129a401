-- `PeerMessagePolicy::admit_found` meets its contract. Assumes nothing.
use Rattle.std.proofs.Common.{sym, ◌∙◌}
use Rattle.peer_message_policy.proofs.Judged.{entry_to_update_sound}
use Rattle.peer_message_policy.proofs.Found.{found_live, found_sound, found_goes_on, left_among}
use Rattle.peer_message_policy.proofs.Branches.{admit_live, admit_refused, admit_carried}
use Rattle.peer_message_policy.proofs.policy.PeerMessagePolicy.admit_found.Goals as goal

pub returns-then-is_banned : goal.returns-then-is_banned
returns-then-is_banned c =
    let a = c.args in
    let e = c.entry_found-entry.result in
    admit_live a.self a.table.now a.peer a.bytes a.now_ms c.requires.is_sound e (found_live a.self a.table.now a.peer.bytes a.now_ms a.found c.requires e c.entry_found-entry.ensures (sym c.is_banned.ensures ∙ c.if-is_banned.true)) (sym c.is_banned.ensures ∙ c.if-is_banned.true)

pub decide-d-requires : goal.decide-d-requires
decide-d-requires c =
    let a = c.args in
    let e = c.entry_found-entry.result in
    entry_to_update_sound a.self.config e a.now_ms c.to_update-current.result c.to_update-current.ensures (found_sound a.self a.table.now a.peer.bytes a.now_ms a.found c.requires e c.entry_found-entry.ensures)

pub returns-then-refuses : goal.returns-then-refuses
returns-then-refuses c =
    let a = c.args in
    let x = c.to_update-current.result in
    let u = found_goes_on a.self a.table.now a.peer.bytes a.now_ms a.found c.requires c.entry_found-entry.result c.entry_found-entry.ensures (sym c.is_banned.ensures ∙ c.if-is_banned.false) x c.to_update-current.ensures in
    admit_refused a.self a.table.now a.peer a.bytes a.now_ms c.requires.is_sound x u.among u.found c.decide-d.result (rw c.try_reserve-room.ensures at c.decide-d.ensures) (sym c.refuses.ensures ∙ c.if-refuses.true)

pub returns : goal.returns
returns c =
    let a = c.args in
    let x = c.to_update-current.result in
    let u = found_goes_on a.self a.table.now a.peer.bytes a.now_ms a.found c.requires c.entry_found-entry.result c.entry_found-entry.ensures (sym c.is_banned.ensures ∙ c.if-is_banned.false) x c.to_update-current.ensures in
    admit_carried a.self a.table.now a.peer a.bytes a.now_ms c.requires.is_sound x u.among u.found c.decide-d.result (rw c.try_reserve-room.ensures at c.decide-d.ensures) (sym c.refuses.ensures ∙ c.if-refuses.false) c.store_found.result _ (left_among u c.decide-d.result.entry c.store_found.ensures)
