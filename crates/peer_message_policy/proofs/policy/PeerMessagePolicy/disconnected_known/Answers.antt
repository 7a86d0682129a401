-- `PeerMessagePolicy::disconnected_known` meets its contract. Assumes nothing.
use Rattle.std.proofs.Common.{sym, ◌∙◌}
use Rattle.peer_message_policy.proofs.Judged.{known_fits, known_look}
use Rattle.peer_message_policy.proofs.Branches.{disconnected_live, disconnected_dropped, disconnected_expired}
use Rattle.peer_message_policy.proofs.policy.PeerMessagePolicy.disconnected_known.Goals as goal

pub entry_at-entry-requires : goal.entry_at-entry-requires
entry_at-entry-requires c = let a = c.args in
    known_fits a.self a.table.now a.peer.bytes a.index c.requires

pub returns-then-is_banned : goal.returns-then-is_banned
returns-then-is_banned c = let a = c.args in
    let e = c.entry_at-entry.result in
    disconnected_live a.self a.table.now a.peer a.now_ms c.requires.is_sound e (known_look a.self a.table.now a.peer.bytes a.index c.requires e c.entry_at-entry.ensures) (sym c.is_banned.ensures ∙ c.if-is_banned.true)

pub returns-then-is_spent : goal.returns-then-is_spent
returns-then-is_spent c =
    let a = c.args in
    let e = c.entry_at-entry.result in
    disconnected_dropped a.self a.table.now a.peer a.now_ms c.requires.is_sound e (known_look a.self a.table.now a.peer.bytes a.index c.requires e c.entry_at-entry.ensures) (sym c.is_banned.ensures ∙ c.if-is_banned.false) (sym c.is_spent.ensures ∙ c.if-is_spent.true) c.drop_known.result _ c.drop_known.ensures

pub returns : goal.returns
returns c =
    let a = c.args in
    let e = c.entry_at-entry.result in
    disconnected_expired a.self a.table.now a.peer a.now_ms c.requires.is_sound e (known_look a.self a.table.now a.peer.bytes a.index c.requires e c.entry_at-entry.ensures) (sym c.is_banned.ensures ∙ c.if-is_banned.false) (sym c.is_spent.ensures ∙ c.if-is_spent.false) c.expire_known.result _ c.expire_known.ensures
