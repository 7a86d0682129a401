-- `gossip_bans::tracker::GossipBanTracker::violation_known` meets its contract: bans are off, or the entry is stored over (`violated_known`). Assumes nothing.
use Rattle.std.proofs.Common.{refl, sym, ◌∙◌, arith}
use Rattle.gossip_bans.proofs.Judged.{known_fits, known_look}
use Rattle.gossip_bans.proofs.Branches.{violated_off, violated_known}
use Rattle.gossip_bans.proofs.tracker.GossipBanTracker.violation_known.Goals as goal

pub returns-then-is_disabled : goal.returns-then-is_disabled
returns-then-is_disabled c = let a = c.args in
    violated_off a.self a.table.now a.peer a.violation a.now_ms c.requires.is_sound (sym c.is_disabled.ensures ∙ c.if-is_disabled.true)

pub overflow_mul-index : goal.overflow_mul-index
overflow_mul-index c = let a = c.args in
    omega (arith, known_fits a.self a.table.now a.peer.bytes a.index c.requires)

pub entry_at-found-requires : goal.entry_at-found-requires
entry_at-found-requires c = let a = c.args in
    known_fits a.self a.table.now a.peer.bytes a.index c.requires

pub returns : goal.returns
returns c =
    let a = c.args in
    violated_known a.self a.table.now a.peer a.violation a.now_ms c.requires.is_sound (sym c.is_disabled.ensures ∙ c.if-is_disabled.false) c.store_known.result _ c.score.result c.score.ensures
    c.entry_at-found.result c.unexpired_or_default-kept.result c.raised-raised.result c.banned_if_reached-e.result c.reaches.result _
    (known_look a.self a.table.now a.peer.bytes a.index c.requires c.entry_at-found.result c.entry_at-found.ensures) c.unexpired_or_default-kept.ensures c.raised-raised.ensures c.reaches.ensures refl c.banned_if_reached-e.ensures c.store_known.ensures
