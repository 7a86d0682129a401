-- `gossip_bans::tracker::GossipBanTracker::violation_new` meets its contract: bans are off, or an entry is stored where room was made (`violated_new`). Assumes nothing.
use Rattle.std.proofs.Common.{refl, sym, ◌∙◌}
use Rattle.gossip_bans.proofs.Judged.{unknown_look}
use Rattle.gossip_bans.proofs.Branches.{violated_off, violated_new}
use Rattle.gossip_bans.proofs.tracker.GossipBanTracker.violation_new.Goals as goal

pub returns-then-is_disabled : goal.returns-then-is_disabled
returns-then-is_disabled c = let a = c.args in
    violated_off a.self a.table.now a.peer a.violation a.now_ms c.requires.is_sound (sym c.is_disabled.ensures ∙ c.if-is_disabled.true)

pub returns : goal.returns
returns c =
    let a = c.args in
    violated_new a.self a.table.now a.peer a.violation a.now_ms c.requires.is_sound (sym c.is_disabled.ensures ∙ c.if-is_disabled.false) c.store_new.result _ c.score.result c.score.ensures
    c.default.result c.raised-raised.result c.banned_if_reached-e.result c.reaches.result _
    (unknown_look a.self a.table.now a.peer.bytes a.gap c.requires) c.default.ensures c.raised-raised.ensures c.reaches.ensures refl c.banned_if_reached-e.ensures c.store_new.ensures
