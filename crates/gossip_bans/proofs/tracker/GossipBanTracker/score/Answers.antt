-- `gossip_bans::tracker::GossipBanTracker::score` meets its contract: by what is found. Assumes nothing.
use Rattle.std.proofs.Common.{sym, ◌∙◌}
use Rattle.gossip_bans.proofs.Judged.{sought_unsound, sought_known, sought_unknown, unknown_look}
use Rattle.gossip_bans.proofs.Branches.{scored_unsound, scored_absent}
use Rattle.gossip_bans.proofs.tracker.GossipBanTracker.score.Goals as goal

pub score_known-requires : goal.score_known-requires
score_known-requires c = let a = c.args in
    sought_known a.self a.table.now a.peer.bytes (sym c.sought.ensures ∙ c.in-At.is)

pub returns-in-Unsound : goal.returns-in-Unsound
returns-in-Unsound c = let a = c.args in
    scored_unsound a.self a.table.now a.peer a.now_ms (sought_unsound a.self a.table.now a.peer.bytes (sym c.sought.ensures ∙ c.in-Unsound.is))

pub returns-in-At : goal.returns-in-At
returns-in-At c = c.score_known.ensures

pub returns-in-Gap : goal.returns-in-Gap
returns-in-Gap c = let a = c.args in
    let u = sought_unknown a.self a.table.now a.peer.bytes (sym c.sought.ensures ∙ c.in-Gap.is) in
    scored_absent a.self a.table.now a.peer a.now_ms u.is_sound (λ i. (c.slice_known-1.given i).fits) (unknown_look a.self a.table.now a.peer.bytes _ u)
