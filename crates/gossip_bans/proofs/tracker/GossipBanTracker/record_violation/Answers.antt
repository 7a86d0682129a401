-- `gossip_bans::tracker::GossipBanTracker::record_violation` meets its contract: by what is found. Assumes nothing.
use Rattle.std.proofs.Common.{sym, ◌∙◌}
use Rattle.gossip_bans.proofs.Judged.{sought_unsound, sought_known, sought_unknown}
use Rattle.gossip_bans.proofs.Branches.{violation_unsound}
use Rattle.gossip_bans.proofs.tracker.GossipBanTracker.record_violation.Goals as goal

pub violation_known-requires : goal.violation_known-requires
violation_known-requires c = let a = c.args in
    sought_known a.self a.table.now a.peer.bytes (sym c.sought.ensures ∙ c.in-At.is)

pub violation_new-requires : goal.violation_new-requires
violation_new-requires c = let a = c.args in
    sought_unknown a.self a.table.now a.peer.bytes (sym c.sought.ensures ∙ c.in-Gap.is)

pub returns-in-Unsound : goal.returns-in-Unsound
returns-in-Unsound c = let a = c.args in
    violation_unsound a.self a.table.now a.peer a.violation a.now_ms (sought_unsound a.self a.table.now a.peer.bytes (sym c.sought.ensures ∙ c.in-Unsound.is))

pub returns-in-At : goal.returns-in-At
returns-in-At c = c.violation_known.ensures

pub returns-in-Gap : goal.returns-in-Gap
returns-in-Gap c = c.violation_new.ensures
