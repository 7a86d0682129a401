-- `gossip_bans::tracker::GossipBanTracker::prune_expired` meets its contract: judged, then pruned. Assumes nothing.
use Rattle.std.proofs.Common.{sym, ◌∙◌}
use borrow.Author.Tests.{not-true, not-false}
use Rattle.gossip_bans.proofs.Judged.{rows_fit}
use Rattle.gossip_bans.proofs.Carried.{left_counted}
use Rattle.gossip_bans.proofs.Branches.{pruned_unsound, pruned_done_lem}
use Rattle.gossip_bans.proofs.tracker.GossipBanTracker.prune_expired.Goals as goal

pub returns-then-not-is_sound_in : goal.returns-then-not-is_sound_in
returns-then-not-is_sound_in c = let a = c.args in
    pruned_unsound a.self a.table.now a.now_ms (sym c.is_sound_in.ensures ∙ not-true c.is_sound_in.result c.if-not-is_sound_in.true-raw)

pub prune_expired-left-requires : goal.prune_expired-left-requires
prune_expired-left-requires c = let a = c.args in
    rows_fit a.self a.table.now (sym c.is_sound_in.ensures ∙ not-false c.is_sound_in.result c.if-not-is_sound_in.false-raw)

pub returns : goal.returns
returns c =
    let a = c.args in
    rw c.with_rows.ensures (pruned_done_lem a.self a.table.now a.now_ms (sym c.is_sound_in.ensures ∙ not-false c.is_sound_in.result c.if-not-is_sound_in.false-raw) _ _ (left_counted a.self a.table.now _ c.prune_expired-left.result _ c.prune_expired-left.ensures))
