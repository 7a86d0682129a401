-- `gossip_bans::tracker::GossipBanTracker::tracked_peers` meets its contract: the record is judged. Assumes nothing.
use Rattle.std.proofs.Common.{sym, ◌∙◌}
use borrow.Author.Tests.{not-true, not-false}
use Rattle.gossip_bans.specs.Calls.{TrackedPeersMeets}
use Rattle.gossip_bans.proofs.tracker.GossipBanTracker.tracked_peers.Goals as goal

pub returns-then-not-is_sound : goal.returns-then-not-is_sound
unfolding TrackedPeersMeets
returns-then-not-is_sound c = rw (sym c.is_sound.ensures ∙ not-true c.is_sound.result c.if-not-is_sound.true-raw)

pub returns : goal.returns
unfolding TrackedPeersMeets
returns c = rw (sym c.is_sound.ensures ∙ not-false c.is_sound.result c.if-not-is_sound.false-raw)
