-- `tracker::GossipBanTracker::is_sound` meets its contract: each test is one of the definition's. Assumes nothing.
use borrow.Author.Tests.{le-leb, lt-leb}
use Rattle.gossip_bans.specs.Tracker.{tracker_sound}
use Rattle.gossip_bans.proofs.tracker.GossipBanTracker.is_sound.Goals as goal

pub returns-then-self-le-MAX_TRACKED_PEERS : goal.returns-then-self-le-MAX_TRACKED_PEERS
unfolding tracker_sound
returns-then-self-le-MAX_TRACKED_PEERS c = rw (c.limit.ensures, le-leb c.args.self.max_entries 1024 c.if-self-le-MAX_TRACKED_PEERS.true)

pub returns-else-self-le-MAX_TRACKED_PEERS : goal.returns-else-self-le-MAX_TRACKED_PEERS
unfolding tracker_sound
returns-else-self-le-MAX_TRACKED_PEERS c = rw (lt-leb c.args.self.max_entries 1024 c.if-self-le-MAX_TRACKED_PEERS.false)
