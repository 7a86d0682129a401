-- `limiter::ChannelUpdateLimiter::is_sound` meets its contract: each test is one of the definition's. Assumes nothing.
use borrow.Author.Tests.{le-leb, lt-leb}
use Rattle.gossip_limiter.specs.Limiter.{limiter_record_sound}
use Rattle.gossip_limiter.proofs.limiter.ChannelUpdateLimiter.is_sound.Goals as goal

pub returns-then-self-le-MAX_TRACKED_KEYS : goal.returns-then-self-le-MAX_TRACKED_KEYS
unfolding limiter_record_sound
returns-then-self-le-MAX_TRACKED_KEYS c = rw (c.limit.ensures, le-leb c.args.self.max_entries 1024 c.if-self-le-MAX_TRACKED_KEYS.true)

pub returns-else-self-le-MAX_TRACKED_KEYS : goal.returns-else-self-le-MAX_TRACKED_KEYS
unfolding limiter_record_sound
returns-else-self-le-MAX_TRACKED_KEYS c = rw (lt-leb c.args.self.max_entries 1024 c.if-self-le-MAX_TRACKED_KEYS.false)
