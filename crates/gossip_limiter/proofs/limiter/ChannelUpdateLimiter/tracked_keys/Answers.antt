-- `ChannelUpdateLimiter::tracked_keys` meets its contract: by the record's rules. Assumes nothing.
use Rattle.std.proofs.Common.{sym, ◌∙◌}
use borrow.Author.Tests.{not-true, not-false}
use Rattle.gossip_limiter.specs.Calls.{TrackedKeysMeets}
use Rattle.gossip_limiter.proofs.limiter.ChannelUpdateLimiter.tracked_keys.Goals as goal

pub returns-then-not-is_sound : goal.returns-then-not-is_sound
unfolding TrackedKeysMeets
returns-then-not-is_sound c = rw (sym c.is_sound.ensures ∙ not-true c.is_sound.result c.if-not-is_sound.true-raw)

pub returns : goal.returns
unfolding TrackedKeysMeets
returns c = rw (sym c.is_sound.ensures ∙ not-false c.is_sound.result c.if-not-is_sound.false-raw)
