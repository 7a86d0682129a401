-- `gossip_outbound_state::state::Outbound::is_sound` meets its contract: each test is one of the definition's. Assumes nothing.
use borrow.Author.Tests.{le-leb, lt-leb}
use Rattle.gossip_outbound_state.specs.State.{own_sound}
use Rattle.gossip_outbound_state.proofs.state.Outbound.is_sound.Goals as goal

pub returns-then-self-le-MAX_ROWS : goal.returns-then-self-le-MAX_ROWS
unfolding own_sound
returns-then-self-le-MAX_ROWS c = rw (le-leb c.args.self.rows 1024 c.if-self-le-MAX_ROWS.true) c.is_sound.ensures

pub returns-else-self-le-MAX_ROWS : goal.returns-else-self-le-MAX_ROWS
unfolding own_sound
returns-else-self-le-MAX_ROWS c = rw (lt-leb c.args.self.rows 1024 c.if-self-le-MAX_ROWS.false)
