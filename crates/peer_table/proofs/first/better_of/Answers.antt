-- `peer_table::first::better_of` meets its contract: by what was found, what is offered, and the test between them. Assumes nothing.
use borrow.Author.Tests.{lt-ltb, le-ltb}
use Rattle.peer_table.proofs.first.better_of.Goals as goal

pub returns-in_default-found : goal.returns-in_default-found
returns-in_default-found c = rw (c.in_default-found.is, c.in-Some.is)

pub returns-then-time-least : goal.returns-then-time-least
returns-then-time-least c = rw (c.in-Some-found.is, c.in-Some.is, lt-ltb _ _ c.if-time-least.true)

pub returns : goal.returns
returns c = rw (c.in-Some-found.is, c.in-Some.is, le-ltb _ _ c.if-time-least.false)
