-- `trace_lines::event::hex_pair` meets its contract: by its two tests. Assumes nothing.
use borrow.Author.Tests.{le-ltb, lt-ltb}
use Rattle.trace_lines.proofs.event.hex_pair.Goals as goal

pub returns-then-high-ge16 : goal.returns-then-high-ge16
returns-then-high-ge16 c = rw (le-ltb c.args.high 16 c.if-high-ge16.true)

pub returns-then-low-ge16 : goal.returns-then-low-ge16
returns-then-low-ge16 c = rw (lt-ltb c.args.high 16 c.if-high-ge16.false, le-ltb c.args.low 16 c.if-low-ge16.true)

pub returns : goal.returns
returns c = rw (lt-ltb c.args.high 16 c.if-high-ge16.false, lt-ltb c.args.low 16 c.if-low-ge16.false)
