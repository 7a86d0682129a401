-- `text_pieces::hex::hex_char` meets its contract. Assumes nothing.
use Rattle.std.proofs.Common.{arith}
use borrow.Author.Tests.{lt-ltb, le-ltb}
use Rattle.text_pieces.proofs.hex.hex_char.Goals as goal

pub returns-then-value-lt10 : goal.returns-then-value-lt10
returns-then-value-lt10 c = rw (lt-ltb c.args.value 10 c.if-value-lt10.true)

pub returns : goal.returns
returns c = rw (le-ltb c.args.value 10 c.if-value-lt10.false) (omega arith)
