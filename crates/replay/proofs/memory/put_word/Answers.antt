-- `memory::put_word` writes where there is room. Assumes nothing.
use Rattle.std.proofs.Common.{refl, ◌+◌, arith, length}
use borrow.Author.Tests.{le-leb, lt-leb}
use Rattle.replay.proofs.memory.put_word.Goals as goal

pub returns-then-memory-lt8 : goal.returns-then-memory-lt8
returns-then-memory-lt8 c =
    let args = c.args in
    rw (lt-leb (args.at + 8) (length args.memory.now) (omega arith)) (refl, refl)

pub returns-then-at-memory : goal.returns-then-at-memory
returns-then-at-memory c =
    let args = c.args in
    rw (lt-leb (args.at + 8) (length args.memory.now) (omega arith)) (refl, refl)

pub returns : goal.returns
returns c =
    let args = c.args in
    rw (le-leb (args.at + 8) (length args.memory.now) (omega arith)) (refl, c.put_u64.ensures)
