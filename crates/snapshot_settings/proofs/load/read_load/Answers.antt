-- `load::read_load` meets its contract: the test of the messages decides (`load_places`). Assumes nothing.
use Rattle.std.proofs.Common.{sym, ◌∙◌, arith}
use borrow.Author.Tests.{lt-leb, le-leb}
use Rattle.snapshot_settings.specs.LoadLaws.{load_places}
use Rattle.snapshot_settings.proofs.load.read_load.Goals as goal

pub returns-then-messages-gt4294967295 : goal.returns-then-messages-gt4294967295
returns-then-messages-gt4294967295 c =
    let a = c.args in
    let messages = c.get_u64-messages in
    sym (load_places a.bytes.now a.at ∙ rw (← messages.ensures, lt-leb messages.result 4294967295 (omega arith)))

pub returns : goal.returns
returns c =
    let a = c.args in
    let messages = c.get_u64-messages in
    sym
    (load_places a.bytes.now a.at
    ∙ rw (← messages.ensures, ← c.get_u64.ensures, le-leb messages.result 4294967295 (omega arith)))
