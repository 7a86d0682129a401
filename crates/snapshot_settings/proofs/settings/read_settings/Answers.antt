-- `settings::read_settings` meets its contract: the tests of the three numbers decide (`settings_places`). Assumes nothing.
use Rattle.std.proofs.Common.{sym, ◌∙◌, arith}
use borrow.Author.Tests.{lt-leb, le-leb}
use Rattle.snapshot_settings.specs.SettingsLaws.{settings_places}
use Rattle.snapshot_settings.proofs.settings.read_settings.Goals as goal

pub returns-then-burst-gt4294967295 : goal.returns-then-burst-gt4294967295
returns-then-burst-gt4294967295 c =
    let a = c.args in
    let burst = c.get_u64-burst in
    sym (settings_places a.bytes.now a.at ∙ rw (← burst.ensures, lt-leb burst.result 4294967295 (omega arith)))

pub returns-then-threshold-gt4294967295 : goal.returns-then-threshold-gt4294967295
returns-then-threshold-gt4294967295 c =
    let a = c.args in
    let burst = c.get_u64-burst in
    let threshold = c.get_u64-threshold in
    sym
    (settings_places a.bytes.now a.at
    ∙ rw (
      ← burst.ensures,
      le-leb burst.result 4294967295 (omega arith),
      ← threshold.ensures,
      lt-leb threshold.result 4294967295 (omega arith),
    ))

pub returns-then-messages-gt4294967295 : goal.returns-then-messages-gt4294967295
returns-then-messages-gt4294967295 c =
    let a = c.args in
    let burst = c.get_u64-burst in
    let threshold = c.get_u64-threshold in
    let messages = c.get_u64-messages in
    sym
    (settings_places a.bytes.now a.at
    ∙ rw (
      ← burst.ensures,
      le-leb burst.result 4294967295 (omega arith),
      ← threshold.ensures,
      le-leb threshold.result 4294967295 (omega arith),
      ← messages.ensures,
      lt-leb messages.result 4294967295 (omega arith),
    ))

pub returns : goal.returns
returns c =
    let a = c.args in
    let burst = c.get_u64-burst in
    let threshold = c.get_u64-threshold in
    let messages = c.get_u64-messages in
    sym
    (settings_places a.bytes.now a.at
    ∙ rw (
      ← c.get_u64.ensures,
      ← burst.ensures,
      ← c.get_u64-2.ensures,
      ← c.get_u64-3.ensures,
      ← threshold.ensures,
      ← c.get_u64-4.ensures,
      ← c.get_u64-5.ensures,
      ← messages.ensures,
      ← c.get_u64-6.ensures,
      le-leb burst.result 4294967295 (omega arith),
      le-leb threshold.result 4294967295 (omega arith),
      le-leb messages.result 4294967295 (omega arith),
    ))
