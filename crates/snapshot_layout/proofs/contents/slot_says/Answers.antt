-- `contents::slot_says` meets its contract. Assumes nothing.
use Rattle.std.proofs.Common.{arith}
use borrow.Author.Tests.{eq-eqb, ne_eqb}
use Rattle.snapshot_layout.specs.Layout.{slot_says}
use Rattle.snapshot_layout.proofs.contents.slot_says.Goals as goal

pub returns-then-get_u16-kind : goal.returns-then-get_u16-kind
unfolding slot_says
returns-then-get_u16-kind c =
    let a = c.args in
    let kind = c.get_u16 in
    rw (← kind.ensures, ne_eqb kind.result a.kind (λ e. omega arith))

pub returns-then-get_u32-from : goal.returns-then-get_u32-from
unfolding slot_says
returns-then-get_u32-from c =
    let a = c.args in
    let kind = c.get_u16 in
    let place = c.get_u32 in
    rw (
      ← kind.ensures,
      eq-eqb kind.result a.kind (omega arith),
      ← place.ensures,
      ne_eqb place.result a.from (λ e. omega arith),
    )

pub returns : goal.returns
unfolding slot_says
returns c =
    let a = c.args in
    let kind = c.get_u16 in
    let place = c.get_u32 in
    rw (
      ← kind.ensures,
      eq-eqb kind.result a.kind (omega arith),
      ← place.ensures,
      eq-eqb place.result a.from (omega arith),
      ← c.get_u32-2.ensures,
    )
