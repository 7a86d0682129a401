-- `contents::slots_say` meets its contract.
use Rattle.std.proofs.Common.{sym, ap, ◌∙◌, ℕ, arith}
use Rattle.snapshot_layout.specs.Layout.{count_size, slots, says_from}
use Rattle.snapshot_layout.proofs.Walk.{slot_place, none_left, says_not, says_past, says_goes_on}
use Rattle.snapshot_layout.proofs.contents.slots_say.Goals as goal

pub loop-i-init : goal.loop-i-init
loop-i-init c =
    let a = c.args in
    (omega arith, (omega arith, ap (λ (n : ℕ). says_from a.snapshot.now count_size n (slots a.kinds.now a.lengths.now)) (sym c.contents_size-from.ensures)))

pub returns-then-not-slot_says : goal.returns-then-not-slot_says
returns-then-not-slot_says c =
    let a = c.args in
    let turn = c.loop-i in
    let told = c.slot_says in
    sym
    (says_not a.kinds.now a.lengths.now turn.i (omega arith) (omega arith) a.snapshot.now turn.from _ turn.invariant.1.1
    told.result told.ensures c.if-not-slot_says.true)

pub returns-then-snapshot-from : goal.returns-then-snapshot-from
returns-then-snapshot-from c =
    let a = c.args in
    let turn = c.loop-i in
    sym
    (says_past a.kinds.now a.lengths.now turn.i (omega arith) (omega arith) a.snapshot.now turn.from _ turn.invariant.1.1
    (omega arith))

pub loop-i-preserved : goal.loop-i-preserved
loop-i-preserved c =
    let a = c.args in
    let turn = c.loop-i in
    let told = c.slot_says in (
      omega arith,
      (
        omega arith,
        says_goes_on a.kinds.now a.lengths.now turn.i (omega arith) (omega arith) a.snapshot.now turn.from _ turn.invariant.1.1
            told.result told.ensures c.if-not-slot_says.false,
      ),
    )

pub returns : goal.returns
unfolding says_from
returns c =
    let a = c.args in
    let last = c.loop-i in
    sym
    (last.invariant.1.1
    ∙ ap (says_from a.snapshot.now (slot_place last.i) last.from) (none_left a.kinds.now a.lengths.now last.i (omega arith)))
