-- `place::place_of` meets its contract.
use Rattle.std.proofs.Common.{◌≡◌, sym, ap, ◌∙◌, Bool, cond, ℕ, ◌+◌, arith, length, get_or}
use Rattle.std.specs.Prelude.{Option, Some}
use borrow.Author.Tests.{eq-eqb, ne_eqb}
use Rattle.snapshot_layout.specs.Layout.{slots, contents_size, place_from, place_of}
use Rattle.snapshot_layout.specs.SlotLaws.{length_slots}
use Rattle.snapshot_layout.proofs.Walk.{slots_left, none_left, sizes_step, place_step}
use Rattle.snapshot_layout.proofs.place.place_of.Goals as goal

pub loop-i-init : goal.loop-i-init
unfolding place_of
loop-i-init c =
    let a = c.args in
    let e : length a.lengths.now ≡ length a.kinds.now = omega arith in
    let from : contents_size (length (slots a.kinds.now a.lengths.now)) ≡ c.contents_size-from.result =
    omega (arith, length_slots a.kinds.now a.lengths.now e) in
    (omega arith, (omega arith, ap (λ (n : ℕ). place_from a.kind n (slots a.kinds.now a.lengths.now)) from))

pub overflow_add-end : goal.overflow_add-end
overflow_add-end c =
    let a = c.args in
    let turn = c.loop-i in
    omega (arith, sizes_step a.kinds.now a.lengths.now turn.i (omega arith) (omega arith))

pub returns-then-kinds-i : goal.returns-then-kinds-i
returns-then-kinds-i c =
    let a = c.args in
    let turn = c.loop-i in
    let ks = a.kinds.now in
    let ns = a.lengths.now in
    let later : (Option (ℕ × ℕ)) = place_from a.kind (turn.from + get_or ns turn.i 0) (slots_left ks ns (turn.i + 1)) in
    sym
    (turn.invariant.1.1 ∙ place_step ks ns turn.i (omega arith) (omega arith) a.kind turn.from
    ∙ ap (λ (b : Bool). cond b (Some (turn.from, (turn.from + get_or ns turn.i 0))) later) (eq-eqb (get_or ks turn.i 0) a.kind (omega arith)))

pub loop-i-preserved : goal.loop-i-preserved
loop-i-preserved c =
    let a = c.args in
    let turn = c.loop-i in
    let ks = a.kinds.now in
    let ns = a.lengths.now in
    let later : (Option (ℕ × ℕ)) = place_from a.kind (turn.from + get_or ns turn.i 0) (slots_left ks ns (turn.i + 1)) in (
      omega arith,
      (
        omega (arith, sizes_step ks ns turn.i (omega arith) (omega arith)),
        turn.invariant.1.1 ∙ place_step ks ns turn.i (omega arith) (omega arith) a.kind turn.from
            ∙ ap (λ (b : Bool). cond b (Some (turn.from, (turn.from + get_or ns turn.i 0))) later) (ne_eqb (get_or ks turn.i 0) a.kind (λ e. omega arith)),
      ),
    )

pub returns : goal.returns
unfolding place_from
returns c =
    let a = c.args in
    let last = c.loop-i in
    sym
    (last.invariant.1.1
    ∙ ap (place_from a.kind last.from) (none_left a.kinds.now a.lengths.now last.i (omega arith)))
