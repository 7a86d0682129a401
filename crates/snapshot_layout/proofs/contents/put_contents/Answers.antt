-- `contents::put_contents` meets its contract.
use Rattle.std.proofs.Common.{◌≡◌, refl, sym, ap, ◌∙◌, List, ℕ, arith, length}
use Rattle.lent_bytes.specs.LentBytes.{put}
use Rattle.lent_bytes.specs.LentBytesLaws.{put_nil}
use Rattle.snapshot_layout.specs.Layout.{count_size, Slot, slots, contents_size, contents_from}
use Rattle.snapshot_layout.specs.SlotLaws.{length_slots}
use Rattle.snapshot_layout.proofs.Walk.{slot_place, none_left, sizes_step, put_goes_on, put_whole}
use Rattle.snapshot_layout.proofs.contents.put_contents.Goals as goal

pub loop-i-init : goal.loop-i-init
loop-i-init c =
    let a = c.args in
    let e : length a.lengths.now ≡ length a.kinds.now = omega arith in
    (omega arith, (omega (arith, length_slots a.kinds.now a.lengths.now e), (refl, refl)))

pub overflow_cast-size : goal.overflow_cast-size
overflow_cast-size c =
    let a = c.args in
    let turn = c.loop-i in
    omega (arith, sizes_step a.kinds.now a.lengths.now turn.i (omega arith) (omega arith))

pub overflow_add-from : goal.overflow_add-from
overflow_add-from c =
    let a = c.args in
    let turn = c.loop-i in
    omega (arith, sizes_step a.kinds.now a.lengths.now turn.i (omega arith) (omega arith))

pub loop-i-preserved : goal.loop-i-preserved
loop-i-preserved c =
    let a = c.args in
    let turn = c.loop-i in
    let ks = a.kinds.now in
    let ns = a.lengths.now in
    let written = c.put_slot in (
      omega arith,
      (
        omega (arith, sizes_step ks ns turn.i (omega arith) (omega arith)),
        (
          written.auto.output ∙ turn.invariant.1.1.0,
          put_goes_on ks ns turn.i (omega arith) (omega arith) turn.output written.new.output _ turn.from (omega arith)
              written.ensures turn.invariant.1.1.1,
        ),
      ),
    )

pub returns : goal.returns
unfolding contents_from
returns c =
    let a = c.args in
    let last = c.loop-i in
    let ks = a.kinds.now in
    let ns = a.lengths.now in
    let counted = c.put_u16 in
    let from = c.contents_size-from in
    sym (put_nil last.output (slot_place last.i))
    ∙ ap (λ (l : List Slot). put last.output (slot_place last.i) (contents_from last.from l)) (sym (none_left ks ns last.i (omega arith)))
    ∙ last.invariant.1.1.1
    ∙ ap (λ (n : ℕ). put counted.new.s count_size (contents_from n (slots ks ns))) from.ensures
    ∙ ap (λ (l : List ℕ). put l count_size (contents_from (contents_size (length ks)) (slots ks ns))) counted.ensures
    ∙ put_whole a.output.now ks ns (omega arith)
