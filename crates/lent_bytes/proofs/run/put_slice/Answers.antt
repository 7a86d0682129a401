-- `lent_bytes::run::put_slice` meets its contract.
use Rattle.std.proofs.Common.{refl, sym, ap, ◌∙◌, List, ℕ, ◌+◌, zero-add, arith, get_or, set, length-set}
use lib.Seq.{take_all}
use Rattle.lent_bytes.specs.LentBytes.{part, put}
use Rattle.lent_bytes.specs.LentBytesLaws.{put_nil, part_zero}
use Rattle.lent_bytes.proofs.Copies.{copied_next}
use Rattle.lent_bytes.proofs.run.put_slice.Goals as goal

pub loop-i-init : goal.loop-i-init
loop-i-init c = let a = c.args in
    (sym (ap (λ (l : List ℕ). put a.dst.now a.at l) (part_zero a.src.now 0) ∙ put_nil a.dst.now a.at), refl)

pub loop-i-preserved : goal.loop-i-preserved
loop-i-preserved c =
    let a = c.args in
    let turn = c.loop-i in
    let place : ℕ = a.at + turn.i in (
      ap (λ (l : List ℕ). set l place (get_or a.src.now turn.i 0)) turn.invariant.0
          ∙ ap (λ (n : ℕ). set (put a.dst.now a.at (part a.src.now 0 turn.i)) place (get_or a.src.now n 0)) (sym (zero-add turn.i))
          ∙ copied_next a.dst.now a.at a.src.now 0 turn.i (omega arith) (omega arith),
      length-set turn.dst place (get_or a.src.now turn.i 0) ∙ turn.invariant.1,
    )

pub shape_of-dst : goal.shape_of-dst
shape_of-dst c = c.loop-i.invariant.1

pub returns : goal.returns
unfolding part
returns c =
    let a = c.args in
    let last = c.loop-i in
    last.invariant.0 ∙ ap (λ (l : List ℕ). put a.dst.now a.at l) (take_all last.i a.src.now (omega arith))
