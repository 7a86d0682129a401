-- `checksum::add_bytes` adds every byte. The invariant: the first `i` are added. Assumes nothing.
use Rattle.std.proofs.Common.{refl, ◌∙◌, ap, arith}
use lib.Seq.{take_all}
use Rattle.replay.specs.Checksum.{added, all_added}
use Rattle.replay.specs.ChecksumLaws.{added_next}
use Rattle.replay.proofs.checksum.add_bytes.Goals as goal

pub loop-b-init : goal.loop-b-init
unfolding all_added
loop-b-init c = (omega arith, refl)

pub loop-b-preserved : goal.loop-b-preserved
loop-b-preserved c =
    let turn = c.loop-b in
    let args = c.args in (
      omega arith,
      c.add-all.ensures
          ∙ ap (added turn.all) c.from.ensures
          ∙ added_next args.sum turn.all turn.b-index args.bytes.now (omega arith) turn.invariant.1,
    )

pub returns : goal.returns
returns c =
    let last = c.loop-b in
    let args = c.args in
    last.invariant.1 ∙ ap (all_added args.sum) (take_all last.b-index args.bytes.now (omega arith))
