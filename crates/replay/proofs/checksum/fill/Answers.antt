-- `checksum::fill` fills the memory with made-up bytes. The invariant: the first `i` are filled, and the sum is the seed after them. The
use Rattle.std.proofs.Common.{◌≡◌, refl, sym, ◌∙◌, ap, ◌+◌, arith, length, length-set}
use lib.Seq.{take_all}
use Rattle.replay.specs.Checksum.{seed_after, made_up}
use Rattle.replay.specs.ChecksumLaws.{seed_next, made_up_next}
use Rattle.replay.proofs.checksum.fill.Goals as goal

pub loop-i-init : goal.loop-i-init
unfolding seed_after made_up
loop-i-init c = ((refl, omega arith), (refl, refl))

pub loop-i-preserved : goal.loop-i-preserved
loop-i-preserved c =
    let turn = c.loop-i in
    let seed = c.args.seed in
    let after : c.add-sum.result ≡ seed_after seed (turn.i + 1) = c.add-sum.ensures ∙ seed_next seed turn.i turn.sum turn.invariant.1.0 in (
      (simp length-set (omega arith), omega arith),
      (after, made_up_next seed turn.i c.add-sum.result turn.memory (omega arith) after turn.invariant.1.1),
    )

pub shape_of-memory : goal.shape_of-memory
shape_of-memory c = c.loop-i.invariant.0.0

pub returns : goal.returns
returns c =
    let last = c.loop-i in
    let args = c.args in
    let all : last.i ≡ length args.memory.now = omega arith in (
      last.invariant.1.0 ∙ ap (seed_after args.seed) all,
      sym (take_all last.i last.memory (omega arith)) ∙ last.invariant.1.1 ∙ ap (made_up args.seed) all,
    )
