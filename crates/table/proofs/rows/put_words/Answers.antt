-- `table::rows::put_words` meets its contract.
use Rattle.std.proofs.Common.{refl, sym, ap, ◌∙◌, List, ℕ, ◌+◌, ◌*◌, arith, get_or}
use lib.Seq.{take_all}
use Rattle.lent_bytes.specs.LentBytes.{bytes, put}
use Rattle.lent_bytes.specs.LentBytesLaws.{put_nil}
use Rattle.table.specs.Memory.{word_bytes}
use Rattle.table.proofs.Moves.{words_more}
use Rattle.table.proofs.rows.put_words.Goals as goal

pub loop-i-init : goal.loop-i-init
unfolding word_bytes
loop-i-init c = let a = c.args in
    (sym (put_nil a.table.now a.at), refl)

pub loop-i-preserved : goal.loop-i-preserved
loop-i-preserved c =
    let a = c.args in
    let turn = c.loop-i in
    let s = a.table.now in
    let vs = a.words.now in (
      c.put_u64.ensures ∙ ap (λ (l : List ℕ). put l (a.at + 8 * turn.i) (bytes 8 (get_or vs turn.i 0))) turn.invariant.0
          ∙ words_more s a.at vs turn.i (omega arith) (omega arith),
      c.put_u64.auto.s ∙ turn.invariant.1,
    )

pub shape_of-table : goal.shape_of-table
shape_of-table c = c.loop-i.invariant.1

pub returns : goal.returns
returns c = let a = c.args in
    let last = c.loop-i in
    last.invariant.0 ∙ ap (λ (l : List ℕ). put a.table.now a.at (word_bytes l)) (take_all last.i a.words.now (omega arith))
