-- `table::rows::insert_row` meets its contract: the three writes are one (`inserted`). Assumes nothing.
use Rattle.std.proofs.Common.{ap, ◌∙◌, List, ℕ, ◌+◌, ◌*◌, arith, length}
use Rattle.lent_bytes.specs.LentBytes.{put}
use Rattle.table.specs.Memory.{word_bytes}
use Rattle.table.specs.MemoryLaws.{length_word_bytes}
use Rattle.table.proofs.Moves.{places_gap, inserted}
use Rattle.table.proofs.rows.insert_row.Goals as goal

pub overflow_mul-at : goal.overflow_mul-at
overflow_mul-at c = let a = c.args in
    omega (arith, places_gap a.width a.count a.index (omega arith))

pub overflow_mul-behind : goal.overflow_mul-behind
overflow_mul-behind c = let a = c.args in
    omega (arith, places_gap a.width a.count a.index (omega arith))

pub move_up-requires : goal.move_up-requires
move_up-requires c = let a = c.args in
    omega (arith, places_gap a.width a.count a.index (omega arith))

pub put_slice-requires : goal.put_slice-requires
put_slice-requires c = let a = c.args in
    omega (arith, places_gap a.width a.count a.index (omega arith))

pub overflow_add-at : goal.overflow_add-at
overflow_add-at c = let a = c.args in
    omega (arith, places_gap a.width a.count a.index (omega arith))

pub put_words-requires : goal.put_words-requires
put_words-requires c = let a = c.args in
    omega (arith, places_gap a.width a.count a.index (omega arith))

pub returns : goal.returns
returns c =
    let a = c.args in
    let at : ℕ = a.width * a.index in
    let key = a.key.now in
    let numbers : List ℕ = word_bytes a.words.now in
    c.put_words.ensures ∙ ap (λ (l : List ℕ). put l (at + length key) numbers) c.put_slice.ensures
    ∙ ap (λ (l : List ℕ). put (put l at key) (at + length key) numbers) c.move_up.ensures
    ∙ inserted a.table.now a.width a.count a.index key numbers (omega arith) (omega arith) (omega (arith, length_word_bytes a.words.now))
