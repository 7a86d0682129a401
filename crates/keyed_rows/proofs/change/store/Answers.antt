-- `keyed_rows::change::store` meets its contract: by the key's place (`stored_over`, `stored_into`); a search never says unsound. Assumes
-- nothing.
use Rattle.std.proofs.Common.{sym, ◌∙◌, ◌+◌, ◌*◌, arith, rules, length}
use Rattle.table.specs.Memory.{word_bytes, rows}
use Rattle.table.specs.MemoryLaws.{length_word_bytes, Bytes_word_bytes}
use Rattle.table.specs.PlaceLaws.{place_is_sound}
use Rattle.table_laws.specs.Raw.{raw_layout}
use Rattle.table_laws.specs.ChangeLaws.{place_inside, gap_within}
use Rattle.table_laws.specs.WalkLaws.{row_in}
use Rattle.keyed_rows.proofs.Stores.{rows_below, next_row, stored_over, stored_into}
use Rattle.keyed_rows.proofs.change.store.Goals as goal

pub place_of-requires : goal.place_of-requires
place_of-requires c = let a = c.args in
    omega (arith, next_row a.width a.count)

pub overflow_mul-width : goal.overflow_mul-width
overflow_mul-width c =
    let a = c.args in
    let inside = place_inside (raw_layout (length a.key.now) a.width) a.table.now a.count a.key.now c.in-At.index (sym c.place_of.ensures ∙ c.in-At.is) in
    omega (arith, next_row a.width a.count, row_in a.width c.in-At.index a.count (a.width * a.count) inside (omega arith), c.requires)

pub overflow_add-width : goal.overflow_add-width
overflow_add-width c =
    let a = c.args in
    let inside = place_inside (raw_layout (length a.key.now) a.width) a.table.now a.count a.key.now c.in-At.index (sym c.place_of.ensures ∙ c.in-At.is) in
    omega (arith, next_row a.width a.count, row_in a.width c.in-At.index a.count (a.width * a.count) inside (omega arith), c.requires)

pub put_words-requires : goal.put_words-requires
put_words-requires c =
    let a = c.args in
    let inside = place_inside (raw_layout (length a.key.now) a.width) a.table.now a.count a.key.now c.in-At.index (sym c.place_of.ensures ∙ c.in-At.is) in
    omega (arith, next_row a.width a.count, row_in a.width c.in-At.index a.count (a.width * a.count) inside (omega arith), c.requires)

pub insert_row-requires : goal.insert_row-requires
insert_row-requires c =
    let a = c.args in
    omega (arith, c.requires, gap_within (raw_layout (length a.key.now) a.width) a.table.now a.count a.key.now c.in-Gap.index (sym c.place_of.ensures ∙ c.in-Gap.is))

pub overflow_add-result : goal.overflow_add-result
overflow_add-result c =
    let a = c.args in
    omega (arith, rows_below a.width (a.count + 1) (length a.table.now) (omega (arith, c.requires)) (omega (arith, c.requires)))

pub returns-in-At : goal.returns-in-At
returns-in-At c =
    let a = c.args in
    stored_over a.table.now _ a.width a.count a.key.now (word_bytes a.words.now) c.in-At.index
    (omega (arith, c.requires)) (omega (arith, c.requires, length_word_bytes a.words.now)) (λ k. search rules) (Bytes_word_bytes a.words.now)
    (omega (arith, c.requires, next_row a.width a.count))
    (sym c.place_of.ensures ∙ c.in-At.is) c.put_words.ensures

pub returns-in-Gap : goal.returns-in-Gap
returns-in-Gap c =
    let a = c.args in
    stored_into a.table.now _ a.width a.count a.key.now (word_bytes a.words.now) c.in-Gap.index
    (omega (arith, c.requires)) (omega (arith, c.requires, length_word_bytes a.words.now)) (λ k. search rules) (Bytes_word_bytes a.words.now)
    (omega (arith, c.requires, next_row a.width a.count)) (λ k. (c.type_inv.key k).fits)
    (sym c.place_of.ensures ∙ c.in-Gap.is) c.insert_row.ensures

pub returns-in-Unsound : goal.returns-in-Unsound
returns-in-Unsound c = let a = c.args in
    absurd (place_is_sound 0 a.key.now (rows (raw_layout (length a.key.now) a.width) a.table.now a.count) (sym c.place_of.ensures ∙ c.in-Unsound.is))
