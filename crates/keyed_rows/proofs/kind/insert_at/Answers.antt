-- `kind::insert_at` meets its contract: the write leaves memory with the row (`inserted`). Assumes nothing.
use Rattle.std.proofs.Common.{◌+◌, ◌≤◌, ◌*◌, ◌∙◌, ap, arith, rules, length, mul-add}
use Rattle.table.specs.Memory.{word_bytes}
use Rattle.table.specs.MemoryLaws.{length_word_bytes}
use Rattle.table_laws.specs.ChangeLaws.{inserted}
use Rattle.keyed_rows.proofs.kind.insert_at.Goals as goal

pub words-requires : goal.words-requires
words-requires g c = omega (arith, g.met.K.RowKind.words_bound)

pub shared_whole_as_slice-insert_row : goal.shared_whole_as_slice-insert_row
shared_whole_as_slice-insert_row g c = omega (arith, g.met.K.RowKind.words_bound)

pub insert_row-requires-clause-words_len : goal.insert_row-requires-clause-words_len
insert_row-requires-clause-words_len g c =
    let a = c.args in
    let k = g.met.K.RowKind in
    omega (
      arith,
      c.WIDTH.ensures,
      c.requires,
      k.width_is,
      k.key_width_is,
      k.faithful.key_fits,
      k.faithful.length_encode a.entry,
      ap length c.words.ensures.encoded,
      length_word_bytes c.words.result,
    )

pub returns : goal.returns
returns g c =
    let a = c.args in
    let k = g.met.K.RowKind in
    let L = g.K.RowKind.layout in
    let room : L.width * (a.count + 1) ≤ length a.table.now = rw (← k.width_is) c.requires.count_in_bounds in
    inserted k.faithful a.table.now _ a.count (λ i. search rules) (omega (arith, mul-add L.width a.count 1, room)) a.index a.key.now a.entry
    (word_bytes c.words.result) (omega (arith, c.requires)) (c.requires.key_len ∙ k.key_width_is) (λ i. (c.type_inv.key i).fits) c.words.ensures.fits c.words.ensures.encoded
    (rw (c.WIDTH.ensures ∙ k.width_is) at c.insert_row.ensures)
