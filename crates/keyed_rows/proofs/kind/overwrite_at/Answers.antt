-- `kind::overwrite_at` meets its contract: the write leaves memory with the entry (`overwritten`). Assumes nothing.
use Rattle.std.proofs.Common.{◌≤◌, ◌*◌, ◌∙◌, ap, arith, rules, length}
use Rattle.table.specs.Memory.{word_bytes}
use Rattle.table.specs.MemoryLaws.{length_word_bytes}
use Rattle.table_laws.specs.ChangeLaws.{overwritten}
use Rattle.table_laws.specs.WalkLaws.{row_in}
use Rattle.keyed_rows.proofs.kind.overwrite_at.Goals as goal

pub words-requires : goal.words-requires
words-requires g c = omega (arith, g.met.K.RowKind.words_bound)

pub shared_whole_as_slice-put_words : goal.shared_whole_as_slice-put_words
shared_whole_as_slice-put_words g c = omega (arith, g.met.K.RowKind.words_bound)

pub put_words-requires : goal.put_words-requires
put_words-requires g c =
    let a = c.args in
    let k = g.met.K.RowKind in
    omega (
      arith,
      c.WIDTH.ensures,
      c.KEY_WIDTH.ensures,
      k.width_is,
      k.key_width_is,
      k.faithful.key_fits,
      k.faithful.length_encode a.entry,
      ap length c.words.ensures.encoded,
      length_word_bytes c.words.result,
      row_in c.WIDTH.result a.index a.count (length a.table.now) (omega (arith, c.requires)) (rw c.WIDTH.ensures c.requires.count_in_bounds),
    )

pub returns : goal.returns
returns g c =
    let a = c.args in
    let k = g.met.K.RowKind in
    let L = g.K.RowKind.layout in
    let fits : L.width * a.count ≤ length a.table.now = rw (← k.width_is) c.requires.count_in_bounds in
    overwritten k.faithful a.table.now _ a.count (λ i. search rules) fits a.index a.entry (word_bytes c.words.result)
    (omega (arith, c.requires)) c.words.ensures.fits c.words.ensures.encoded
    (rw (c.WIDTH.ensures ∙ k.width_is, c.KEY_WIDTH.ensures ∙ k.key_width_is) at c.put_words.ensures)
