-- `kind::store` meets its contract: a store among raw rows is one among the rows of the kind (`stored_under`). Assumes nothing.
use Rattle.std.proofs.Common.{◌+◌, ◌≤◌, ◌*◌, ◌∙◌, ap, arith, rules, length}
use Rattle.table.specs.Memory.{word_bytes}
use Rattle.table.specs.MemoryLaws.{length_word_bytes}
use Rattle.table_laws.specs.ChangeLaws.{stored_under}
use Rattle.keyed_rows.proofs.kind.store.Goals as goal

pub words-requires : goal.words-requires
words-requires g c = omega (arith, g.met.K.RowKind.words_bound)

pub shared_whole_as_slice-store : goal.shared_whole_as_slice-store
shared_whole_as_slice-store g c = omega (arith, g.met.K.RowKind.words_bound)

pub store-requires-clause-key_len_in_bounds : goal.store-requires-clause-key_len_in_bounds
store-requires-clause-key_len_in_bounds g c =
    let a = c.args in
    let k = g.met.K.RowKind in
    omega (
      arith,
      c.WIDTH.ensures,
      c.requires,
      k.key_bound,
      k.width_is,
      k.key_width_is,
      k.faithful.key_fits,
      k.faithful.length_encode a.entry,
      ap length c.words.ensures.encoded,
      length_word_bytes c.words.result,
    )

pub returns : goal.returns
returns g c =
    let a = c.args in
    let k = g.met.K.RowKind in
    let L = g.K.RowKind.layout in
    let room : L.width * (a.count + 1) ≤ length a.table.now = rw (← k.width_is) c.requires.count_in_bounds in
    stored_under k.faithful a.table.now _ a.count c.store.result a.key.now a.entry (word_bytes c.words.result)
    (λ i. search rules) (omega (arith, room, c.store.auto)) c.words.ensures.fits c.words.ensures.encoded (c.requires.key_len ∙ k.key_width_is)
    (rw (c.WIDTH.ensures ∙ k.width_is) at c.store.ensures)
