-- `keyed_rows::find::place_from` meets its contract.
use Rattle.std.proofs.Common.{◌≡◌, sym, ◌∙◌, arith, length}
use Rattle.table_laws.specs.Raw.{raw_layout}
use Rattle.table_laws.specs.WalkLaws.{row_in, find_ends, find_before, find_finds, find_goes_on}
use Rattle.keyed_rows.proofs.find.place_from.Goals as goal

pub overflow_mul-width : goal.overflow_mul-width
overflow_mul-width c =
    let a = c.args in
    omega (arith, row_in a.width c.loop-i.i a.count (length a.table.now) (omega arith) c.requires.count_in_bounds)

pub compare_key-requires : goal.compare_key-requires
compare_key-requires c =
    let a = c.args in
    omega (arith, row_in a.width c.loop-i.i a.count (length a.table.now) (omega arith) c.requires.count_in_bounds)

pub returns-in-Less : goal.returns-in-Less
returns-in-Less c =
    let a = c.args in
    sym (find_before (raw_layout (length a.key.now) a.width) c.requires.key_len_bound a.key.now a.table.now a.count _ c.loop-i.i c.loop-i.invariant.0 (omega arith) (sym c.compare_key.ensures ∙ c.in-Less.is))

pub returns-in-Equal : goal.returns-in-Equal
returns-in-Equal c =
    let a = c.args in
    sym (find_finds (raw_layout (length a.key.now) a.width) c.requires.key_len_bound a.key.now a.table.now a.count _ c.loop-i.i c.loop-i.invariant.0 (omega arith) (sym c.compare_key.ensures ∙ c.in-Equal.is))

pub loop-i-preserved : goal.loop-i-preserved
loop-i-preserved c =
    let a = c.args in
    (find_goes_on (raw_layout (length a.key.now) a.width) c.requires.key_len_bound a.key.now a.table.now a.count _ c.loop-i.i c.loop-i.invariant.0 (omega arith) (sym c.compare_key.ensures ∙ c.in-Greater.is), omega arith)

pub returns : goal.returns
returns c =
    let a = c.args in
    let e : c.max.result ≡ c.loop-i.i = omega arith in
    rw e (sym (find_ends (raw_layout (length a.key.now) a.width) c.requires.key_len_bound a.key.now a.table.now a.count _ c.loop-i.i c.loop-i.invariant.0 (omega arith)))
