-- `keyed_rows::find::place_of` meets its contract.
use Rattle.std.proofs.Common.{sym, ◌∙◌, arith, length}
use Rattle.table_laws.specs.Raw.{raw_layout}
use Rattle.table_laws.specs.WalkLaws.{row_in, find_passes}
use Rattle.keyed_rows.proofs.Ground.{ground}
use Rattle.keyed_rows.proofs.find.place_of.Goals as goal

pub overflow_mul-width : goal.overflow_mul-width
overflow_mul-width c =
    let a = c.args in
    omega (arith, row_in a.width c.loop-passed.passed a.count (length a.table.now) (omega arith) c.requires.count_in_bounds)

pub front_at-requires : goal.front_at-requires
front_at-requires c =
    let a = c.args in
    omega (arith, row_in a.width c.loop-passed.passed a.count (length a.table.now) (omega arith) c.requires.count_in_bounds)

pub loop-passed-preserved : goal.loop-passed-preserved
loop-passed-preserved c =
    let a = c.args in
    let on = ground a.width a.count a.table.now a.key.now c.requires.key_len_in_bounds c.requires.count_in_bounds (λ k. (c.type_inv.table k).fits) (λ k. (c.type_inv.key k).fits) in
    find_passes (raw_layout (length a.key.now) a.width) 8 a.table.now a.count a.key.now on c.loop-passed.passed (omega arith)
    (omega (arith, c.front_at.ensures, c.front_at-key_front.ensures)) _ c.loop-passed.invariant

pub returns : goal.returns
returns c = c.place_from.ensures ∙ sym c.loop-passed.invariant
