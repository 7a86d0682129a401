-- `keyed_rows::find::find` meets its contract.
use Rattle.std.proofs.Common.{refl, sym, ◌∙◌, arith, length}
use mathlib.Core.Logic.{inl, inr}
use Rattle.table_laws.specs.Raw.{raw_layout, any_row}
use Rattle.table_laws.specs.WalkLaws.{walk_breaks_order, walk_goes_on, walk_ends}
use Rattle.keyed_rows.proofs.Ground.{ground}
use Rattle.keyed_rows.proofs.find.find.Goals as goal
use Rattle.keyed_rows.proofs.find.find.Goals.{then-own-key_front, else-own-key_front}

pub returns-then-not-in_order : goal.returns-then-not-in_order
returns-then-not-in_order c =
    let a = c.args in
    let on = ground a.width a.count a.table.now a.key.now c.requires.key_len_in_bounds c.requires.count_in_bounds (λ k. (c.type_inv.table k).fits) (λ k. (c.type_inv.key k).fits) in
    walk_breaks_order (raw_layout (length a.key.now) a.width) any_row 8 a.table.now a.count a.key.now on c.loop-i.i c.loop-i.last c.loop-i.place c.loop-i.invariant (omega arith) (sym c.in_order.ensures ∙ c.if-not-in_order.true)

pub loop-i-preserved : goal.loop-i-preserved
loop-i-preserved c =
    let a = c.args in
    let on = ground a.width a.count a.table.now a.key.now c.requires.key_len_in_bounds c.requires.count_in_bounds (λ k. (c.type_inv.table k).fits) (λ k. (c.type_inv.key k).fits) in
    let own = c.front_at-own in
    walk_goes_on (raw_layout (length a.key.now) a.width) any_row 8 a.table.now a.count a.key.now on c.loop-i.i c.loop-i.last c.loop-i.place c.loop-i.invariant (omega arith) refl
    (sym c.in_order.ensures ∙ c.if-not-in_order.false)
    own.result c.if-own-key_front.place own.ensures
    (elim c.if-own-key_front.branch [
      | then-own-key_front w ↦ inl (omega (arith, c.front_at-key_front.ensures), w.place-is)
      | else-own-key_front w ↦ inr w.place-is
    ])

pub returns : goal.returns
returns c =
    let a = c.args in
    let on = ground a.width a.count a.table.now a.key.now c.requires.key_len_in_bounds c.requires.count_in_bounds (λ k. (c.type_inv.table k).fits) (λ k. (c.type_inv.key k).fits) in
    walk_ends (raw_layout (length a.key.now) a.width) any_row 8 a.table.now a.count a.key.now on c.loop-i.i c.loop-i.last c.loop-i.place c.loop-i.invariant (omega arith) c.place_from.ensures
