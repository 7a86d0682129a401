-- `keyed_rows::find::in_order` meets its contract: by the fronts, or else the first row is in order and another by the comparison of its
-- key. Assumes nothing.
use Rattle.std.proofs.Common.{◌≡◌, refl, true, false, sym, ap, ◌∙◌, arith, is_lt}
use mathlib.Core.Logic.{⊎_elim}
use Rattle.std.specs.declared.cmp.Ordering.{Ordering}
use Rattle.std.specs.declared.cmp.Ordering.TheVariants.{Less, Equal, Greater}
use Rattle.table.specs.Table.{by_order}
use Rattle.table_laws.specs.WalkLaws.{row_before, rises_later, rises_front}
use Rattle.keyed_rows.proofs.find.in_order.Goals as goal

less_by_order : (o : Ordering) → is_lt o ≡ by_order o true false false
less_by_order Less = refl
less_by_order Equal = refl
less_by_order Greater = refl

pub returns-then-last-own : goal.returns-then-last-own
returns-then-last-own c = let a = c.args in
    let pre = c.requires in
    sym (rises_front 8 a.width a.key_width a.table.now a.index pre.key_width_in_bounds.0 pre.key_width_in_bounds.1 (λ k. (c.type_inv.table k).fits) pre.width_in_bounds
    (λ h. ⊎_elim (λ w. omega (arith, pre.own_value, pre.last_value h)) (λ w. absurd (omega arith)) c.then-last-own.either))

pub overflow_mul-width : goal.overflow_mul-width
overflow_mul-width c = let a = c.args in
    omega (arith, row_before a.width a.index (omega arith))

pub compare_places-requires : goal.compare_places-requires
compare_places-requires c = let a = c.args in
    omega (arith, row_before a.width a.index (omega arith))

pub returns : goal.returns
returns c = let a = c.args in
    c.is_lt.ensures ∙ ap is_lt c.compare_places.ensures ∙ less_by_order _ ∙ sym (rises_later a.width a.key_width a.table.now a.index (omega arith))
