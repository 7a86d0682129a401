-- `prune::gather_busy` meets its contract.
use Rattle.std.proofs.Common.{refl, ◌∙◌, arith}
use Rattle.table.specs.Memory.{rows}
use Rattle.table_laws.specs.Raw.{map_entries}
use Rattle.table_laws.specs.KeepLaws.{kept_begins, kept_most, keep_step, kept_rule, kept_ends, length_rewritten}
use Rattle.gossip_limiter_rows.specs.Entry.{refilled}
use Rattle.gossip_limiter_rows.specs.Rows.{limiter_layout, limiter_sound}
use Rattle.gossip_limiter_rows.specs.RowsLaws.{limiter_faithful}
use Rattle.gossip_limiter_rows.specs.Prune.{not_full}
use Rattle.gossip_limiter_rows.specs.PruneLaws.{refilled_fit}
use Rattle.gossip_limiter_rows.proofs.prune.gather_busy.Goals as goal

pub loop-i-init : goal.loop-i-init
loop-i-init c = let a = c.args in
    (kept_begins limiter_layout (not_full a.config) a.table.now (map_entries (refilled a.config a.now_ms) (rows limiter_layout a.table.now a.count)), refl)

pub keep_busy-kept-requires : goal.keep_busy-kept-requires
keep_busy-kept-requires c = let a = c.args in
    let so = c.loop-i.invariant.0 in
    record {
      to_le_from = kept_most so;
      from_in_bounds = omega (arith, c.loop-i.invariant.1, c.requires.count_in_bounds);
      from_value = kept_rule limiter_faithful (not_full a.config) (refilled a.config a.now_ms) a.table.now a.count (refilled_fit a.config a.now_ms a.table.now a.count (omega (arith, c.well_formed)) (omega (arith, c.well_formed)) (λ i. (c.slice_known-1.given i).fits) (omega (arith, c.requires))) (omega arith) so (limiter_sound a.config) c.requires.count_value;
    }

pub loop-i-preserved : goal.loop-i-preserved
loop-i-preserved c = let a = c.args in
    let turn = c.loop-i in
    let step = c.keep_busy-kept in
    (keep_step limiter_faithful (not_full a.config) (refilled a.config a.now_ms) a.table.now a.count (refilled_fit a.config a.now_ms a.table.now a.count (omega (arith, c.well_formed)) (omega (arith, c.well_formed)) (λ i. (c.slice_known-1.given i).fits) (omega (arith, c.requires))) (omega arith) turn.invariant.0 _ step.result step.ensures.0 step.ensures.1, step.auto.table ∙ turn.invariant.1)

pub shape_of-table : goal.shape_of-table
shape_of-table c = c.loop-i.invariant.1

pub returns : goal.returns
returns c = let a = c.args in
    let fit = (refilled_fit a.config a.now_ms a.table.now a.count (omega (arith, c.well_formed)) (omega (arith, c.well_formed)) (λ i. (c.slice_known-1.given i).fits) (omega (arith, c.requires))) in
    kept_ends limiter_faithful (not_full a.config) a.table.now (map_entries (refilled a.config a.now_ms) (rows limiter_layout a.table.now a.count)) fit (omega (arith, length_rewritten limiter_faithful (not_full a.config) (refilled a.config a.now_ms) a.table.now a.count fit)) c.loop-i.invariant.0
