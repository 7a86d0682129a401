-- `prune::prune_idle` meets its contract: the places freed become zeros (`kept_removed`). Assumes nothing.
use Rattle.std.proofs.Common.{arith}
use Rattle.table.specs.Memory.{rows}
use Rattle.table.specs.MemoryLaws.{length_rows}
use Rattle.table_laws.specs.Raw.{map_entries}
use Rattle.table_laws.specs.KeepLaws.{kept_removed}
use Rattle.gossip_limiter_rows.specs.Entry.{refilled}
use Rattle.gossip_limiter_rows.specs.Rows.{limiter_layout}
use Rattle.gossip_limiter_rows.specs.RowsLaws.{limiter_faithful}
use Rattle.gossip_limiter_rows.specs.Prune.{not_full}
use Rattle.gossip_limiter_rows.specs.PruneLaws.{length_prune, refilled_fit}
use Rattle.gossip_limiter_rows.proofs.prune.prune_idle.Goals as goal

pub overflow_sub-count : goal.overflow_sub-count
overflow_sub-count c = let a = c.args in
    omega (arith, c.gather_busy-kept.ensures.1, length_prune a.config a.now_ms (rows limiter_layout a.table.now a.count), length_rows limiter_layout a.table.now a.count)

pub zero_rows-requires : goal.zero_rows-requires
zero_rows-requires c = let a = c.args in
    omega (arith, c.requires.count_in_bounds, c.gather_busy-kept.ensures.1, length_prune a.config a.now_ms (rows limiter_layout a.table.now a.count), length_rows limiter_layout a.table.now a.count)

pub returns : goal.returns
returns c =
    let a = c.args in
    let gathered = c.gather_busy-kept in
    (kept_removed limiter_faithful (not_full a.config) a.table.now (map_entries (refilled a.config a.now_ms) (rows limiter_layout a.table.now a.count)) (refilled_fit a.config a.now_ms a.table.now a.count (omega (arith, c.well_formed)) (omega (arith, c.well_formed)) (λ i. (c.slice_known-1.given i).fits) (omega (arith, c.requires))) a.count _ _ gathered.result gathered.ensures.0 gathered.ensures.1 c.zero_rows.ensures, gathered.ensures.1)
