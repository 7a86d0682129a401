-- `prune::make_room` meets its contract: as it is, or pruned (`made_free`, `made_pruned`). Assumes nothing.
use Rattle.std.proofs.Common.{arith}
use Rattle.gossip_limiter_rows.proofs.Pruning.{made_free, made_pruned}
use Rattle.gossip_limiter_rows.proofs.prune.make_room.Goals as goal

pub returns-then-count-limit : goal.returns-then-count-limit
returns-then-count-limit c = let a = c.args in
    made_free a.limit a.config a.now_ms a.table.now a.count (λ i. (c.slice_known-1.given i).fits) (omega (arith, c.requires.count_in_bounds)) c.if-count-limit.true

pub returns : goal.returns
returns c = let a = c.args in
    made_pruned a.limit a.config a.now_ms a.table.now a.count c.if-count-limit.false _ c.prune_idle.result c.prune_idle.ensures
