-- `gossip_ban_rows::room::make_room` meets its contract: by the two tests, and two changes are one. Assumes nothing.
use Rattle.std.proofs.Common.{arith}
use Rattle.table.specs.Memory.{rows}
use Rattle.table.specs.MemoryLaws.{length_rows}
use Rattle.table.specs.RetainLaws.{length_retain}
use Rattle.gossip_ban_rows.specs.Rows.{ban_layout}
use Rattle.gossip_ban_rows.specs.Room.{unexpired}
use Rattle.gossip_ban_rows.proofs.Making.{made_free, made_pruned, made_evicted}
use Rattle.gossip_ban_rows.proofs.room.make_room.Goals as goal

pub returns-then-count-limit : goal.returns-then-count-limit
returns-then-count-limit c = let a = c.args in
    made_free a.limit a.duration_ms a.now_ms a.table.now a.count (λ i. (c.slice_known-1.given i).fits) (omega (arith, c.requires)) c.if-count-limit.true

pub returns-then-left-limit : goal.returns-then-left-limit
returns-then-left-limit c = let a = c.args in
    made_pruned a.limit a.duration_ms a.now_ms a.table.now a.count (λ i. (c.slice_known-1.given i).fits) (omega (arith, c.requires)) c.if-count-limit.false _ c.prune_expired-left.result c.if-left-limit.true c.prune_expired-left.ensures

pub evict-requires : goal.evict-requires
evict-requires c =
    let a = c.args in
    omega (arith, c.requires, c.if-left-limit.false, c.prune_expired-left.ensures.1, length_retain (unexpired a.duration_ms a.now_ms) (rows ban_layout a.table.now a.count), length_rows ban_layout a.table.now a.count)

pub returns : goal.returns
returns c =
    let a = c.args in
    made_evicted a.limit a.duration_ms a.now_ms a.table.now a.count (λ i. (c.slice_known-1.given i).fits) (omega (arith, c.requires)) c.if-count-limit.false _ c.prune_expired-left.result c.if-left-limit.false c.prune_expired-left.ensures _ c.evict.result c.evict.ensures
