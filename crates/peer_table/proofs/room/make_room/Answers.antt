-- `peer_table::room::make_room` meets its contract: by the two tests, and two calls are one. Assumes nothing.
use Rattle.std.proofs.Common.{arith, rules}
use Rattle.table.specs.Memory.{rows}
use Rattle.table.specs.MemoryLaws.{length_rows}
use Rattle.peer_rows.specs.Rows.{peer_layout}
use Rattle.peer_table.specs.RoomLaws.{length_prune}
use Rattle.table_laws.specs.RoomLaws.{made_free, made_pruned, made_evicted}
use Rattle.peer_settings.specs.Config.{limit}
use Rattle.peer_rows.specs.RowsLaws.{peer_faithful}
use Rattle.peer_table.specs.Room.{unspent, evict, make_room}
use Rattle.peer_table.proofs.room.make_room.Goals as goal

pub returns-then-count-limit : goal.returns-then-count-limit
unfolding make_room
returns-then-count-limit c = let a = c.args in
    made_free peer_faithful a.table.now a.count (λ k. search rules) (omega (arith, c.requires)) (limit a.config) (unspent a.now_ms) evict (omega arith)

pub returns-then-left-limit : goal.returns-then-left-limit
unfolding make_room
returns-then-left-limit c =
    let a = c.args in
    made_pruned peer_faithful a.table.now a.count (λ k. search rules) (omega (arith, c.requires))
    (limit a.config) (unspent a.now_ms) evict (omega arith) _ c.remove_spent-left.result c.remove_spent-left.ensures (omega arith)

pub evict-requires : goal.evict-requires
evict-requires c =
    let a = c.args in
    omega (arith, c.requires, c.remove_spent-left.ensures.1, length_prune a.now_ms (rows peer_layout a.table.now a.count), length_rows peer_layout a.table.now a.count)

pub returns : goal.returns
unfolding make_room
returns c =
    let a = c.args in
    made_evicted peer_faithful a.table.now a.count (λ k. search rules) (omega (arith, c.requires))
    (limit a.config) (unspent a.now_ms) evict (omega arith) _ c.remove_spent-left.result c.remove_spent-left.ensures (omega arith) _ c.evict.result c.evict.ensures
