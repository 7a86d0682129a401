-- `PeerMessagePolicy::store_new` meets its contract: where the table is not full the entry is put in at the gap (`left_gap`); else room is made and the
-- entry stored, and two calls are one (`left_new`). Assumes nothing.
use Rattle.std.proofs.Common.{arith, ◌<◌}
use Rattle.peer_settings.specs.Config.{limit}
use Rattle.peer_message_policy.proofs.Judged.{rows_fit}
use Rattle.peer_message_policy.proofs.Changes.{gap_fits, row_fits, left_gap, one_more_fits, left_new}
use Rattle.peer_message_policy.proofs.policy.PeerMessagePolicy.store_new.Goals as goal

pub insert_at-requires : goal.insert_at-requires
insert_at-requires c = let a = c.args in
    record { index_le_count = gap_fits a.self a.table.now a.peer.bytes a.gap c.requires a.now_ms; count_in_bounds = row_fits a.self a.table.now a.peer.bytes a.gap c.requires a.now_ms (omega (arith, c.if-self-limit.true, c.limit.ensures)) }

pub returns-then-self-limit : goal.returns-then-self-limit
returns-then-self-limit c =
    let a = c.args in
    let free : a.self.rows < limit a.self.config = omega (arith, c.if-self-limit.true, c.limit.ensures) in
    rw c.after.ensures (left_gap a.self a.table.now a.peer.bytes a.gap c.requires a.now_ms a.ingress _ a.entry free c.insert_at.ensures)

pub make_room-count-requires : goal.make_room-count-requires
make_room-count-requires c = let a = c.args in
    rows_fit a.self a.table.now c.requires.is_sound

pub store-rows-requires : goal.store-rows-requires
store-rows-requires c =
    let a = c.args in
    omega (arith, one_more_fits a.self a.table.now a.peer.bytes a.gap c.requires a.now_ms c.make_room-count.result c.make_room-count.ensures.1)

pub returns : goal.returns
returns c =
    let a = c.args in
    rw c.after-2.ensures (left_new a.self a.table.now a.peer.bytes a.gap c.requires a.now_ms a.ingress (λ i. (c.slice_known-1.given i).fits) _ c.make_room-count.result c.make_room-count.ensures _ c.store-rows.result a.entry c.store-rows.ensures)
