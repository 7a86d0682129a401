-- `gossip_outbound::calls::reserve_outbound_message` meets its contract: a law of `CallLaws` for each answer. Assumes nothing.
use Rattle.std.proofs.Common.{sym, ◌∙◌}
use Rattle.gossip_outbound_state.specs.CarryLaws.{found_unsound, found_placed, placed_global}
use Rattle.gossip_outbound.specs.CallLaws.{reserve_unsound, reserve_full, reserve_yes}
use Rattle.gossip_outbound.proofs.calls.reserve_outbound_message.Goals as goal

pub returns-then-is_unsound : goal.returns-then-is_unsound
returns-then-is_unsound c = let a = c.args in
    reserve_unsound a.o a.table.now a.peer a.bytes a.now_ms (found_unsound a.o a.table.now a.peer.bytes c.sought-found.result c.sought-found.ensures (sym c.is_unsound.ensures ∙ c.if-is_unsound.true))

pub returns-then-is_full : goal.returns-then-is_full
returns-then-is_full c = let a = c.args in
    let p = found_placed a.o a.table.now a.peer.bytes c.sought-found.result c.sought-found.ensures (sym c.is_unsound.ensures ∙ c.if-is_unsound.false) in
    reserve_full a.o a.table.now a.peer a.bytes a.now_ms c.sought-found.result p (sym c.is_full.ensures ∙ c.if-is_full.true)

pub peer_bucket-bucket-requires : goal.peer_bucket-bucket-requires
peer_bucket-bucket-requires c =
    let a = c.args in
    found_placed a.o a.table.now a.peer.bytes c.sought-found.result c.sought-found.ensures (sym c.is_unsound.ensures ∙ c.if-is_unsound.false)

pub promise_both-promised-requires-clause-global_sound : goal.promise_both-promised-requires-clause-global_sound
promise_both-promised-requires-clause-global_sound c = let a = c.args in
    placed_global a.o a.table.now a.peer.bytes (found_placed a.o a.table.now a.peer.bytes c.sought-found.result c.sought-found.ensures (sym c.is_unsound.ensures ∙ c.if-is_unsound.false))

pub write_row-rows-requires-clause-placed : goal.write_row-rows-requires-clause-placed
write_row-rows-requires-clause-placed c = let a = c.args in
    found_placed a.o a.table.now a.peer.bytes c.sought-found.result c.sought-found.ensures (sym c.is_unsound.ensures ∙ c.if-is_unsound.false)

pub returns : goal.returns
returns c =
    let a = c.args in
    let p = found_placed a.o a.table.now a.peer.bytes c.sought-found.result c.sought-found.ensures (sym c.is_unsound.ensures ∙ c.if-is_unsound.false) in
    rw c.with.ensures
    (reserve_yes a.o a.table.now a.peer a.bytes a.now_ms c.sought-found.result p (sym c.is_full.ensures ∙ c.if-is_full.false) c.peer_bucket-bucket.result c.peer_bucket-bucket.ensures c.promise_both-promised.result c.promise_both-promised.ensures _ c.write_row-rows.result c.write_row-rows.ensures)
