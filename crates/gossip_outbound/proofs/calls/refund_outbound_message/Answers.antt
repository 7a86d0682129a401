-- `gossip_outbound::calls::refund_outbound_message` meets its contract: a law of `CallLaws` for each answer. Assumes nothing.
use Rattle.std.proofs.Common.{sym, ◌∙◌}
use Rattle.gossip_outbound_state.specs.CarryLaws.{found_unsound, found_placed, placed_global}
use Rattle.gossip_outbound.specs.CallLaws.{refund_unsound, refund_off, refund_full, refund_yes}
use Rattle.gossip_outbound.proofs.calls.refund_outbound_message.Goals as goal

pub returns-then-is_unsound : goal.returns-then-is_unsound
returns-then-is_unsound c = let a = c.args in
    refund_unsound a.o a.table.now a.peer a.bytes a.now_ms (found_unsound a.o a.table.now a.peer.bytes c.sought-found.result c.sought-found.ensures (sym c.is_unsound.ensures ∙ c.if-is_unsound.true))

pub refunded-global-requires : goal.refunded-global-requires
refunded-global-requires c = let a = c.args in
    let p = found_placed a.o a.table.now a.peer.bytes c.sought-found.result c.sought-found.ensures (sym c.is_unsound.ensures ∙ c.if-is_unsound.false) in
    placed_global a.o a.table.now a.peer.bytes p

pub returns-then-is_disabled : goal.returns-then-is_disabled
returns-then-is_disabled c =
    let a = c.args in
    let p = found_placed a.o a.table.now a.peer.bytes c.sought-found.result c.sought-found.ensures (sym c.is_unsound.ensures ∙ c.if-is_unsound.false) in
    rw c.with.ensures (refund_off a.o a.table.now a.peer a.bytes a.now_ms c.sought-found.result p c.refunded-global.result c.refunded-global.ensures (sym c.is_disabled.ensures ∙ c.if-is_disabled.true))

pub returns-then-is_full : goal.returns-then-is_full
returns-then-is_full c =
    let a = c.args in
    let p = found_placed a.o a.table.now a.peer.bytes c.sought-found.result c.sought-found.ensures (sym c.is_unsound.ensures ∙ c.if-is_unsound.false) in
    refund_full a.o a.table.now a.peer a.bytes a.now_ms c.sought-found.result p c.refunded-global.result c.refunded-global.ensures (sym c.is_disabled.ensures ∙ c.if-is_disabled.false) (sym c.is_full.ensures ∙ c.if-is_full.true)

pub peer_bucket-bucket-requires : goal.peer_bucket-bucket-requires
peer_bucket-bucket-requires c =
    let a = c.args in
    found_placed a.o a.table.now a.peer.bytes c.sought-found.result c.sought-found.ensures (sym c.is_unsound.ensures ∙ c.if-is_unsound.false)

pub write_row-rows-requires-clause-placed : goal.write_row-rows-requires-clause-placed
write_row-rows-requires-clause-placed c = let a = c.args in
    found_placed a.o a.table.now a.peer.bytes c.sought-found.result c.sought-found.ensures (sym c.is_unsound.ensures ∙ c.if-is_unsound.false)

pub returns : goal.returns
returns c =
    let a = c.args in
    let p = found_placed a.o a.table.now a.peer.bytes c.sought-found.result c.sought-found.ensures (sym c.is_unsound.ensures ∙ c.if-is_unsound.false) in
    rw c.with-2.ensures
    (refund_yes a.o a.table.now a.peer a.bytes a.now_ms c.sought-found.result p c.refunded-global.result c.refunded-global.ensures (sym c.is_disabled.ensures ∙ c.if-is_disabled.false) (sym c.is_full.ensures ∙ c.if-is_full.false) c.peer_bucket-bucket.result c.peer_bucket-bucket.ensures c.refunded-refunded.result c.refunded-refunded.ensures _ c.write_row-rows.result c.write_row-rows.ensures)
