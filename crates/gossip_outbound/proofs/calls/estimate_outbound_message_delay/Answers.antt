-- `gossip_outbound::calls::estimate_outbound_message_delay` meets its contract: a law of `CallLaws` for each answer. Assumes nothing.
use Rattle.std.proofs.Common.{sym, ◌∙◌}
use Rattle.gossip_outbound_state.specs.CarryLaws.{found_unsound, found_placed, placed_global}
use Rattle.gossip_outbound.specs.CallLaws.{estimate_unsound, estimate_wait}
use Rattle.gossip_outbound.proofs.calls.estimate_outbound_message_delay.Goals as goal

pub returns-then-is_unsound : goal.returns-then-is_unsound
returns-then-is_unsound c = let a = c.args in
    estimate_unsound a.o a.table.now a.peer a.bytes a.now_ms (found_unsound a.o a.table.now a.peer.bytes c.sought-found.result c.sought-found.ensures (sym c.is_unsound.ensures ∙ c.if-is_unsound.true))

pub delay_of-global_ms-requires : goal.delay_of-global_ms-requires
delay_of-global_ms-requires c = let a = c.args in
    let p = found_placed a.o a.table.now a.peer.bytes c.sought-found.result c.sought-found.ensures (sym c.is_unsound.ensures ∙ c.if-is_unsound.false) in
    placed_global a.o a.table.now a.peer.bytes p

pub peer_delay-peer_ms-requires : goal.peer_delay-peer_ms-requires
peer_delay-peer_ms-requires c = let a = c.args in
    found_placed a.o a.table.now a.peer.bytes c.sought-found.result c.sought-found.ensures (sym c.is_unsound.ensures ∙ c.if-is_unsound.false)

pub returns : goal.returns
returns c =
    let a = c.args in
    let p = found_placed a.o a.table.now a.peer.bytes c.sought-found.result c.sought-found.ensures (sym c.is_unsound.ensures ∙ c.if-is_unsound.false) in
    estimate_wait a.o a.table.now a.peer a.bytes a.now_ms p.is_sound c.delay_of-global_ms.result c.peer_delay-peer_ms.result c.max.result c.delay_of-global_ms.ensures c.peer_delay-peer_ms.ensures c.max.ensures
