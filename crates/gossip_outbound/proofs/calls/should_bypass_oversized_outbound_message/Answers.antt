-- `gossip_outbound::calls::should_bypass_oversized_outbound_message` meets its contract: a law of `CallLaws` for each answer. Assumes nothing.
use Rattle.std.proofs.Common.{sym, ◌∙◌}
use borrow.Author.Tests.{not-true, not-false}
use Rattle.gossip_outbound_state.specs.CarryLaws.{found_unsound, found_placed, placed_global}
use Rattle.gossip_outbound.specs.CallLaws.{bypass_unsound, bypass_fits, bypass_global_debt, bypass_peer}
use Rattle.gossip_outbound.proofs.calls.should_bypass_oversized_outbound_message.Goals as goal

pub returns-then-is_unsound : goal.returns-then-is_unsound
returns-then-is_unsound c = let a = c.args in
    bypass_unsound a.o a.table.now a.peer a.bytes a.now_ms (found_unsound a.o a.table.now a.peer.bytes c.sought-found.result c.sought-found.ensures (sym c.is_unsound.ensures ∙ c.if-is_unsound.true))

pub returns-then-not-outbound_message_exceeds_single_message_capacity : goal.returns-then-not-outbound_message_exceeds_single_message_capacity
returns-then-not-outbound_message_exceeds_single_message_capacity c = let a = c.args in
    let p = found_placed a.o a.table.now a.peer.bytes c.sought-found.result c.sought-found.ensures (sym c.is_unsound.ensures ∙ c.if-is_unsound.false) in
    bypass_fits a.o a.table.now a.peer a.bytes a.now_ms p.is_sound (sym c.outbound_message_exceeds_single_message_capacity.ensures ∙ not-true c.outbound_message_exceeds_single_message_capacity.result c.if-not-outbound_message_exceeds_single_message_capacity.true-raw)

pub in_debt-requires : goal.in_debt-requires
in_debt-requires c = let a = c.args in
    let p = found_placed a.o a.table.now a.peer.bytes c.sought-found.result c.sought-found.ensures (sym c.is_unsound.ensures ∙ c.if-is_unsound.false) in
    placed_global a.o a.table.now a.peer.bytes p

pub peer_debt-requires : goal.peer_debt-requires
peer_debt-requires c =
    let a = c.args in
    found_placed a.o a.table.now a.peer.bytes c.sought-found.result c.sought-found.ensures (sym c.is_unsound.ensures ∙ c.if-is_unsound.false)

pub returns-then-not-in_debt : goal.returns-then-not-in_debt
returns-then-not-in_debt c =
    let a = c.args in
    let p = found_placed a.o a.table.now a.peer.bytes c.sought-found.result c.sought-found.ensures (sym c.is_unsound.ensures ∙ c.if-is_unsound.false) in
    bypass_peer a.o a.table.now a.peer a.bytes a.now_ms p.is_sound (sym c.outbound_message_exceeds_single_message_capacity.ensures ∙ not-false c.outbound_message_exceeds_single_message_capacity.result c.if-not-outbound_message_exceeds_single_message_capacity.false-raw) (sym c.in_debt.ensures ∙ not-true c.in_debt.result c.if-not-in_debt.true-raw) c.peer_debt.result c.peer_debt.ensures

pub returns-else-not-in_debt : goal.returns-else-not-in_debt
returns-else-not-in_debt c =
    let a = c.args in
    let p = found_placed a.o a.table.now a.peer.bytes c.sought-found.result c.sought-found.ensures (sym c.is_unsound.ensures ∙ c.if-is_unsound.false) in
    rw c.if-not-in_debt.false-raw
    (bypass_global_debt a.o a.table.now a.peer a.bytes a.now_ms p.is_sound (sym c.outbound_message_exceeds_single_message_capacity.ensures ∙ not-false c.outbound_message_exceeds_single_message_capacity.result c.if-not-outbound_message_exceeds_single_message_capacity.false-raw) (sym c.in_debt.ensures ∙ not-false c.in_debt.result c.if-not-in_debt.false-raw))
