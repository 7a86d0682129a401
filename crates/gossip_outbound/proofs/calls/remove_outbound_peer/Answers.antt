-- `gossip_outbound::calls::remove_outbound_peer` meets its contract: a law of `CallLaws` for each answer. Assumes nothing.
use Rattle.std.proofs.Common.{sym, ◌∙◌}
use Rattle.gossip_outbound_state.specs.CarryLaws.{found_unsound, found_placed}
use Rattle.gossip_outbound.specs.CallLaws.{remove_unsound, remove_done}
use Rattle.gossip_outbound.proofs.calls.remove_outbound_peer.Goals as goal

pub returns-then-is_unsound : goal.returns-then-is_unsound
returns-then-is_unsound c = let a = c.args in
    remove_unsound a.o a.table.now a.peer (found_unsound a.o a.table.now a.peer.bytes c.sought-found.result c.sought-found.ensures (sym c.is_unsound.ensures ∙ c.if-is_unsound.true))

pub drop_row-rows-requires : goal.drop_row-rows-requires
drop_row-rows-requires c = let a = c.args in
    found_placed a.o a.table.now a.peer.bytes c.sought-found.result c.sought-found.ensures (sym c.is_unsound.ensures ∙ c.if-is_unsound.false)

pub returns : goal.returns
returns c =
    let a = c.args in
    let p = found_placed a.o a.table.now a.peer.bytes c.sought-found.result c.sought-found.ensures (sym c.is_unsound.ensures ∙ c.if-is_unsound.false) in
    rw c.with.ensures (remove_done a.o a.table.now a.peer p.is_sound _ c.drop_row-rows.result c.drop_row-rows.ensures)
