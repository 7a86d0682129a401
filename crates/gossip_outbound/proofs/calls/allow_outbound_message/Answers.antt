-- `gossip_outbound::calls::allow_outbound_message` meets its contract: a law of `CallLaws` for each answer. Assumes nothing.
use Rattle.std.proofs.Common.{sym, ◌∙◌}
use Rattle.gossip_outbound_state.specs.CarryLaws.{found_unsound, found_placed, placed_global}
use Rattle.gossip_outbound.specs.CallLaws.{allow_unsound, allow_no, allow_full, allow_yes}
use Rattle.gossip_outbound.proofs.calls.allow_outbound_message.Goals as goal

pub returns-then-is_unsound : goal.returns-then-is_unsound
returns-then-is_unsound c = let a = c.args in
    allow_unsound a.o a.table.now a.peer a.bytes a.now_ms (found_unsound a.o a.table.now a.peer.bytes c.sought-found.result c.sought-found.ensures (sym c.is_unsound.ensures ∙ c.if-is_unsound.true))

pub peer_bucket-bucket-requires : goal.peer_bucket-bucket-requires
peer_bucket-bucket-requires c = let a = c.args in
    found_placed a.o a.table.now a.peer.bytes c.sought-found.result c.sought-found.ensures (sym c.is_unsound.ensures ∙ c.if-is_unsound.false)

pub charge_both-requires-clause-global_sound : goal.charge_both-requires-clause-global_sound
charge_both-requires-clause-global_sound c = let a = c.args in
    placed_global a.o a.table.now a.peer.bytes (found_placed a.o a.table.now a.peer.bytes c.sought-found.result c.sought-found.ensures (sym c.is_unsound.ensures ∙ c.if-is_unsound.false))

pub returns-in_default : goal.returns-in_default
returns-in_default c =
    let a = c.args in
    let p = found_placed a.o a.table.now a.peer.bytes c.sought-found.result c.sought-found.ensures (sym c.is_unsound.ensures ∙ c.if-is_unsound.false) in
    allow_no a.o a.table.now a.peer a.bytes a.now_ms c.sought-found.result p c.peer_bucket-bucket.result c.peer_bucket-bucket.ensures c.charge_both.result c.charge_both.ensures c.in_default.is

pub returns-then-is_full : goal.returns-then-is_full
returns-then-is_full c =
    let a = c.args in
    let p = found_placed a.o a.table.now a.peer.bytes c.sought-found.result c.sought-found.ensures (sym c.is_unsound.ensures ∙ c.if-is_unsound.false) in
    allow_full a.o a.table.now a.peer a.bytes a.now_ms c.sought-found.result p c.peer_bucket-bucket.result c.peer_bucket-bucket.ensures c.charge_both.result c.charge_both.ensures c.in-Some.both c.in-Some.is (sym c.is_full.ensures ∙ c.if-is_full.true)

pub write_row-rows-requires-clause-placed : goal.write_row-rows-requires-clause-placed
write_row-rows-requires-clause-placed c = let a = c.args in
    found_placed a.o a.table.now a.peer.bytes c.sought-found.result c.sought-found.ensures (sym c.is_unsound.ensures ∙ c.if-is_unsound.false)

pub returns : goal.returns
returns c =
    let a = c.args in
    let p = found_placed a.o a.table.now a.peer.bytes c.sought-found.result c.sought-found.ensures (sym c.is_unsound.ensures ∙ c.if-is_unsound.false) in
    rw c.with.ensures
    (allow_yes a.o a.table.now a.peer a.bytes a.now_ms c.sought-found.result p c.peer_bucket-bucket.result c.peer_bucket-bucket.ensures c.charge_both.result c.charge_both.ensures c.in-Some.both c.in-Some.is (sym c.is_full.ensures ∙ c.if-is_full.false) _ c.write_row-rows.result c.write_row-rows.ensures)
