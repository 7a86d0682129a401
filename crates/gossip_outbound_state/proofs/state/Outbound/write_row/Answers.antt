-- `gossip_outbound_state::state::Outbound::write_row` meets its contract: by what was found, a law of `CarryLaws`. Assumes nothing.
use Rattle.std.proofs.Common.{arith}
use Rattle.gossip_outbound_state.specs.CarryLaws.{placed_as, placed_few, placed_room, placed_inside, placed_within, room_left, not_unsound, written_known, written_new}
use Rattle.gossip_outbound_state.proofs.state.Outbound.write_row.Goals as goal

pub overwrite_at-requires : goal.overwrite_at-requires
overwrite_at-requires c = let a = c.args in
    let i = c.in-At.index in
    let p = placed_as a.self a.table.now a.peer.bytes c.in-At.is c.requires.placed in
    omega (arith, placed_inside a.self a.table.now a.peer.bytes i p, placed_few a.self a.table.now a.peer.bytes p, placed_room a.self a.table.now a.peer.bytes p)

pub insert_at-requires : goal.insert_at-requires
insert_at-requires c = let a = c.args in
    let i = c.in-Gap.index in
    let p = placed_as a.self a.table.now a.peer.bytes c.in-Gap.is c.requires.placed in
    omega (arith, placed_within a.self a.table.now a.peer.bytes i p, room_left a.self a.table.now a.peer.bytes i p (rw c.in-Gap.is at c.requires.has_room), placed_room a.self a.table.now a.peer.bytes p)

pub overflow_add-result : goal.overflow_add-result
overflow_add-result c =
    let a = c.args in
    omega (arith, placed_few a.self a.table.now a.peer.bytes c.requires.placed)

pub returns-in-At : goal.returns-in-At
returns-in-At c =
    let a = c.args in
    let i = c.in-At.index in
    let p = placed_as a.self a.table.now a.peer.bytes c.in-At.is c.requires.placed in
    rw (← c.entry_of-e.ensures) (written_known a.self a.table.now a.peer.bytes _ i c.entry_of-e.result p c.overwrite_at.ensures)

pub returns-in-Gap : goal.returns-in-Gap
returns-in-Gap c =
    let a = c.args in
    let i = c.in-Gap.index in
    let p = placed_as a.self a.table.now a.peer.bytes c.in-Gap.is c.requires.placed in
    rw (← c.entry_of-e.ensures) (written_new a.self a.table.now a.peer.bytes _ i c.entry_of-e.result p c.insert_at.ensures)

pub returns-in-Unsound : goal.returns-in-Unsound
returns-in-Unsound c = let a = c.args in
    absurd (not_unsound a.self a.table.now a.peer.bytes (placed_as a.self a.table.now a.peer.bytes c.in-Unsound.is c.requires.placed))
