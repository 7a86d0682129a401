-- `gossip_outbound_state::state::Outbound::drop_row` meets its contract: by what was found, a law of `CarryLaws`. Assumes nothing.
use Rattle.std.proofs.Common.{arith, refl}
use Rattle.gossip_outbound_state.specs.CarryLaws.{placed_as, placed_few, placed_room, placed_inside, not_unsound, dropped_known, dropped_none}
use Rattle.gossip_outbound_state.proofs.state.Outbound.drop_row.Goals as goal

pub remove_at-requires : goal.remove_at-requires
remove_at-requires c = let a = c.args in
    let i = c.in-At.index in
    let p = placed_as a.self a.table.now a.peer.bytes c.in-At.is c.requires in
    omega (arith, placed_inside a.self a.table.now a.peer.bytes i p, placed_few a.self a.table.now a.peer.bytes p, placed_room a.self a.table.now a.peer.bytes p)

pub overflow_sub-result : goal.overflow_sub-result
overflow_sub-result c =
    let a = c.args in
    let i = c.in-At.index in
    let p = placed_as a.self a.table.now a.peer.bytes c.in-At.is c.requires in
    omega (arith, placed_inside a.self a.table.now a.peer.bytes i p)

pub returns-in-At : goal.returns-in-At
returns-in-At c =
    let a = c.args in
    let i = c.in-At.index in
    let p = placed_as a.self a.table.now a.peer.bytes c.in-At.is c.requires in
    dropped_known a.self a.table.now a.peer.bytes _ i p c.remove_at.ensures

pub returns-in-Gap : goal.returns-in-Gap
returns-in-Gap c = let a = c.args in
    let i = c.in-Gap.field-0 in
    let p = placed_as a.self a.table.now a.peer.bytes c.in-Gap.is c.requires in
    dropped_none a.self a.table.now a.peer.bytes _ i p (λ j. (c.slice_known-1.given j).fits) refl

pub returns-in-Unsound : goal.returns-in-Unsound
returns-in-Unsound c = let a = c.args in
    absurd (not_unsound a.self a.table.now a.peer.bytes (placed_as a.self a.table.now a.peer.bytes c.in-Unsound.is c.requires))
