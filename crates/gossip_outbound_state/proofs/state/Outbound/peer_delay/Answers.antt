-- `gossip_outbound_state::state::Outbound::peer_delay` meets its contract: by what was found, a law of `CarryLaws`. Assumes nothing.
use Rattle.std.proofs.Common.{ap, ◌∙◌, arith}
use Rattle.bucket_bytes.specs.declared.bytes.ByteTokenBucket.{ByteTokenBucket}
use Rattle.bucket_bytes.specs.ByteBucket.{byte_peek_delay_after_refill}
use Rattle.gossip_outbound_state.specs.CarryLaws.{placed_as, placed_few, placed_room, placed_inside, not_unsound, known_sound, known_delay, new_delay}
use Rattle.gossip_outbound_state.proofs.state.Outbound.peer_delay.Goals as goal

pub overflow_mul-index : goal.overflow_mul-index
overflow_mul-index c = let a = c.args in
    let i = c.in-At.index in
    let p = placed_as a.self a.table.now a.peer.bytes c.in-At.is c.requires in
    omega (arith, placed_inside a.self a.table.now a.peer.bytes i p, placed_few a.self a.table.now a.peer.bytes p)

pub entry_at-e-requires : goal.entry_at-e-requires
entry_at-e-requires c = let a = c.args in
    let i = c.in-At.index in
    let p = placed_as a.self a.table.now a.peer.bytes c.in-At.is c.requires in
    omega (arith, placed_inside a.self a.table.now a.peer.bytes i p, placed_few a.self a.table.now a.peer.bytes p, placed_room a.self a.table.now a.peer.bytes p)

pub delay_of-requires : goal.delay_of-requires
delay_of-requires c = let a = c.args in
    let i = c.in-At.index in
    let p = placed_as a.self a.table.now a.peer.bytes c.in-At.is c.requires in
    rw c.bucket_of.ensures (known_sound a.self a.table.now a.peer.bytes i p c.entry_at-e.result c.entry_at-e.ensures)

pub returns-in-At : goal.returns-in-At
returns-in-At c =
    let a = c.args in
    let i = c.in-At.index in
    let p = placed_as a.self a.table.now a.peer.bytes c.in-At.is c.requires in
    c.delay_of.ensures ∙ ap (λ (b : ByteTokenBucket). byte_peek_delay_after_refill b a.bytes a.now_ms) c.bucket_of.ensures ∙ known_delay a.self a.table.now a.peer.bytes i p c.entry_at-e.result c.entry_at-e.ensures a.bytes a.now_ms

pub returns-in-Gap : goal.returns-in-Gap
returns-in-Gap c = let a = c.args in
    let i = c.in-Gap.field-0 in
    let p = placed_as a.self a.table.now a.peer.bytes c.in-Gap.is c.requires in
    new_delay a.self a.table.now a.peer.bytes i p a.bytes a.now_ms

pub returns-in-Unsound : goal.returns-in-Unsound
returns-in-Unsound c = let a = c.args in
    absurd (not_unsound a.self a.table.now a.peer.bytes (placed_as a.self a.table.now a.peer.bytes c.in-Unsound.is c.requires))
