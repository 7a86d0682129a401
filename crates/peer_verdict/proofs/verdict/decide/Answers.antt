-- `verdict::decide` asks of its takes and of the ceiling what a sound entry gives. Assumes nothing.
use Rattle.std.proofs.Common.{arith}
use Rattle.peer_verdict.specs.TakeLaws.{bytes_level}
use Rattle.peer_state.specs.EntryLaws.{EntryHolds, sound_holds, used_holds}
use Rattle.peer_verdict.proofs.verdict.decide.Goals as goal

pub take_message-messages-requires : goal.take_message-messages-requires
take_message-messages-requires c =
    rw c.used-used.ensures (used_holds _ _ (sound_holds c.requires)).messages

pub take_bytes-bytes-requires : goal.take_bytes-bytes-requires
take_bytes-bytes-requires c =
    rw c.used-used.ensures (used_holds _ _ (sound_holds c.requires)).bytes

pub ceiling_decides-requires : goal.ceiling_decides-requires
ceiling_decides-requires c =
    let a = c.args in
    let holds : EntryHolds a.config c.used-used.result =
    rw c.used-used.ensures (used_holds _ _ (sound_holds c.requires))
    in
    rw c.take_bytes-bytes.ensures
    (omega (arith, c.well_formed, bytes_level a.config c.used-used.result.bytes a.size a.now_ms holds.bytes))
