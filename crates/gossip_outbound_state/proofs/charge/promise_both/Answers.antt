-- `gossip_outbound_state::charge::promise_both` meets its contract: the buckets are sound, so they refuse nothing. Assumes nothing.
use Rattle.std.proofs.Common.{◌≡◌}
use Rattle.bucket_bytes.specs.ByteBucketLaws.{byte_reserve_sound}
use Rattle.bucket_bytes.specs.ByteBucket.{byte_reserve}
use Rattle.gossip_outbound_state.specs.State.{promise_both}
use Rattle.gossip_outbound_state.proofs.charge.promise_both.Goals as goal

pub returns : goal.returns
unfolding promise_both
returns c = let a = c.args in
    let first : c.reserve-first.result ≡ byte_reserve a.global a.bytes a.now_ms = byte_reserve_sound a.global a.bytes a.now_ms c.requires.global_sound c.reserve-first.ensures in
    let second : c.reserve-second.result ≡ byte_reserve a.peer a.bytes a.now_ms = byte_reserve_sound a.peer a.bytes a.now_ms c.requires.peer_sound c.reserve-second.ensures in
    rw (c.max.ensures, c.unwrap_or.ensures, c.unwrap_or-2.ensures, first, second)
