-- `gossip_outbound_state::charge::delay_of` meets its contract: the buckets are sound, so they refuse nothing. Assumes nothing.
use Rattle.bucket_bytes.specs.ByteBucketLaws.{byte_peek_delay_sound}
use Rattle.gossip_outbound_state.proofs.charge.delay_of.Goals as goal

pub returns : goal.returns
returns c = let a = c.args in
    rw (c.unwrap_or.ensures, byte_peek_delay_sound a.b a.bytes a.now_ms c.requires c.peek_delay_after_refill.ensures)
