-- `gossip_outbound_state::charge::refunded` meets its contract: the buckets are sound, so they refuse nothing. Assumes nothing.
use Rattle.std.proofs.Common.{ap}
use Rattle.bucket_bytes.specs.Handed.{ByteRefilled}
use Rattle.bucket_bytes.specs.ByteBucketLaws.{byte_refund_sound}
use Rattle.gossip_outbound_state.proofs.charge.refunded.Goals as goal

pub returns : goal.returns
returns c = let a = c.args in
    ap (λ (r : ByteRefilled). r.state) (byte_refund_sound a.b a.bytes a.now_ms c.requires c.refund.ensures)
