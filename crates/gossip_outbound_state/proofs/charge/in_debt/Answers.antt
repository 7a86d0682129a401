-- `gossip_outbound_state::charge::in_debt` meets its contract: the buckets are sound, so they refuse nothing. Assumes nothing.
use Rattle.bucket_bytes.specs.ByteBucketLaws.{byte_has_debt_sound}
use Rattle.gossip_outbound_state.proofs.charge.in_debt.Goals as goal

pub returns : goal.returns
returns c = let a = c.args in
    rw (c.unwrap_or.ensures, byte_has_debt_sound a.b a.now_ms c.requires c.has_debt.ensures)
