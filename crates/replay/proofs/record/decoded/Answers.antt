-- `decoded` gives the words one by one. Assumes nothing.
use Rattle.replay.specs.Record.{record_of}
use Rattle.replay.proofs.record.decoded.Goals as goal

pub returns : goal.returns
unfolding record_of
returns c =
    λ i. record { operation = c.get_u64.ensures i; first = c.get_u64-2.ensures i; second = c.get_u64-3.ensures i; third = c.get_u64-4.ensures i; fourth = c.get_u64-5.ensures i; fifth = c.get_u64-6.ensures i; sixth = c.get_u64-7.ensures i; seventh = c.get_u64-8.ensures i }
