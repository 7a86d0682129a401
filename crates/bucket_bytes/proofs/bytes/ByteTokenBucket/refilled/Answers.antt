use Rattle.std.proofs.Common.{◌-◌, ◌*◌, ◌/◌, sym, arith, rules}
use borrow.Author.Tests.{lt-leb}
use Rattle.amount.specs.AmountLaws.{Whole}
use Rattle.bucket_bytes.specs.ByteBucket.{ms_per_sec, byte_refill}
use Rattle.bucket_bytes.proofs.Levels.{topped}
use Rattle.bucket_bytes.proofs.bytes.ByteTokenBucket.refilled.Goals as goal

pub returns : goal.returns
unfolding byte_refill
returns c =
    let w : Whole c.lesser.result = record { four = search rules; fit = λ i. search rules } in
    let a = c.args in
    rw (topped a.self.available_bytes ((a.now_ms - a.self.last_refill_ms) * a.self.config.rate_bytes_per_sec / ms_per_sec) a.self.config.burst_bytes (omega arith) w c.product_over-gain.ensures c.saturating_add-sum.ensures c.lesser.ensures, sym c.is_disabled.ensures, c.if-is_disabled.false, lt-leb _ _ c.if-now_ms-self.false)
