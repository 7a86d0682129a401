use Rattle.std.proofs.Common.{rules, arith}
use Rattle.amount.specs.AmountLaws.{Whole}
use Rattle.bucket_bytes.proofs.Levels.{topped}
use Rattle.bucket_bytes.proofs.bytes.ByteTokenBucket.given_back.Goals as goal

pub returns : goal.returns
returns c =
    let w : Whole c.lesser.result = record { four = search rules; fit = λ i. search rules } in
    let a = c.args in
    rw (topped a.self.available_bytes a.bytes a.self.config.burst_bytes (omega arith) w c.from_u64.ensures c.saturating_add.ensures c.lesser.ensures)
