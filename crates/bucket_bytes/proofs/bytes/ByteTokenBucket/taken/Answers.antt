use Rattle.std.proofs.Common.{rules}
use Rattle.amount.specs.AmountLaws.{Whole}
use Rattle.amount.specs.AmountOfLaws.{is_amount_of}
use Rattle.bucket_bytes.proofs.bytes.ByteTokenBucket.taken.Goals as goal

pub returns : goal.returns
returns c =
    let w : Whole c.saturating_sub.result = record { four = search rules; fit = λ i. search rules } in
    rw (is_amount_of w c.saturating_sub.ensures)
