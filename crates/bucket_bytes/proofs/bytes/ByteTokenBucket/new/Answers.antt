use Rattle.std.proofs.Common.{rules}
use Rattle.amount.specs.AmountLaws.{Whole}
use Rattle.amount.specs.AmountOfLaws.{is_amount_of}
use Rattle.bucket_bytes.proofs.bytes.ByteTokenBucket.new.Goals as goal

pub returns : goal.returns
returns c = let w : Whole c.from_u64.result = record { four = search rules; fit = λ i. search rules } in
    rw (is_amount_of w c.from_u64.ensures)
