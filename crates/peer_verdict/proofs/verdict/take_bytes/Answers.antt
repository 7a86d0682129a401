-- `verdict::take_bytes` meets its contract: a level within the burst makes a sound bucket. Assumes nothing.
use Rattle.std.proofs.Common.{arith, get_or}
use Rattle.std.proofs.Common.{rules}
use mir.Val.{Fits}
use mir.Syntax.{w32}
use Rattle.amount.specs.AmountLaws.{Whole}
use Rattle.amount.specs.AmountOfLaws.{is_amount_of}
use Rattle.bucket_bytes.specs.ByteBucket.{ByteTryConsumeMeets}
use Rattle.peer_verdict.specs.Verdict.{byte_bucket, take_bytes}
use Rattle.peer_verdict.specs.TakeLaws.{level_sound}
use Rattle.peer_verdict.proofs.verdict.take_bytes.Goals as goal

pub returns : goal.returns
unfolding ByteTryConsumeMeets take_bytes
returns c =
    let a = c.args in
    let w : Whole c.from_u64.result = record { four = search rules; fit = λ i. let h : Fits w32 (get_or c.from_u64.result.limbs i 0) = search rules in omega arith } in
    let met : ByteTryConsumeMeets (byte_bucket a.config a.level) a.size a.now_ms c.try_consume.result = rw (c.new.ensures, is_amount_of w c.from_u64.ensures) at c.try_consume.ensures in
    rw (level_sound a.config a.level (omega arith) c.requires) at met
