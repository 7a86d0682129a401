use Rattle.bucket_bytes.proofs.Levels.{refilled_rate}
use Rattle.bucket_bytes.proofs.bytes.ByteTokenBucket.peek_delay_after_refill.Goals as goal

pub peek_delay-requires : goal.peek_delay-requires
peek_delay-requires c = refilled_rate c.args.self c.args.now_ms c.refilled.ensures c.is_disabled.ensures c.if-is_disabled.false
