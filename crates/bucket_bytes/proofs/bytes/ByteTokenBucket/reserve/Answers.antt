use Rattle.bucket_bytes.proofs.Levels.{refilled_rate}
use Rattle.bucket_bytes.proofs.bytes.ByteTokenBucket.reserve.Goals as goal

pub promised-requires : goal.promised-requires
promised-requires c = refilled_rate c.args.self c.args.now_ms c.refilled.ensures c.is_disabled.ensures c.if-is_disabled.false
