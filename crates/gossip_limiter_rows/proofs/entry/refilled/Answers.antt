-- `entry::refilled` meets its contract: a sound bucket is never refused (`refilled_by`). Assumes nothing.
use Rattle.std.proofs.Common.{◌∙◌}
use Rattle.gossip_limiter_rows.proofs.Buckets.{refilled_by}
use Rattle.gossip_limiter_rows.proofs.entry.refilled.Goals as goal

pub returns : goal.returns
returns c = c.entry_of.ensures ∙ refilled_by c.args.config c.args.e c.args.now_ms c.bucket_of.result c.refill.result c.bucket_of.ensures c.requires c.refill.ensures
