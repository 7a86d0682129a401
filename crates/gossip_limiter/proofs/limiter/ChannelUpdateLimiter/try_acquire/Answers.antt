-- `ChannelUpdateLimiter::try_acquire` meets its contract: unsound, a key with a row, or one without. Assumes nothing.
use Rattle.std.proofs.Common.{sym, ◌∙◌}
use Rattle.pubkey.specs.Order.{limiter_key_bytes}
use Rattle.table_laws.specs.LentLaws.{sought_unsound, sought_known, sought_unknown}
use Rattle.gossip_limiter_rows.specs.Rows.{limiter_layout, limiter_sound}
use Rattle.gossip_limiter.specs.Limiter.{limit_of, limiter_record_sound}
use Rattle.gossip_limiter.proofs.Branches.{told_unsound}
use Rattle.gossip_limiter.proofs.limiter.ChannelUpdateLimiter.try_acquire.Goals as goal

pub acquire_known-requires : goal.acquire_known-requires
acquire_known-requires c = let a = c.args in
    sought_known limiter_layout (limiter_sound a.self.config) (limiter_record_sound a.self) (limit_of a.self.max_entries) a.table.now a.self.rows (limiter_key_bytes a.key) (sym c.sought.ensures ∙ c.in-At.is)

pub acquire_new-requires : goal.acquire_new-requires
acquire_new-requires c = let a = c.args in
    sought_unknown limiter_layout (limiter_sound a.self.config) (limiter_record_sound a.self) (limit_of a.self.max_entries) a.table.now a.self.rows (limiter_key_bytes a.key) (sym c.sought.ensures ∙ c.in-Gap.is)

pub returns-in-Unsound : goal.returns-in-Unsound
returns-in-Unsound c = let a = c.args in
    told_unsound a.self a.table.now a.key a.now_ms (sought_unsound limiter_layout (limiter_sound a.self.config) (limiter_record_sound a.self) (limit_of a.self.max_entries) a.table.now a.self.rows (limiter_key_bytes a.key) (sym c.sought.ensures ∙ c.in-Unsound.is))
