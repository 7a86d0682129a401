-- `ChannelUpdateLimiter::with_max_entries` meets its contract (`made_large`, `made_short`, `made_fresh`). Assumes nothing.
use Rattle.std.proofs.Common.{ap, ◌∙◌, ℕ, ◌*◌, arith}
use Rattle.lent_bytes.specs.LentBytes.{put, zeros}
use Rattle.gossip_limiter.proofs.Making.{made_large, made_short, made_fresh}
use Rattle.gossip_limiter.proofs.limiter.ChannelUpdateLimiter.with_max_entries.Goals as goal

pub returns-then-max_entries-gt-MAX_TRACKED_KEYS : goal.returns-then-max_entries-gt-MAX_TRACKED_KEYS
returns-then-max_entries-gt-MAX_TRACKED_KEYS c = let a = c.args in
    made_large a.config a.max_entries a.table.now c.if-max_entries-gt-MAX_TRACKED_KEYS.true

pub returns-then-table-limit : goal.returns-then-table-limit
returns-then-table-limit c = let a = c.args in
    made_short a.config a.max_entries a.table.now c.if-max_entries-gt-MAX_TRACKED_KEYS.false (omega (arith, c.if-table-limit.true, c.max-limit.ensures))

pub returns : goal.returns
returns c =
    let a = c.args in
    made_fresh a.config a.max_entries a.table.now c.if-max_entries-gt-MAX_TRACKED_KEYS.false (omega (arith, c.if-table-limit.false, c.max-limit.ensures)) _ (c.zero_rows.ensures ∙ ap (λ (n : ℕ). put a.table.now 0 (zeros (94 * n))) c.max-limit.ensures)
