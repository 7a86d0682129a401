-- `row::is_sound_at` meets its contract: by its two tests. Assumes nothing.
use borrow.Author.Tests.{lt-leb}
use Rattle.gossip_limiter_rows.proofs.Buckets.{row_over, row_side}
use Rattle.gossip_limiter_rows.proofs.row.is_sound_at.Goals as goal

pub returns-then-entry_at-config : goal.returns-then-entry_at-config
returns-then-entry_at-config c = row_side c.args.config c.args.table.now c.args.at c.entry_at.result c.entry_at.ensures c.if-entry_at-config.true

pub returns-else-entry_at-config : goal.returns-else-entry_at-config
returns-else-entry_at-config c = rw (lt-leb _ _ c.if-entry_at-config.false) (row_over c.args.config c.args.table.now c.args.at c.entry_at.result c.entry_at.ensures c.if-entry_at-config.false)
