-- `limiter::ChannelUpdateLimiter::sought` meets its contract: the record, then the length, then the rows. Assumes nothing.
use Rattle.std.proofs.Common.{sym, ◌∙◌, arith}
use borrow.Author.Tests.{not-true, not-false}
use Rattle.pubkey.specs.Order.{limiter_key_bytes}
use Rattle.table_laws.specs.LentLaws.{long_enough_lem, too_short_lem, sought_own, sought_length, sought_rows}
use Rattle.gossip_limiter_rows.specs.Rows.{limiter_layout, limiter_sound}
use Rattle.gossip_limiter.specs.Limiter.{limit_of, limiter_record_sound}
use Rattle.gossip_limiter.specs.LimiterLaws.{rows_within}
use Rattle.gossip_limiter.proofs.limiter.ChannelUpdateLimiter.sought.Goals as goal

pub returns-then-not-is_sound : goal.returns-then-not-is_sound
returns-then-not-is_sound c = let a = c.args in
    sym (sought_own limiter_layout (limiter_sound a.self.config) (limiter_record_sound a.self) (limit_of a.self.max_entries) a.table.now a.self.rows (limiter_key_bytes a.key) (sym c.is_sound.ensures ∙ not-true c.is_sound.result c.if-not-is_sound.true-raw))

pub returns-then-table-limit : goal.returns-then-table-limit
returns-then-table-limit c = let a = c.args in
    sym (sought_length limiter_layout (limiter_sound a.self.config) (limiter_record_sound a.self) (limit_of a.self.max_entries) a.table.now a.self.rows (limiter_key_bytes a.key) (sym c.is_sound.ensures ∙ not-false c.is_sound.result c.if-not-is_sound.false-raw) (too_short_lem limiter_layout (limit_of a.self.max_entries) a.table.now (omega arith) (omega (arith, c.if-table-limit.true, c.limit.ensures))))

pub sought-requires : goal.sought-requires
sought-requires c = let a = c.args in
    omega (arith, rows_within a.self (sym c.is_sound.ensures ∙ not-false c.is_sound.result c.if-not-is_sound.false-raw), c.if-table-limit.false, c.limit.ensures)

pub returns : goal.returns
returns c = let a = c.args in
    c.sought.ensures ∙ sym (sought_rows limiter_layout (limiter_sound a.self.config) (limiter_record_sound a.self) (limit_of a.self.max_entries) a.table.now a.self.rows (limiter_key_bytes a.key) (sym c.is_sound.ensures ∙ not-false c.is_sound.result c.if-not-is_sound.false-raw) (long_enough_lem limiter_layout (limit_of a.self.max_entries) a.table.now (omega arith) (omega (arith, c.if-table-limit.false, c.limit.ensures))))
