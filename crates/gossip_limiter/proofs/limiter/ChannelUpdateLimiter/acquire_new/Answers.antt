-- `limiter::ChannelUpdateLimiter::acquire_new` meets its contract (`told_off`, `told_full`, `told_new`). Assumes nothing.
use Rattle.std.proofs.Common.{sym, ◌∙◌, arith}
use Rattle.table_laws.specs.LentLaws.{rules_kept}
use Rattle.gossip_limiter_rows.specs.Rows.{limiter_layout, limiter_sound}
use Rattle.gossip_limiter.specs.Limiter.{limit_of, limiter_record_sound}
use Rattle.gossip_limiter.proofs.Branches.{limit_inside, rows_inside, told_off, told_full, told_new}
use Rattle.gossip_limiter.proofs.limiter.ChannelUpdateLimiter.acquire_new.Goals as goal

pub returns-then-is_disabled : goal.returns-then-is_disabled
returns-then-is_disabled c = let a = c.args in
    told_off a.self a.table.now a.key a.now_ms c.requires.is_sound (sym c.is_disabled.ensures ∙ c.if-is_disabled.true)

pub make_room-left-requires : goal.make_room-left-requires
make_room-left-requires c = let a = c.args in
    record {
      count_in_bounds = rows_inside a.self a.table.now c.requires.is_sound;
      count_value = rules_kept limiter_layout (limiter_sound a.self.config) (limiter_record_sound a.self) (limit_of a.self.max_entries) a.table.now a.self.rows c.requires.is_sound;
    }

pub returns-then-limit-left : goal.returns-then-limit-left
returns-then-limit-left c =
    let a = c.args in
    told_full a.self a.table.now a.key a.now_ms a.gap c.requires (sym c.is_disabled.ensures ∙ c.if-is_disabled.false) _ c.make_room-left.result (rw c.limit-limit.ensures at c.make_room-left.ensures) c.with_rows.result (omega (arith, c.if-limit-left.true, c.limit-limit.ensures)) c.with_rows.ensures

pub ask-asked-requires : goal.ask-asked-requires
ask-asked-requires c = rw c.new-bucket.ensures (omega arith)

pub store-rows-requires : goal.store-rows-requires
store-rows-requires c =
    let a = c.args in
    omega (arith, limit_inside a.self a.table.now c.requires.is_sound, c.if-limit-left.false, c.limit-limit.ensures, c.make_room-left.auto.table)

pub returns : goal.returns
returns c =
    let a = c.args in
    told_new a.self a.table.now a.key a.now_ms a.gap c.requires (sym c.is_disabled.ensures ∙ c.if-is_disabled.false) _ c.make_room-left.result (rw c.limit-limit.ensures at c.make_room-left.ensures) c.with_rows-2.result (omega (arith, c.if-limit-left.false, c.limit-limit.ensures)) (omega (arith, c.well_formed)) (omega (arith, c.well_formed)) (λ i. (c.slice_known-1.given i).fits) c.new-bucket.result c.new-bucket.ensures c.ask-asked.result c.ask-asked.ensures _ c.store-rows.result c.store-rows.ensures c.with_rows-2.ensures
