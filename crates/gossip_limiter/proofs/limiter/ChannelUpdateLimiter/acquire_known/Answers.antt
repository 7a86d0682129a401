-- `limiter::ChannelUpdateLimiter::acquire_known` meets its contract (`told_off`, `told_known`). Assumes nothing.
use Rattle.std.proofs.Common.{sym, ◌∙◌, arith}
use Rattle.pubkey.specs.Order.{limiter_key_bytes}
use Rattle.table_laws.specs.LentLaws.{known_inside, known_fits, known_rule}
use Rattle.gossip_limiter_rows.specs.Rows.{limiter_layout, limiter_sound}
use Rattle.gossip_limiter_rows.specs.RowsLaws.{sound_level}
use Rattle.gossip_limiter.specs.Limiter.{limit_of, limiter_record_sound}
use Rattle.gossip_limiter.proofs.Branches.{few_rows, rows_inside, told_off, told_known}
use Rattle.gossip_limiter.proofs.limiter.ChannelUpdateLimiter.acquire_known.Goals as goal

pub returns-then-is_disabled : goal.returns-then-is_disabled
returns-then-is_disabled c = let a = c.args in
    told_off a.self a.table.now a.key a.now_ms c.requires.is_sound (sym c.is_disabled.ensures ∙ c.if-is_disabled.true)

pub overflow_mul-index : goal.overflow_mul-index
overflow_mul-index c = let a = c.args in
    omega (arith, known_fits limiter_layout (limiter_sound a.self.config) (limiter_record_sound a.self) (limit_of a.self.max_entries) a.table.now a.self.rows (limiter_key_bytes a.key) a.index c.requires (few_rows a.self a.table.now c.requires.is_sound))

pub entry_at-found-requires : goal.entry_at-found-requires
entry_at-found-requires c = let a = c.args in
    omega (arith, known_fits limiter_layout (limiter_sound a.self.config) (limiter_record_sound a.self) (limit_of a.self.max_entries) a.table.now a.self.rows (limiter_key_bytes a.key) a.index c.requires (few_rows a.self a.table.now c.requires.is_sound))

pub bucket_of-bucket-requires : goal.bucket_of-bucket-requires
bucket_of-bucket-requires c = let a = c.args in
    rw c.entry_at-found.ensures (sound_level a.self.config _ (known_rule limiter_layout (limiter_sound a.self.config) (limiter_record_sound a.self) (limit_of a.self.max_entries) a.table.now a.self.rows (limiter_key_bytes a.key) a.index c.requires))

pub ask-asked-requires : goal.ask-asked-requires
ask-asked-requires c = let a = c.args in
    rw (c.bucket_of-bucket.ensures, c.entry_at-found.ensures) (sound_level a.self.config _ (known_rule limiter_layout (limiter_sound a.self.config) (limiter_record_sound a.self) (limit_of a.self.max_entries) a.table.now a.self.rows (limiter_key_bytes a.key) a.index c.requires))

pub overwrite_at-requires : goal.overwrite_at-requires
overwrite_at-requires c =
    let a = c.args in
    record {
      index_lt_count = known_inside limiter_layout (limiter_sound a.self.config) (limiter_record_sound a.self) (limit_of a.self.max_entries) a.table.now a.self.rows (limiter_key_bytes a.key) a.index c.requires;
      count_in_bounds = rows_inside a.self a.table.now c.requires.is_sound;
    }

pub returns : goal.returns
returns c =
    let a = c.args in
    told_known a.self a.table.now a.key a.now_ms a.index c.requires (sym c.is_disabled.ensures ∙ c.if-is_disabled.false) c.entry_at-found.result c.entry_at-found.ensures c.bucket_of-bucket.result c.bucket_of-bucket.ensures c.ask-asked.result c.ask-asked.ensures _ c.overwrite_at.ensures
