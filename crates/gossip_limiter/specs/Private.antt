-- Private: cited by contracts inside the proved code alone; no entry point's contract rests on it. Definitions only.
use Rattle.std.specs.Prelude.{List, ℕ}
use Rattle.table.specs.declared.seek.Seek.{Seek}
use Rattle.table_laws.specs.Private.{lent_sought}
use Rattle.gossip_limiter_rows.specs.Rows.{limiter_layout, limiter_sound}
use Rattle.gossip_limiter.specs.declared.limiter.ChannelUpdateLimiter.{ChannelUpdateLimiter}
use Rattle.gossip_limiter.specs.Limiter.{limit_of, limiter_record_sound}
use Rattle.table_laws.specs.Private as lent

-- what every call begins with: unsound, or the place of a key, or the gap where it would stand
abbrev pub sought_in : ChannelUpdateLimiter → List ℕ → List ℕ → Seek
sought_in l s k = lent_sought limiter_layout (limiter_sound l.config) (limiter_record_sound l) (limit_of l.max_entries) s l.rows k

-- a sound limiter, and a key whose row is the i-th
abbrev pub Known : ChannelUpdateLimiter → List ℕ → List ℕ → ℕ → Type 0
Known l s k i =
    lent.Known limiter_layout (limiter_sound l.config) (limiter_record_sound l) (limit_of l.max_entries) s l.rows k i

-- a sound limiter, and a key that has no row: its own would stand before the i-th
abbrev pub Unknown : ChannelUpdateLimiter → List ℕ → List ℕ → ℕ → Type 0
Unknown l s k i =
    lent.Unknown limiter_layout (limiter_sound l.config) (limiter_record_sound l) (limit_of l.max_entries) s l.rows k i
