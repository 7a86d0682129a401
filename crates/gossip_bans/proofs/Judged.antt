-- What the judging says, over plain lists and numbers: the laws of `LentLaws` for a tracker. Assumes nothing.
use mathlib.Core.Path.{◌≡◌, ap, ◌∙◌}
use mathlib.Core.Bool.{true, false}
use mathlib.Core.List.{List}
use mathlib.Core.Option.{none, some}
use Prim.Native.Nat.{ℕ, ◌+◌, ◌*◌, ◌/◌, ◌≤◌, ◌<◌}
use native.Mathlib.Omega.{arith}
use borrow.Author.Tests.{leb-true}
use lib.Dec.{leb}
use lib.ListN.{length}
use Rattle.truths.specs.TruthLaws.{both_parts}
use Rattle.lent_bytes.specs.LentBytes.{part}
use Rattle.table.specs.declared.seek.Seek.TheVariants.{Unsound, At, Gap}
use Rattle.table.specs.Table.{ascending, look}
use Rattle.table.specs.Private.{seek}
use Rattle.table.specs.Memory.{row_of}
use Rattle.table.specs.MemoryLaws.{length_rows}
use Rattle.table_laws.specs.LentLaws as lent
use Rattle.gossip_ban_rows.specs.declared.entry.GossipBanEntry.{GossipBanEntry}
use Rattle.gossip_ban_rows.specs.Entry.{entry_sound}
use Rattle.gossip_ban_rows.specs.Rows.{ban_layout, ban_sound}
use Rattle.gossip_bans.specs.declared.tracker.GossipBanTracker.{GossipBanTracker}
use Rattle.gossip_bans.specs.Tracker.{rows_of, limit_of, tracker_sound, sound}
use Rattle.gossip_bans.specs.Private.{sought_in, Known, Unknown}
use Rattle.gossip_bans.specs.TrackerLaws.{rows_within}

module _ (t : GossipBanTracker) (s : List ℕ) where
  module _ (k : List ℕ) where
    -- the record breaks its own rules
    pub sought_own : tracker_sound t ≡ false → sought_in t s k ≡ Unsound
    sought_own = lent.sought_own ban_layout ban_sound (tracker_sound t) (limit_of t.max_entries) s t.rows k

    -- the memory is too short
    pub sought_length : tracker_sound t ≡ true → length s / 65 < limit_of t.max_entries → sought_in t s k ≡ Unsound
    sought_length own short =
        lent.sought_length ban_layout ban_sound (tracker_sound t) (limit_of t.max_entries) s t.rows k own
        (lent.too_short_lem ban_layout (limit_of t.max_entries) s (omega arith) short)

    -- the walk over the rows is the answer
    pub sought_rows : tracker_sound t ≡ true → limit_of t.max_entries ≤ length s / 65 → sought_in t s k ≡ seek ban_sound k (rows_of t s)
    sought_rows own long =
        lent.sought_rows ban_layout ban_sound (tracker_sound t) (limit_of t.max_entries) s t.rows k own
        (lent.long_enough_lem ban_layout (limit_of t.max_entries) s (omega arith) long)

    -- what the answers say
    pub sought_unsound : sought_in t s k ≡ Unsound → sound t s ≡ false
    sought_unsound = lent.sought_unsound ban_layout ban_sound (tracker_sound t) (limit_of t.max_entries) s t.rows k

    pub sought_known : {i : ℕ} → sought_in t s k ≡ At i → Known t s k i
    sought_known h = lent.sought_known ban_layout ban_sound (tracker_sound t) (limit_of t.max_entries) s t.rows k h

    pub sought_unknown : {i : ℕ} → sought_in t s k ≡ Gap i → Unknown t s k i
    sought_unknown h = lent.sought_unknown ban_layout ban_sound (tracker_sound t) (limit_of t.max_entries) s t.rows k h

  module _ (h : sound t s ≡ true) where
    -- the rows are within the limit
    pub few : t.rows ≤ limit_of t.max_entries
    few = rows_within t (lent.own_sound_lem ban_layout ban_sound (tracker_sound t) (limit_of t.max_entries) s t.rows h)

    pub few_rows : length (rows_of t s) ≤ limit_of t.max_entries
    few_rows = omega (arith, few, length_rows ban_layout s t.rows)

    -- the memory has room for the limit
    pub limit_fits : 65 * limit_of t.max_entries ≤ length s
    limit_fits = lent.limit_fits ban_layout ban_sound (tracker_sound t) (limit_of t.max_entries) s t.rows h

    -- and for the rows
    pub rows_fit : 65 * t.rows ≤ length s
    rows_fit = lent.rows_fit ban_layout ban_sound (tracker_sound t) (limit_of t.max_entries) s t.rows h few

    -- the keys ascend
    pub order : ascending (rows_of t s) ≡ true
    order = lent.order_kept ban_layout ban_sound (tracker_sound t) (limit_of t.max_entries) s t.rows h

  module _ (k : List ℕ) (i : ℕ) (h : Known t s k i) where
    -- a known peer's row is one of the tracker's
    pub known_inside : i < t.rows
    known_inside = lent.known_inside ban_layout ban_sound (tracker_sound t) (limit_of t.max_entries) s t.rows k i h

    -- and stands within the memory
    pub known_fits : 65 * i + 65 ≤ length s
    known_fits =
        lent.known_fits ban_layout ban_sound (tracker_sound t) (limit_of t.max_entries) s t.rows k i h (few h.is_sound)

    module _ (e : GossipBanEntry) (read : e ≡ (row_of ban_layout (part s (65 * i) 65)).entry) where
      -- the entry read there is what is found
      pub known_look : look k (rows_of t s) ≡ some e
      known_look = lent.known_look ban_layout ban_sound (tracker_sound t) (limit_of t.max_entries) s t.rows k i h e read

      -- its score is within 32 bits
      pub score_fits : e.score ≤ 4294967295
      unfolding entry_sound
      score_fits =
          leb-true _ _
          (both_parts (leb e.score 4294967295) _
          (ap entry_sound read ∙ lent.known_rule ban_layout ban_sound (tracker_sound t) (limit_of t.max_entries) s t.rows k i h)).0

-- nothing is found for a peer without a row
pub unknown_look : (t : GossipBanTracker) (s : List ℕ) (k : List ℕ) (i : ℕ) → Unknown t s k i → look k (rows_of t s) ≡ none
unknown_look t s k i h = lent.unknown_look ban_layout ban_sound (tracker_sound t) (limit_of t.max_entries) s t.rows k i h
