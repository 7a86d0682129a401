-- Private: cited by contracts inside the proved code alone; no entry point's contract rests on it. Definitions only.
use Rattle.std.specs.Prelude.{List, ℕ, ◌≡◌}
use Rattle.table.specs.declared.seek.Seek.{Seek}
use Rattle.table.specs.Memory.{Holds}
use Rattle.table.specs.Outcome.{become}
use Rattle.table_laws.specs.Private.{lent_sought}
use Rattle.gossip_ban_rows.specs.Rows.{Bans, ban_layout, ban_sound}
use Rattle.gossip_bans.specs.declared.tracker.GossipBanTracker.{GossipBanTracker}
use Rattle.gossip_bans.specs.Tracker.{limit_of, tracker_sound}
use Rattle.table_laws.specs.Private as lent
use Rattle.gossip_bans.specs.Calls.{tracker_after}

-- what every call begins with: unsound, or the place of a key, or the gap where it would stand
abbrev pub sought_in : GossipBanTracker → List ℕ → List ℕ → Seek
sought_in t s k = lent_sought ban_layout ban_sound (tracker_sound t) (limit_of t.max_entries) s t.rows k

-- a sound tracker, and a peer whose row is the i-th
abbrev pub Known : GossipBanTracker → List ℕ → List ℕ → ℕ → Type 0
Known t s k i = lent.Known ban_layout ban_sound (tracker_sound t) (limit_of t.max_entries) s t.rows k i

-- a sound tracker, and a peer that has no row: its own would stand before the i-th
abbrev pub Unknown : GossipBanTracker → List ℕ → List ℕ → ℕ → Type 0
Unknown t s k i = lent.Unknown ban_layout ban_sound (tracker_sound t) (limit_of t.max_entries) s t.rows k i

-- the rows become these
pub record Left (t : GossipBanTracker) (s : List ℕ) (rs : Bans) (q : GossipBanTracker) (u : List ℕ) : Type 0 where
  pub tracker : q ≡ tracker_after t (become rs)
  pub memory : Holds ban_layout s u t.rows rs
