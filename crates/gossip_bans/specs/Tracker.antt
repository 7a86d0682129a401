-- GossipBanTracker of gossip_policy.rs, on settings, a limit and a list of rows. Definitions only.
use Rattle.std.specs.Prelude.{Bool, false, ◌&&◌, cond, List, ℕ, max, leb}
use Rattle.std.proofs.Math.Option.{Option, none, some}
use Rattle.table.specs.Table.{look, store}
use Rattle.table.specs.Memory.{rows}
use Rattle.table.specs.Outcome.{Change, same, become, Outcome}
use Rattle.table_laws.specs.Lent.{lent_sound}
use Rattle.gossip_settings.specs.declared.ban.GossipBanConfig.{GossipBanConfig}
use Rattle.gossip_settings.specs.Settings.{gossip_ban_disabled, max_tracked_peers}
use Rattle.gossip_ban_rows.specs.declared.entry.GossipBanEntry.{GossipBanEntry}
use Rattle.gossip_ban_rows.specs.Entry.{entry_default, is_currently_banned, raised, reaches, banned_if_reached}
use Rattle.gossip_ban_rows.specs.Rows.{Bans, ban_layout, ban_sound}
use Rattle.gossip_ban_rows.specs.Room as room
use Rattle.gossip_bans.specs.declared.tracker.GossipBanTracker.{GossipBanTracker}

-- the rows that a tracker has in lent memory
abbrev pub rows_of : GossipBanTracker → List ℕ → Bans
rows_of t s = rows ban_layout s t.rows

-- how many rows a limit stands for
abbrev pub limit_of : ℕ → ℕ
limit_of limit = max limit 1

-- ════ Soundness ════

-- the record's own rules: no limit above the most, and the rows within the limit
unfoldable pub tracker_sound : GossipBanTracker → Bool
tracker_sound t = leb t.max_entries max_tracked_peers && leb t.rows (limit_of t.max_entries)

-- a tracker and the memory lent to it
abbrev pub sound : GossipBanTracker → List ℕ → Bool
sound t s = lent_sound ban_layout ban_sound (tracker_sound t) (limit_of t.max_entries) s t.rows

-- ════ The calls, on rows ════

-- what a call says, and what becomes of the rows
abbrev pub turn : {R : Type 0} → R → Change GossipBanEntry → Outcome GossipBanEntry R
turn answer change = record { answer = answer; change = change }

-- or_default
abbrev pub or_default : Option GossipBanEntry → GossipBanEntry
or_default none = entry_default
or_default (some e) = e

-- record_violation, with the entry that the violation adds to: yes where its score is then one that bans
abbrev pub recorded_over : GossipBanConfig → List ℕ → ℕ → ℕ → Bans → GossipBanEntry → Outcome GossipBanEntry Bool
recorded_over c k points now rs e =
    turn (reaches c (raised e points now)) (become (store k (banned_if_reached c (raised e points now) now) rs))

-- record_violation, once there is room
abbrev pub recorded_among : GossipBanConfig → List ℕ → ℕ → ℕ → Bans → Outcome GossipBanEntry Bool
recorded_among c k points now rs = recorded_over c k points now rs (or_default (look k rs))

-- record_violation
unfoldable pub record_violation : GossipBanConfig → ℕ → List ℕ → ℕ → ℕ → Bans → Outcome GossipBanEntry Bool
record_violation c limit k points now rs =
    cond (gossip_ban_disabled c) (turn false same)
    (recorded_among c k points now
    (room.make_room limit c.duration_ms now k (room.maybe_expire c.duration_ms now k rs)))

-- whether an entry that was found has a live ban
abbrev pub is_live : ℕ → Option GossipBanEntry → Bool
is_live now none = false
is_live now (some e) = is_currently_banned e now

-- is_banned, once the peer's entry has gone if it was expired
abbrev pub banned_among : List ℕ → ℕ → Bans → Outcome GossipBanEntry Bool
banned_among k now rs = turn (is_live now (look k rs)) (become rs)

-- is_banned
unfoldable pub is_banned : GossipBanConfig → List ℕ → ℕ → Bans → Outcome GossipBanEntry Bool
is_banned c k now rs =
    cond (gossip_ban_disabled c) (turn false same) (banned_among k now (room.maybe_expire c.duration_ms now k rs))

-- the score of an entry that was found
abbrev pub score_or : Option GossipBanEntry → ℕ
score_or none = 0
score_or (some e) = e.score

-- score, once the peer's entry has gone if it was expired
abbrev pub score_among : List ℕ → Bans → Outcome GossipBanEntry ℕ
score_among k rs = turn (score_or (look k rs)) (become rs)

-- score
unfoldable pub score : GossipBanConfig → List ℕ → ℕ → Bans → Outcome GossipBanEntry ℕ
score c k now rs = score_among k (room.maybe_expire c.duration_ms now k rs)
