-- Private: cited by contracts inside the proved code alone; no entry point's contract rests on it. Definitions only.
use Rattle.std.specs.Prelude.{Bool, ◌&&◌, ◌||◌, cond, List, ℕ, ltb, eqb, length}
use Rattle.table_laws.specs.Walk.{row_at}
use Rattle.gossip_ban_rows.specs.declared.entry.GossipBanEntry.{GossipBanEntry}
use Rattle.gossip_ban_rows.specs.Entry.{entry_default, is_expired}
use Rattle.gossip_ban_rows.specs.Rows.{Bans, ban_layout}
use Rattle.gossip_ban_rows.specs.Room.{prune_expired, rank, evict}

-- the entry as it is, or where it is expired a new one
unfoldable pub unexpired_or_default : GossipBanEntry → ℕ → ℕ → GossipBanEntry
unexpired_or_default e duration now = cond (is_expired e duration now) entry_default e

-- whether an entry comes before another by (score, last_updated_ms)
abbrev pub is_lighter : GossipBanEntry → GossipBanEntry → Bool
is_lighter e f =
    ltb e.score f.score || (eqb e.score f.score && ltb e.last_updated_ms f.last_updated_ms)

-- the rank of the row at an index of memory
abbrev pub rank_at : ℕ → List ℕ → ℕ → ℕ
rank_at now s i = rank now (row_at ban_layout s i).entry

-- of the rows at two indexes the one of the lower rank, the second where they are equal
abbrev pub earlier_of : ℕ → List ℕ → ℕ → ℕ → ℕ
earlier_of now s i j = cond (ltb (rank_at now s i) (rank_at now s j)) i j

-- the expired entries have gone; where the table is still full, one row more
abbrev pub evict_if_full : ℕ → ℕ → Bans → Bans
evict_if_full limit now rs = cond (ltb (length rs) limit) rs (evict now rs)

-- what making room comes to for a peer that has no entry (`room_absent` of `RoomLaws`)
unfoldable pub room_for : ℕ → ℕ → ℕ → Bans → Bans
room_for limit duration now rs =
    cond (ltb (length rs) limit) rs (evict_if_full limit now (prune_expired duration now rs))
