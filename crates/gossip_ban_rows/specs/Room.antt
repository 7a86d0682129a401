-- Entries that expire, and room for a new one, as gossip_policy.rs has them. Definitions only.
use Rattle.std.specs.Prelude.{Bool, true, false, not, ◌||◌, cond, List, ℕ, zero, suc, ◌+◌, ◌*◌, ◌^◌, ltb, length}
use Rattle.std.proofs.Math.Option.{Option, none, some}
use Rattle.table.specs.Table.{Row, Best, nothing, best, minimum_from, look, erase, retain, remove_at}
use Rattle.gossip_ban_rows.specs.declared.entry.GossipBanEntry.{GossipBanEntry}
use Rattle.gossip_ban_rows.specs.Entry.{is_expired, is_currently_banned}
use Rattle.gossip_ban_rows.specs.Rows.{Bans}

abbrev pub expire_found : ℕ → ℕ → List ℕ → Bans → Option GossipBanEntry → Bans
expire_found duration now k rs none = rs
expire_found duration now k rs (some e) = cond (is_expired e duration now) (erase k rs) rs

-- maybe_expire: the peer's entry goes where it is expired
unfoldable pub maybe_expire : ℕ → ℕ → List ℕ → Bans → Bans
maybe_expire duration now k rs = expire_found duration now k rs (look k rs)

-- a row that is not expired
abbrev pub unexpired : ℕ → ℕ → Row GossipBanEntry → Bool
unexpired duration now r = not (is_expired r.entry duration now)

-- prune_expired: all expired entries go
abbrev pub prune_expired : ℕ → ℕ → Bans → Bans
prune_expired duration now rs = retain (unexpired duration now) rs

-- (is_currently_banned, score, last_updated_ms) as one number: the entry with the least goes first
unfoldable pub rank : ℕ → GossipBanEntry → ℕ
rank now e = cond (is_currently_banned e now) 1 0 * 2 ^ 128 + (e.score * 2 ^ 64 + e.last_updated_ms)

-- what min_by_key goes by; every row takes part
abbrev pub eviction_rank : ℕ → Row GossipBanEntry → Option ℕ
eviction_rank now r = some (rank now r.entry)

-- the row that was found goes
abbrev pub evict_found : Best → Bans → Bans
evict_found nothing rs = rs
evict_found (best j n) rs = remove_at j rs

-- the least goes, that of the smaller key where two are equal
unfoldable pub evict : ℕ → Bans → Bans
evict now rs = evict_found (minimum_from (eviction_rank now) nothing 0 rs) rs

abbrev pub is_some : Option GossipBanEntry → Bool
is_some none = false
is_some (some e) = true

-- contains_key
abbrev pub contains : List ℕ → Bans → Bool
contains k rs = is_some (look k rs)

-- the peer has an entry, or there is room for it
abbrev pub has_room : ℕ → List ℕ → Bans → Bool
has_room limit k rs = contains k rs || ltb (length rs) limit

-- the while of maybe_make_room_for_new_entry, so many rounds at most
unfoldable pub evict_while_full : ℕ → ℕ → ℕ → List ℕ → Bans → Bans
evict_while_full zero limit now k rs = rs
evict_while_full (suc rounds) limit now k rs =
    cond (has_room limit k rs) rs (evict_while_full rounds limit now k (evict now rs))

-- maybe_make_room_for_new_entry: each round takes a row out, so there are no more rounds than rows
unfoldable pub make_room : ℕ → ℕ → ℕ → List ℕ → Bans → Bans
make_room limit duration now k rs =
    cond (has_room limit k rs) rs
    (evict_while_full (length (prune_expired duration now rs)) limit now k (prune_expired duration now rs))
