-- Making room among the peers' rows, as peer_message_policy.rs makes it. Definitions only.
use Rattle.std.specs.Prelude.{Bool, not, cond, ℕ, eqb}
use Rattle.std.proofs.Math.Option.{Option, none, some}
use Rattle.table.specs.Table.{Row, Best, nothing, best, minimum_from, retain, remove_at}
use Rattle.table.specs.Room.{room_made}
use Rattle.peer_settings.specs.declared.config.PeerMessagePolicyConfig.{PeerMessagePolicyConfig}
use Rattle.peer_state.specs.declared.entry.PeerMessagePolicyEntry.{PeerMessagePolicyEntry}
use Rattle.peer_settings.specs.Config.{limit}
use Rattle.peer_state.specs.Entry.{entry_is_spent}
use Rattle.peer_rows.specs.Rows.{Peers}

-- a row whose ban is not over, or that has none
abbrev pub unspent : ℕ → Row PeerMessagePolicyEntry → Bool
unspent now r = not (entry_is_spent r.entry now)

-- prune_expired_bans: all spent bans go
abbrev pub prune_expired_bans : ℕ → Peers → Peers
prune_expired_bans now rs = retain (unspent now) rs

-- ordinary_lru: peers without a ban, by their last use
abbrev pub ordinary_lru : Row PeerMessagePolicyEntry → Option ℕ
ordinary_lru r = cond (eqb r.entry.ban.mark 1) none (some r.entry.last_used_ms)

-- banned_expirations: banned peers, by the end of their ban
abbrev pub banned_expirations : Row PeerMessagePolicyEntry → Option ℕ
banned_expirations r = cond (eqb r.entry.ban.mark 1) (some r.entry.ban.until_ms) none

-- the row that was found goes, or that of the other search if nothing was
abbrev pub evict_found : Best → Best → Peers → Peers
evict_found (best j n) other rs = remove_at j rs
evict_found nothing (best j n) rs = remove_at j rs
evict_found nothing nothing rs = rs

-- pop_first of the ordinary peers, or else of the banned ones: the smaller key where two are equal
unfoldable pub evict : Peers → Peers
evict rs = evict_found (minimum_from ordinary_lru nothing 0 rs) (minimum_from banned_expirations nothing 0 rs) rs

-- make_room, for a peer that has no row: in a full table the spent bans go, and where it is still full, one row more
unfoldable pub make_room : PeerMessagePolicyConfig → ℕ → Peers → Peers
make_room c now rs = room_made (limit c) (unspent now) evict rs
