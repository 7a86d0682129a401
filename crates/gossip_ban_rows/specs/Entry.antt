-- GossipBanEntry of gossip_policy.rs. Definitions only.
use Rattle.std.specs.Prelude.{Bool, ◌&&◌, ◌||◌, cond, ℕ, ◌+◌, min, ltb, leb, eqb}
use Rattle.gossip_settings.specs.declared.ban.GossipBanConfig.{GossipBanConfig}
use Rattle.gossip_ban_rows.specs.declared.entry.GossipBanEntry.{GossipBanEntry}

-- an entry by its numbers: the score; 1 where there is a ban, and its end; the last update
abbrev pub ban_entry : ℕ → ℕ → ℕ → ℕ → GossipBanEntry
ban_entry score mark until last = record { score = score; mark = mark; until_ms = until; last_updated_ms = last }

-- Default::default
abbrev pub entry_default : GossipBanEntry
entry_default = ban_entry 0 0 0 0

-- expires_at_ms, saturating
abbrev pub expires_at_ms : GossipBanEntry → ℕ → ℕ
expires_at_ms e duration = min (e.last_updated_ms + duration) 18446744073709551615

-- is_expired: from the time on at which the entry expires
abbrev pub is_expired : GossipBanEntry → ℕ → ℕ → Bool
is_expired e duration now = leb (expires_at_ms e duration) now

-- is_currently_banned: a ban is live until its end, and no longer at it
abbrev pub is_currently_banned : GossipBanEntry → ℕ → Bool
is_currently_banned e now = eqb e.mark 1 && ltb now e.until_ms

-- record_violation, on the entry: its score grows up to 2^32 - 1, and it is updated now
abbrev pub raised : GossipBanEntry → ℕ → ℕ → GossipBanEntry
raised e points now = ban_entry (min (e.score + points) 4294967295) e.mark e.until_ms now

-- whether its score is one that bans
abbrev pub reaches : GossipBanConfig → GossipBanEntry → Bool
reaches c e = leb c.threshold e.score

-- a score that bans begins a ban, or begins it anew; else the ban stays as it is
unfoldable pub banned_if_reached : GossipBanConfig → GossipBanEntry → ℕ → GossipBanEntry
banned_if_reached c e now =
    cond (reaches c e)
    (ban_entry e.score 1 (min (now + c.duration_ms) 18446744073709551615) e.last_updated_ms) e

-- the entry's own rules: a score within 32 bits, a mark of 0 or 1, and no end without a ban
unfoldable pub entry_sound : GossipBanEntry → Bool
entry_sound e = leb e.score 4294967295 && (eqb e.mark 1 || (eqb e.mark 0 && eqb e.until_ms 0))
