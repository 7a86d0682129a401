-- ViolationWindow and PeerMessagePolicyEntry of peer_message_policy.rs. Definitions only.
use Rattle.std.specs.Prelude.{Bool, ◌&&◌, ◌||◌, cond, ℕ, ◌+◌, ◌-◌, min, ltb, leb, eqb}
use Rattle.peer_settings.specs.declared.config.PeerMessagePolicyConfig.{PeerMessagePolicyConfig}
use Rattle.peer_state.specs.declared.entry.Level.{Level}
use Rattle.peer_state.specs.declared.entry.ViolationWindow.{ViolationWindow}
use Rattle.peer_state.specs.declared.entry.Ban.{Ban}
use Rattle.peer_state.specs.declared.entry.PeerMessagePolicyEntry.{PeerMessagePolicyEntry}

-- ════ ViolationWindow ════

abbrev pub window : ℕ → ℕ → ViolationWindow
window count start = record { count = count; started_at_ms = start }

-- expire: a count above 0 whose start lies the duration or more back becomes 0, its start now; a start after now lies 0 back
unfoldable pub window_expire : ViolationWindow → ℕ → ℕ → ViolationWindow
window_expire w now duration =
    cond (ltb 0 w.count && leb duration (now - w.started_at_ms)) (window 0 now) w

-- one violation more, up to 2^32 - 1; the first starts the window
unfoldable pub window_counted : ViolationWindow → ℕ → ViolationWindow
window_counted w now =
    window (min (w.count + 1) 4294967295) (cond (eqb w.count 0) now w.started_at_ms)

-- record
abbrev pub window_record : ViolationWindow → ℕ → ℕ → ViolationWindow
window_record w now duration = window_counted (window_expire w now duration) now

-- ════ PeerMessagePolicyEntry ════

abbrev pub level : ℕ → ℕ → Level
level available last = record { available = available; last_refill_ms = last }

abbrev pub ban : ℕ → ℕ → Ban
ban mark until = record { mark = mark; until_ms = until }

-- new: both buckets full and last refilled at 0, no violation, no ban; the windows' starts and the last use are now
unfoldable pub entry_new : PeerMessagePolicyConfig → ℕ → PeerMessagePolicyEntry
entry_new c now =
    record {
      messages = level c.peer_message_burst 0;
      bytes = level c.peer_message_burst_bytes 0;
      rate_limit_violations = window 0 now;
      invalid_messages = window 0 now;
      ban = ban 0 0;
      last_used_ms = now;
    }

-- is_banned: a ban is live until its end, and no longer at it
abbrev pub entry_is_banned : PeerMessagePolicyEntry → ℕ → Bool
entry_is_banned e now = eqb e.ban.mark 1 && ltb now e.ban.until_ms

-- a ban that is over
abbrev pub entry_is_spent : PeerMessagePolicyEntry → ℕ → Bool
entry_is_spent e now = eqb e.ban.mark 1 && leb e.ban.until_ms now

-- ban: until now + duration, saturating
unfoldable pub entry_ban : PeerMessagePolicyEntry → ℕ → ℕ → PeerMessagePolicyEntry
entry_ban e now duration =
    record {
      messages = e.messages;
      bytes = e.bytes;
      rate_limit_violations = e.rate_limit_violations;
      invalid_messages = e.invalid_messages;
      ban = ban 1 (min (now + duration) 18446744073709551615);
      last_used_ms = now;
    }

-- expire_violation_windows
unfoldable pub entry_expire_windows : PeerMessagePolicyEntry → ℕ → ℕ → PeerMessagePolicyEntry
entry_expire_windows e now duration =
    record {
      messages = e.messages;
      bytes = e.bytes;
      rate_limit_violations = window_expire e.rate_limit_violations now duration;
      invalid_messages = window_expire e.invalid_messages now duration;
      ban = e.ban;
      last_used_ms = e.last_used_ms;
    }

-- the entry as admit and record_invalid find it: windows expired, last used now
unfoldable pub entry_used : PeerMessagePolicyEntry → ℕ → ℕ → PeerMessagePolicyEntry
entry_used e now duration =
    record {
      messages = e.messages;
      bytes = e.bytes;
      rate_limit_violations = window_expire e.rate_limit_violations now duration;
      invalid_messages = window_expire e.invalid_messages now duration;
      ban = e.ban;
      last_used_ms = now;
    }

-- a ban's own rules: a mark of 0 or 1, and no end without a ban
abbrev pub ban_sound : Ban → Bool
ban_sound b = eqb b.mark 1 || (eqb b.mark 0 && eqb b.until_ms 0)

-- an entry's own rules: no bucket above its capacity, counts within u32, and the ban's rules
unfoldable pub entry_sound : PeerMessagePolicyConfig → PeerMessagePolicyEntry → Bool
entry_sound c e =
    leb e.messages.available c.peer_message_burst
    && (leb e.bytes.available c.peer_message_burst_bytes
    && (leb e.rate_limit_violations.count 4294967295
    && (leb e.invalid_messages.count 4294967295 && ban_sound e.ban)))
