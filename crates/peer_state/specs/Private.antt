-- Private: cited by contracts inside the proved code alone; no entry point's contract rests on it. Definitions only.
use Rattle.std.specs.Prelude.{Bool, ◌&&◌, cond, ℕ, eqb}
use Rattle.peer_settings.specs.declared.config.PeerMessagePolicyConfig.{PeerMessagePolicyConfig}
use Rattle.peer_state.specs.declared.entry.PeerMessagePolicyEntry.{PeerMessagePolicyEntry}
use Rattle.peer_state.specs.Entry.{entry_new, entry_is_spent}

-- the entry that a known peer's message is decided on: a spent ban drops it, and it is made anew
abbrev pub entry_to_update : PeerMessagePolicyConfig → PeerMessagePolicyEntry → ℕ → PeerMessagePolicyEntry
entry_to_update c e now = cond (entry_is_spent e now) (entry_new c now) e

-- whether two entries count as many violations, of each kind
abbrev pub same_counts : PeerMessagePolicyEntry → PeerMessagePolicyEntry → Bool
same_counts a b =
    eqb a.rate_limit_violations.count b.rate_limit_violations.count
    && eqb a.invalid_messages.count b.invalid_messages.count
