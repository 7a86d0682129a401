-- The ways out of each call: what it answers and leaves is its outcome. Over plain values. Assumes nothing.
use Rattle.std.specs.Prelude.{Ok, Err}
use Rattle.refusal.specs.declared.Refusal.TheVariants as Refusal
use mathlib.Core.Path.{◌≡◌, refl, sym, ap}
use mathlib.Core.Bool.{true, false, ◌&&◌}
use mathlib.Core.List.{List}
use mathlib.Core.Option.{none, some}
use Prim.Native.Nat.{ℕ}
use Rattle.std.specs.Prelude.{max}
use borrow.Author.Tests.{ltb-true, lt-leb}
use lib.Dec.{eqb, ltb, leb}
use Rattle.truths.specs.TruthLaws.{both_parts}
use Rattle.pubkey.specs.declared.Pubkey.{Pubkey}
use Rattle.table.specs.Table.{look, store, erase}
use Rattle.peer_state.specs.declared.entry.PeerMessagePolicyEntry.{PeerMessagePolicyEntry}
use Rattle.peer_verdict.specs.declared.verdict.Cause.TheVariants as Cause
use Rattle.peer_verdict.specs.declared.verdict.Decision.{Decision}
use Rattle.peer_verdict.specs.declared.verdict.InvalidCause.TheVariants as InvalidCause
use Rattle.peer_verdict.specs.declared.verdict.InvalidDecision.{InvalidDecision}
use Rattle.peer_state.specs.Entry.{entry_is_banned, entry_is_spent, entry_expire_windows}
use Rattle.peer_state.specs.Ingress.{try_reserve}
use Rattle.peer_verdict.specs.Verdict.{decision, invalid_decision, refuses}
use Rattle.peer_rows.specs.Rows.{Peers}
use Rattle.peer_message_policy.specs.declared.policy.PeerMessagePolicy.{PeerMessagePolicy}
use Rattle.peer_message_policy.specs.declared.answer.Standing.{Standing}
use Rattle.peer_message_policy.specs.Policy.{rows_of, sound, carried_out, update, entry_for_update, admit, record_invalid, is_banned_change, disconnected_change}
use Rattle.peer_message_policy.specs.Calls.{admission_of, invalid_of, admit_outcome, AdmitMeets, record_invalid_outcome, RecordInvalidMeets}
use Rattle.peer_message_policy.specs.Calls.{is_banned_outcome, IsBannedMeets, on_disconnected_outcome, OnDisconnectedMeets, HeldTimeMeets}
use Rattle.peer_message_policy.specs.Private.{Left}

-- ════ Admit ════

-- a call that a live ban or a refusal ends changes nothing; any other carries its decision out
module _ (p : PeerMessagePolicy) (s : List ℕ) (k : Pubkey) (size now : ℕ) where
  pub admit_unsound : sound p s ≡ false → AdmitMeets p s k size now (admission_of p (Cause.Refused Refusal.Unsound)) s
  unfolding AdmitMeets admit_outcome
  admit_unsound h = rw h (record { answers = refl; leaves = refl })

  module _ (h : sound p s ≡ true) where
    pub admit_live : (e : PeerMessagePolicyEntry) → look k.bytes (rows_of p s) ≡ some e → entry_is_banned e now ≡ true → AdmitMeets p s k size now (admission_of p Cause.LiveBan) s
    unfolding AdmitMeets admit_outcome admit entry_for_update
    admit_live e found banned = rw (h, found, banned) (record { answers = refl; leaves = refl })

    module _ (e : PeerMessagePolicyEntry) (rs : Peers) (u : entry_for_update p.config now (rows_of p s) k.bytes (look k.bytes (rows_of p s)) ≡ update e rs) (d : Decision) (v : d ≡ decision p.config p.ingress e size now (try_reserve p.config p.ingress size)) where
      pub admit_refused : refuses d.cause ≡ true → AdmitMeets p s k size now (admission_of p d.cause) s
      unfolding AdmitMeets admit_outcome admit carried_out
      admit_refused o = rw (h, u, sym v, o) (record { answers = refl; leaves = refl })

      pub admit_carried : refuses d.cause ≡ false → (q : PeerMessagePolicy) (t : List ℕ) → Left p d.ingress s (store k.bytes d.entry rs) q t → AdmitMeets p s k size now (admission_of q d.cause) t
      unfolding AdmitMeets admit_outcome admit carried_out
      admit_carried o q t left =
          rw (h, u, sym v, o)
          (record { answers = ap (λ (x : PeerMessagePolicy). admission_of x d.cause) left.policy; leaves = left.memory })

-- ════ record_invalid ════

module _ (p : PeerMessagePolicy) (s : List ℕ) (k : Pubkey) (now : ℕ) where
  pub invalid_unsound : sound p s ≡ false → RecordInvalidMeets p s k now (invalid_of p (InvalidCause.Refused Refusal.Unsound)) s
  unfolding RecordInvalidMeets record_invalid_outcome
  invalid_unsound h = rw h (record { answers = refl; leaves = refl })

  module _ (h : sound p s ≡ true) where
    pub invalid_live : (e : PeerMessagePolicyEntry) → look k.bytes (rows_of p s) ≡ some e → entry_is_banned e now ≡ true → RecordInvalidMeets p s k now (invalid_of p InvalidCause.LiveBan) s
    unfolding RecordInvalidMeets record_invalid_outcome record_invalid entry_for_update
    invalid_live e found banned = rw (h, found, banned) (record { answers = refl; leaves = refl })

    pub invalid_carried : (e : PeerMessagePolicyEntry) (rs : Peers) → entry_for_update p.config now (rows_of p s) k.bytes (look k.bytes (rows_of p s)) ≡ update e rs → (d : InvalidDecision) → d ≡ invalid_decision p.config e now → (q : PeerMessagePolicy) (t : List ℕ) → Left p p.ingress s (store k.bytes d.entry rs) q t → RecordInvalidMeets p s k now (invalid_of q d.cause) t
    unfolding RecordInvalidMeets record_invalid_outcome record_invalid
    invalid_carried e rs u d v q t left =
        rw (h, u, sym v)
        (record { answers = ap (λ (x : PeerMessagePolicy). invalid_of x d.cause) left.policy; leaves = left.memory })

-- ════ is_banned ════

-- a live ban is not over
live_unspent : (mark until now : ℕ) → (eqb mark 1 && ltb now until) ≡ true → (eqb mark 1 && leb until now) ≡ false
live_unspent mark until now h =
    let parts = both_parts (eqb mark 1) (ltb now until) h in
    rw (parts.0, lt-leb until now (ltb-true now until parts.1))

module _ (p : PeerMessagePolicy) (s : List ℕ) (k : Pubkey) (now : ℕ) where
  pub standing_unsound : sound p s ≡ false → IsBannedMeets p s k now (Standing.Refused Refusal.Unsound) s
  unfolding IsBannedMeets is_banned_outcome
  standing_unsound h = rw h (record { answers = refl; leaves = refl })

  module _ (h : sound p s ≡ true) where
    pub standing_nobody : look k.bytes (rows_of p s) ≡ none → IsBannedMeets p s k now (Standing.Free p) s
    unfolding IsBannedMeets is_banned_outcome is_banned_change
    standing_nobody missing = rw (h, missing) (record { answers = refl; leaves = refl })

    module _ (e : PeerMessagePolicyEntry) (found : look k.bytes (rows_of p s) ≡ some e) where
      pub standing_live : entry_is_banned e now ≡ true → IsBannedMeets p s k now (Standing.Banned p) s
      unfolding IsBannedMeets is_banned_outcome is_banned_change
      standing_live banned =
          rw (h, found, banned, live_unspent e.ban.mark e.ban.until_ms now banned) (record { answers = refl; leaves = refl })

      pub standing_kept : entry_is_banned e now ≡ false → entry_is_spent e now ≡ false → IsBannedMeets p s k now (Standing.Free p) s
      unfolding IsBannedMeets is_banned_outcome is_banned_change
      standing_kept free unspent = rw (h, found, free, unspent) (record { answers = refl; leaves = refl })

      pub standing_dropped : entry_is_banned e now ≡ false → entry_is_spent e now ≡ true → (q : PeerMessagePolicy) (t : List ℕ) → Left p p.ingress s (erase k.bytes (rows_of p s)) q t → IsBannedMeets p s k now (Standing.Free q) t
      unfolding IsBannedMeets is_banned_outcome is_banned_change
      standing_dropped free spent q t left =
          rw (h, found, free, spent) (record { answers = ap Standing.Free left.policy; leaves = left.memory })

-- ════ on_disconnected ════

module _ (p : PeerMessagePolicy) (s : List ℕ) (k : Pubkey) (now : ℕ) where
  pub disconnected_unsound : sound p s ≡ false → OnDisconnectedMeets p s k now (Err Refusal.Unsound) s
  unfolding OnDisconnectedMeets on_disconnected_outcome
  disconnected_unsound h = rw h (record { answers = refl; leaves = refl })

  module _ (h : sound p s ≡ true) where
    pub disconnected_nobody : look k.bytes (rows_of p s) ≡ none → OnDisconnectedMeets p s k now (Ok p) s
    unfolding OnDisconnectedMeets on_disconnected_outcome disconnected_change
    disconnected_nobody missing = rw (h, missing) (record { answers = refl; leaves = refl })

    module _ (e : PeerMessagePolicyEntry) (found : look k.bytes (rows_of p s) ≡ some e) where
      pub disconnected_live : entry_is_banned e now ≡ true → OnDisconnectedMeets p s k now (Ok p) s
      unfolding OnDisconnectedMeets on_disconnected_outcome disconnected_change
      disconnected_live banned = rw (h, found, banned) (record { answers = refl; leaves = refl })

      pub disconnected_dropped : entry_is_banned e now ≡ false → entry_is_spent e now ≡ true → (q : PeerMessagePolicy) (t : List ℕ) → Left p p.ingress s (erase k.bytes (rows_of p s)) q t → OnDisconnectedMeets p s k now (Ok q) t
      unfolding OnDisconnectedMeets on_disconnected_outcome disconnected_change
      disconnected_dropped free spent q t left =
          rw (h, found, free, spent) (record { answers = ap Ok left.policy; leaves = left.memory })

      pub disconnected_expired : entry_is_banned e now ≡ false → entry_is_spent e now ≡ false → (q : PeerMessagePolicy) (t : List ℕ) → Left p p.ingress s (store k.bytes (entry_expire_windows e now p.config.ban_duration_ms) (rows_of p s)) q t → OnDisconnectedMeets p s k now (Ok q) t
      unfolding OnDisconnectedMeets on_disconnected_outcome disconnected_change
      disconnected_expired free unspent q t left =
          rw (h, found, free, unspent) (record { answers = ap Ok left.policy; leaves = left.memory })

-- ════ held_time ════

module _ (p : PeerMessagePolicy) (s : List ℕ) (k : Pubkey) (given : ℕ) where
  pub held_unsound : sound p s ≡ false → HeldTimeMeets p s k given (Err Refusal.Unsound)
  unfolding HeldTimeMeets
  held_unsound h = rw h

  module _ (h : sound p s ≡ true) where
    pub held_nobody : look k.bytes (rows_of p s) ≡ none → HeldTimeMeets p s k given (Ok given)
    unfolding HeldTimeMeets
    held_nobody missing = rw (h, missing)

    module _ (e : PeerMessagePolicyEntry) (found : look k.bytes (rows_of p s) ≡ some e) where
      pub held_later : HeldTimeMeets p s k given (Ok (max given e.last_used_ms))
      unfolding HeldTimeMeets
      held_later = rw (h, found)
