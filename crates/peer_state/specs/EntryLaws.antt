-- Laws of the entry: what its soundness says part by part, and which changes keep it. Assumes nothing.
use Rattle.std.specs.Prelude.{◌≡◌, refl, Bool, true, ◌&&◌, ◌||◌, ℕ, ◌+◌, ◌-◌, ◌≤◌, ltb, leb, eqb}
use Rattle.std.proofs.Math.Bool.{and-eq-true_iff}
use Rattle.std.proofs.Math.Nat.{min-le_right}
use Rattle.std.proofs.Common.{arith, leb-true, le-leb}
use Rattle.truths.specs.TruthLaws.{chosen}
use Rattle.peer_settings.specs.declared.config.PeerMessagePolicyConfig.{PeerMessagePolicyConfig}
use Rattle.peer_state.specs.declared.entry.ViolationWindow.{ViolationWindow}
use Rattle.peer_state.specs.declared.entry.Ban.{Ban}
use Rattle.peer_state.specs.declared.entry.PeerMessagePolicyEntry.{PeerMessagePolicyEntry}
use Rattle.peer_state.specs.Entry.{window_expire, window_counted, window_record, entry_new, entry_ban, entry_expire_windows, entry_used, entry_sound}

-- ════ Windows ════

-- a window's count only falls when it expires
pub count_expire : (w : ViolationWindow) (now duration : ℕ) → (window_expire w now duration).count ≤ w.count
unfolding window_expire
count_expire w now duration =
    chosen (λ (v : ViolationWindow). v.count ≤ w.count)
    (ltb 0 w.count && leb duration (now - w.started_at_ms))
    (λ h. omega arith)
    (λ h. omega arith)

-- a violation is counted within u32
pub count_record : (w : ViolationWindow) (now duration : ℕ) → (window_record w now duration).count ≤ 4294967295
unfolding window_counted
count_record w now duration = min-le_right ((window_expire w now duration).count + 1) 4294967295

-- ════ Soundness, part by part ════

abbrev pub ban_sound : Ban → Bool
ban_sound b = eqb b.mark 1 || (eqb b.mark 0 && eqb b.until_ms 0)

pub record EntryHolds (c : PeerMessagePolicyConfig) (e : PeerMessagePolicyEntry) : Type 0 where
  pub messages : e.messages.available ≤ c.peer_message_burst
  pub bytes : e.bytes.available ≤ c.peer_message_burst_bytes
  pub rate : e.rate_limit_violations.count ≤ 4294967295
  pub invalid : e.invalid_messages.count ≤ 4294967295
  pub ban : ban_sound e.ban ≡ true

pub sound_holds : {c : PeerMessagePolicyConfig} {e : PeerMessagePolicyEntry} → entry_sound c e ≡ true → EntryHolds c e
unfolding entry_sound
sound_holds h =
    let (m, h₁) = (and-eq-true_iff _ _).0 h in
    let (b, h₂) = (and-eq-true_iff _ _).0 h₁ in
    let (r, h₃) = (and-eq-true_iff _ _).0 h₂ in
    let (i, s) = (and-eq-true_iff _ _).0 h₃ in
    record {
      messages = leb-true _ _ m;
      bytes = leb-true _ _ b;
      rate = leb-true _ _ r;
      invalid = leb-true _ _ i;
      ban = s;
    }

pub holds_sound : {c : PeerMessagePolicyConfig} {e : PeerMessagePolicyEntry} → EntryHolds c e → entry_sound c e ≡ true
unfolding entry_sound
holds_sound h =
    rw (le-leb _ _ h.messages, le-leb _ _ h.bytes, le-leb _ _ h.rate, le-leb _ _ h.invalid) h.ban

-- ════ What keeps it ════

pub new_holds : (c : PeerMessagePolicyConfig) (now : ℕ) → EntryHolds c (entry_new c now)
unfolding entry_new
new_holds c now =
    record { messages = omega arith; bytes = omega arith; rate = omega arith; invalid = omega arith; ban = refl }

pub ban_holds : {c : PeerMessagePolicyConfig} {e : PeerMessagePolicyEntry} (now duration : ℕ) → EntryHolds c e → EntryHolds c (entry_ban e now duration)
unfolding entry_ban
ban_holds now duration h =
    record { messages = h.messages; bytes = h.bytes; rate = h.rate; invalid = h.invalid; ban = refl }

pub expire_holds : {c : PeerMessagePolicyConfig} {e : PeerMessagePolicyEntry} (now duration : ℕ) → EntryHolds c e → EntryHolds c (entry_expire_windows e now duration)
unfolding entry_expire_windows
expire_holds {c} {e} now duration h =
    record {
      messages = h.messages;
      bytes = h.bytes;
      rate = omega (arith, count_expire e.rate_limit_violations now duration);
      invalid = omega (arith, count_expire e.invalid_messages now duration);
      ban = h.ban;
    }

pub used_holds : {c : PeerMessagePolicyConfig} {e : PeerMessagePolicyEntry} (now duration : ℕ) → EntryHolds c e → EntryHolds c (entry_used e now duration)
unfolding entry_used
used_holds {c} {e} now duration h =
    record {
      messages = h.messages;
      bytes = h.bytes;
      rate = omega (arith, count_expire e.rate_limit_violations now duration);
      invalid = omega (arith, count_expire e.invalid_messages now duration);
      ban = h.ban;
    }

-- a new entry is sound
pub new_sound : (c : PeerMessagePolicyConfig) (now : ℕ) → entry_sound c (entry_new c now) ≡ true
new_sound c now = holds_sound (new_holds c now)

-- a sound entry's windows expire into a sound entry
pub expire_sound : (c : PeerMessagePolicyConfig) (e : PeerMessagePolicyEntry) (now duration : ℕ) → entry_sound c e ≡ true → entry_sound c (entry_expire_windows e now duration) ≡ true
expire_sound c e now duration h = holds_sound (expire_holds now duration (sound_holds h))
