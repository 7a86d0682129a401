-- Laws of the verdict: the ways it goes, that it keeps an entry and the load sound, and which causes it names. Assumes nothing.
use Rattle.std.specs.Prelude.{◌≡◌, refl, true, false, ℕ, ◌≤◌}
use Rattle.std.proofs.Common.{subst}
use Rattle.std.proofs.Math.Bool.{and-eq-true_iff}
use Rattle.std.proofs.lemmas.Bool.{not-true}
use Rattle.std.specs.Prelude.{Result, Ok, Err}
use Rattle.refusal.specs.declared.Refusal.{Refusal}
use Rattle.peer_state.specs.declared.ingress.NotReserved.{NotReserved}
use Rattle.peer_state.specs.declared.ingress.NotReserved.TheVariants as NotReserved
use Rattle.truths.specs.TruthLaws.{chosen}
use Rattle.refusal.specs.declared.Refusal.TheVariants as Refusal
use Rattle.peer_settings.specs.declared.config.PeerMessagePolicyConfig.{PeerMessagePolicyConfig}
use Rattle.peer_state.specs.declared.entry.ViolationWindow.{ViolationWindow}
use Rattle.peer_state.specs.declared.entry.PeerMessagePolicyEntry.{PeerMessagePolicyEntry}
use Rattle.peer_state.specs.declared.ingress.FiberIngressBudget.{FiberIngressBudget}
use Rattle.peer_verdict.specs.declared.verdict.Shortage.TheVariants as Shortage
use Rattle.peer_verdict.specs.declared.verdict.Cause.{Cause}
use Rattle.peer_verdict.specs.declared.verdict.InvalidCause.TheVariants as InvalidCause
use Rattle.peer_verdict.specs.declared.verdict.Decision.{Decision}
use Rattle.peer_verdict.specs.declared.verdict.InvalidDecision.{InvalidDecision}
use Rattle.peer_settings.specs.Config.{ban_disabled, unlimited}
use Rattle.peer_state.specs.Entry.{window_record, entry_ban, entry_used, entry_sound}
use Rattle.peer_state.specs.Ingress.{ingress_reserved, ingress_sound}
use Rattle.peer_verdict.specs.Verdict.{
  passes,
  missing,
  take_message,
  take_bytes,
  with_rate_window,
  with_invalid_window,
  with_buckets,
  reaches_ban,
  violated,
  ceiling_decides,
  weighed_in,
  decision,
  noted,
  invalid_decision,
}
use Rattle.peer_state.specs.EntryLaws.{EntryHolds, sound_holds, holds_sound, ban_holds, used_holds, count_record}
use Rattle.peer_state.specs.IngressLaws.{ReservationHolds}
use Rattle.peer_verdict.specs.TakeLaws.{message_level, bytes_level, bytes_missing}

-- ════ The ways it goes ════

-- the window of violations, and the window of invalid messages, with one more
abbrev pub rate_counted : PeerMessagePolicyConfig → PeerMessagePolicyEntry → ℕ → ViolationWindow
rate_counted c e now = window_record e.rate_limit_violations now c.ban_duration_ms

abbrev pub invalid_counted : PeerMessagePolicyConfig → PeerMessagePolicyEntry → ℕ → ViolationWindow
invalid_counted c e now = window_record e.invalid_messages now c.ban_duration_ms

-- the entry with both buckets charged
abbrev pub both_charged : PeerMessagePolicyConfig → PeerMessagePolicyEntry → ℕ → ℕ → PeerMessagePolicyEntry
both_charged c e size now = with_buckets e (take_message c e.messages now).state (take_bytes c e.bytes size now).state

-- a ban begun on an entry
abbrev pub ban_begun : PeerMessagePolicyConfig → FiberIngressBudget → PeerMessagePolicyEntry → ℕ → Decision
ban_begun c i e now = record { cause = Cause.BanBegun; entry = entry_ban e now c.ban_duration_ms; ingress = i }

-- what holds of the decision on an entry, for each way that it may go; the test that leads there is at hand
module _ (P : Decision → Type 0) (c : PeerMessagePolicyConfig) (i : FiberIngressBudget) (e : PeerMessagePolicyEntry) where
  pub violated_ways : (now : ℕ) (cause : Cause) → (reaches_ban c (rate_counted c e now) ≡ true → P (ban_begun c i (with_rate_window e (rate_counted c e now)) now)) → (reaches_ban c (rate_counted c e now) ≡ false → P (record { cause = cause; entry = with_rate_window e (rate_counted c e now); ingress = i })) → P (violated c i e now cause)
  unfolding violated
  violated_ways now cause begun counted = chosen P (reaches_ban c (rate_counted c e now)) begun counted

  pub weighed_in_ways : (size now : ℕ) (reservation : Result FiberIngressBudget NotReserved)
      → (passes (take_message c e.messages now).answer ≡ false → P (violated c i e now (Cause.Short Shortage.Messages)))
      → (passes (take_message c e.messages now).answer ≡ true → passes (take_bytes c e.bytes size now).answer ≡ false
      → P (violated c i e now (Cause.Short (Shortage.Bytes (missing (take_bytes c e.bytes size now).answer)))))
      → (passes (take_message c e.messages now).answer ≡ true → passes (take_bytes c e.bytes size now).answer ≡ true
      → P (ceiling_decides i e (both_charged c e size now) reservation))
      → P (weighed_in c i e size now reservation)
  weighed_in_ways size now reservation messages bytes passed =
      chosen P (passes (take_message c e.messages now).answer)
      (λ m. chosen P (passes (take_bytes c e.bytes size now).answer) (λ b. passed m b) (λ b. bytes m b))
      messages

-- the same of an invalid message
pub noted_ways : (P : InvalidDecision → Type 0) (c : PeerMessagePolicyConfig) (e : PeerMessagePolicyEntry) (now : ℕ)
    → (reaches_ban c (invalid_counted c e now) ≡ true
    → P (record { cause = InvalidCause.BanBegun; entry = entry_ban (with_invalid_window e (invalid_counted c e now)) now c.ban_duration_ms }))
    → (reaches_ban c (invalid_counted c e now) ≡ false
    → P (record { cause = InvalidCause.Noted; entry = with_invalid_window e (invalid_counted c e now) }))
    → P (noted c e now)
unfolding noted
noted_ways P c e now begun counted = chosen P (reaches_ban c (invalid_counted c e now)) begun counted

-- ════ The entry stays sound ════

rate_holds : {c : PeerMessagePolicyConfig} {e : PeerMessagePolicyEntry} {w : ViolationWindow} → EntryHolds c e → w.count ≤ 4294967295 → EntryHolds c (with_rate_window e w)
rate_holds h k =
    record { messages = h.messages; bytes = h.bytes; rate = k; invalid = h.invalid; ban = h.ban }

invalid_holds : {c : PeerMessagePolicyConfig} {e : PeerMessagePolicyEntry} {w : ViolationWindow} → EntryHolds c e → w.count ≤ 4294967295 → EntryHolds c (with_invalid_window e w)
invalid_holds h k =
    record { messages = h.messages; bytes = h.bytes; rate = h.rate; invalid = k; ban = h.ban }

abbrev Keeps : PeerMessagePolicyConfig → Decision → Type 0
Keeps c d = EntryHolds c d.entry

violated_holds : (c : PeerMessagePolicyConfig) (i : FiberIngressBudget) (e : PeerMessagePolicyEntry) (now : ℕ) (cause : Cause) → EntryHolds c e → Keeps c (violated c i e now cause)
violated_holds c i e now cause h =
    let counted : EntryHolds c (with_rate_window e (rate_counted c e now)) =
    rate_holds h (count_record e.rate_limit_violations now c.ban_duration_ms)
    in
    violated_ways (Keeps c) c i e now cause (λ t. ban_holds now c.ban_duration_ms counted) (λ t. counted)

noted_holds : (c : PeerMessagePolicyConfig) (e : PeerMessagePolicyEntry) (now : ℕ) → EntryHolds c e → EntryHolds c (noted c e now).entry
noted_holds c e now h =
    let counted : EntryHolds c (with_invalid_window e (invalid_counted c e now)) =
    invalid_holds h (count_record e.invalid_messages now c.ban_duration_ms)
    in
    noted_ways (λ d. EntryHolds c d.entry) c e now (λ t. ban_holds now c.ban_duration_ms counted) (λ t. counted)

ceiling_holds : {c : PeerMessagePolicyConfig} (i : FiberIngressBudget) {e charged : PeerMessagePolicyEntry} (r : Result FiberIngressBudget NotReserved) → EntryHolds c e → EntryHolds c charged → Keeps c (ceiling_decides i e charged r)
ceiling_holds i (Ok after) h taken = taken
ceiling_holds i (Err NotReserved.NoSlot) h taken = h
ceiling_holds i (Err (NotReserved.BytesShort k)) h taken = h
ceiling_holds i (Err (NotReserved.Refused n)) h taken = h

weighed_holds : (c : PeerMessagePolicyConfig) (i : FiberIngressBudget) (e : PeerMessagePolicyEntry) (size now : ℕ) (reservation : Result FiberIngressBudget NotReserved) → EntryHolds c e → Keeps c (weighed_in c i e size now reservation)
weighed_holds c i e size now reservation h =
    weighed_in_ways (Keeps c) c i e size now reservation
    (λ m. violated_holds c i e now (Cause.Short Shortage.Messages) h)
    (λ m b. violated_holds c i e now (Cause.Short (Shortage.Bytes (missing (take_bytes c e.bytes size now).answer))) h)
    (λ m b.
    ceiling_holds i reservation h
    (record {
      messages = message_level c e.messages now h.messages;
      bytes = bytes_level c e.bytes size now h.bytes;
      rate = h.rate;
      invalid = h.invalid;
      ban = h.ban;
    }))

pub decision_sound : (c : PeerMessagePolicyConfig) (i : FiberIngressBudget) (e : PeerMessagePolicyEntry) (size now : ℕ) (reservation : Result FiberIngressBudget NotReserved) → entry_sound c e ≡ true → entry_sound c (decision c i e size now reservation).entry ≡ true
unfolding decision
decision_sound c i e size now reservation h =
    let used = entry_used e now c.ban_duration_ms in
    holds_sound (weighed_holds c i used size now reservation (used_holds now c.ban_duration_ms (sound_holds h)))

pub invalid_decision_sound : (c : PeerMessagePolicyConfig) (e : PeerMessagePolicyEntry) (now : ℕ) → entry_sound c e ≡ true → entry_sound c (invalid_decision c e now).entry ≡ true
unfolding invalid_decision
invalid_decision_sound c e now h =
    let used = entry_used e now c.ban_duration_ms in
    holds_sound (noted_holds c used now (used_holds now c.ban_duration_ms (sound_holds h)))

-- ════ The causes, and what each leaves ════

-- which causes a verdict on a message names, and what each says of the settings
abbrev pub CauseHolds : PeerMessagePolicyConfig → Cause → Type 0
CauseHolds c Cause.Allowed = Unit {0}
CauseHolds c (Cause.Short Shortage.Messages) = Unit {0}
CauseHolds c (Cause.Short (Shortage.Bytes k)) = 1 ≤ k
CauseHolds c (Cause.Short Shortage.Slot) = unlimited c ≡ false
CauseHolds c (Cause.Short (Shortage.CeilingBytes k)) = (unlimited c ≡ false) × (1 ≤ k)
CauseHolds c Cause.LiveBan = ⊥
CauseHolds c Cause.BanBegun = ban_disabled c ≡ false
CauseHolds c (Cause.Refused n) = (unlimited c ≡ true) × (n ≡ Refusal.Overflow)

abbrev pub NotAllowed : Cause → Type 0
NotAllowed Cause.Allowed = ⊥
NotAllowed (Cause.Short shortage) = Unit {0}
NotAllowed Cause.LiveBan = Unit {0}
NotAllowed Cause.BanBegun = Unit {0}
NotAllowed (Cause.Refused n) = Unit {0}

-- an admitted message: both buckets passed, are charged, and the load is one message more
pub record Admitted (c : PeerMessagePolicyConfig) (i : FiberIngressBudget) (e : PeerMessagePolicyEntry) (size now : ℕ) (d : Decision) : Type 0 where
  pub messages : passes (take_message c e.messages now).answer ≡ true
  pub bytes : passes (take_bytes c e.bytes size now).answer ≡ true
  pub entry : d.entry ≡ both_charged c e size now
  pub ingress : d.ingress ≡ ingress_reserved i size

-- any other: buckets and load are as they were
pub record Kept (i : FiberIngressBudget) (e : PeerMessagePolicyEntry) (d : Decision) : Type 0 where
  pub messages : d.entry.messages ≡ e.messages
  pub bytes : d.entry.bytes ≡ e.bytes
  pub ingress : d.ingress ≡ i

pub record Orderly (c : PeerMessagePolicyConfig) (i : FiberIngressBudget) (e : PeerMessagePolicyEntry) (size now : ℕ) (d : Decision) : Type 0 where
  pub cause : CauseHolds c d.cause
  pub load : ingress_sound c i ≡ true → ingress_sound c d.ingress ≡ true
  pub allowed : d.cause ≡ Cause.Allowed → Admitted c i e size now d
  pub other : NotAllowed d.cause → Kept i e d

not_allowed : (x : Cause) → NotAllowed x → x ≡ Cause.Allowed → ⊥
not_allowed x n q = subst NotAllowed q n

-- a decision that admits nothing and leaves buckets and load
kept_orderly : {c : PeerMessagePolicyConfig} {i : FiberIngressBudget} {e : PeerMessagePolicyEntry} {size now : ℕ} {d : Decision} → CauseHolds c d.cause → NotAllowed d.cause → Kept i e d → Orderly c i e size now d
kept_orderly {c} {d = d} cause n k =
    record {
      cause = cause;
      load = λ h. rw k.ingress h;
      allowed = λ q. absurd (not_allowed d.cause n q);
      other = λ m. k;
    }

banning : (c : PeerMessagePolicyConfig) (w : ViolationWindow) → reaches_ban c w ≡ true → ban_disabled c ≡ false
banning c w h = not-true (ban_disabled c) ((and-eq-true_iff _ _).0 h).0

violated_orderly : (c : PeerMessagePolicyConfig) (i : FiberIngressBudget) (e : PeerMessagePolicyEntry) (size now : ℕ) (cause : Cause) → CauseHolds c cause → NotAllowed cause → Orderly c i e size now (violated c i e now cause)
unfolding entry_ban
violated_orderly c i e size now cause holds n =
    violated_ways (Orderly c i e size now) c i e now cause
    (λ t.
    kept_orderly (banning c (rate_counted c e now) t) tt (record { messages = refl; bytes = refl; ingress = refl }))
    (λ t. kept_orderly holds n (record { messages = refl; bytes = refl; ingress = refl }))

ceiling_orderly : (c : PeerMessagePolicyConfig) (i : FiberIngressBudget) (e : PeerMessagePolicyEntry) (size now : ℕ) → passes (take_message c e.messages now).answer ≡ true → passes (take_bytes c e.bytes size now).answer ≡ true → (r : Result FiberIngressBudget NotReserved) → ReservationHolds c i size r → Orderly c i e size now (ceiling_decides i e (both_charged c e size now) r)
ceiling_orderly c i e size now m b (Ok after) h =
    record {
      cause = tt;
      load = h.1;
      allowed = λ q. record { messages = m; bytes = b; entry = refl; ingress = h.0 };
      other = λ n. absurd n;
    }
ceiling_orderly c i e size now m b (Err NotReserved.NoSlot) h =
    kept_orderly h tt (record { messages = refl; bytes = refl; ingress = refl })
ceiling_orderly c i e size now m b (Err (NotReserved.BytesShort k)) h =
    kept_orderly h tt (record { messages = refl; bytes = refl; ingress = refl })
ceiling_orderly c i e size now m b (Err (NotReserved.Refused n)) h =
    kept_orderly h tt (record { messages = refl; bytes = refl; ingress = refl })

weighed_orderly : (c : PeerMessagePolicyConfig) (i : FiberIngressBudget) (e : PeerMessagePolicyEntry) (size now : ℕ) (reservation : Result FiberIngressBudget NotReserved) → ReservationHolds c i size reservation → Orderly c i e size now (weighed_in c i e size now reservation)
weighed_orderly c i e size now reservation holds =
    weighed_in_ways (Orderly c i e size now) c i e size now reservation
    (λ m. violated_orderly c i e size now (Cause.Short Shortage.Messages) tt tt)
    (λ m b. violated_orderly c i e size now (Cause.Short (Shortage.Bytes (missing (take_bytes c e.bytes size now).answer))) (bytes_missing c e.bytes size now b) tt)
    (λ m b. ceiling_orderly c i e size now m b reservation holds)

-- of a verdict on a message, with the entry as it finds it
module _ (c : PeerMessagePolicyConfig) (i : FiberIngressBudget) (e : PeerMessagePolicyEntry) (size now : ℕ) (reservation : Result FiberIngressBudget NotReserved) (holds : ReservationHolds c i size reservation) where
  pub decision_orderly : Orderly c i (entry_used e now c.ban_duration_ms) size now (decision c i e size now reservation)
  unfolding decision
  decision_orderly = weighed_orderly c i (entry_used e now c.ban_duration_ms) size now reservation holds

  -- a sound load stays sound
  pub decision_load : ingress_sound c i ≡ true → ingress_sound c (decision c i e size now reservation).ingress ≡ true
  decision_load = decision_orderly.load

  -- no verdict names a live ban
  pub decision_no_live_ban : (decision c i e size now reservation).cause ≡ Cause.LiveBan → ⊥
  decision_no_live_ban h = subst (CauseHolds c) h decision_orderly.cause

  -- the one refusal is 4, and the load overflows its numbers only where there is no ceiling
  pub decision_refused : {n : Refusal} → (decision c i e size now reservation).cause ≡ Cause.Refused n → (unlimited c ≡ true) × (n ≡ Refusal.Overflow)
  decision_refused h = subst (CauseHolds c) h decision_orderly.cause
