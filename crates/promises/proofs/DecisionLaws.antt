-- Laws of a decision on an entry, in any room of the ceiling. Whatever is decided, the entry was last used now; its buckets are charged by
-- an Allow alone; where both buckets pass, the ceiling decides; and the load in flight that a decision carries plays no part in it.
-- Assumes nothing.
use Rattle.std.specs.Prelude.{◌≡◌, Bool, true, false, cond, ℕ}
use Rattle.std.proofs.Math.Path.{refl}
use Rattle.std.proofs.Common.{subst}
use Rattle.std.specs.Prelude.{Result, Ok, Err}
use Rattle.peer_state.specs.declared.ingress.NotReserved.{NotReserved}
use Rattle.peer_state.specs.declared.ingress.NotReserved.TheVariants as NotReserved
use Rattle.truths.specs.TruthLaws.{true_is_not_false}
use Rattle.peer_settings.specs.declared.config.PeerMessagePolicyConfig.{PeerMessagePolicyConfig}
use Rattle.peer_state.specs.declared.entry.PeerMessagePolicyEntry.{PeerMessagePolicyEntry}
use Rattle.peer_state.specs.declared.ingress.FiberIngressBudget.{FiberIngressBudget}
use Rattle.peer_verdict.specs.declared.verdict.Shortage.TheVariants as Shortage
use Rattle.peer_verdict.specs.declared.verdict.Cause.{Cause}
use Rattle.peer_verdict.specs.declared.verdict.Decision.{Decision}
use Rattle.peer_verdict.specs.declared.verdict.InvalidDecision.{InvalidDecision}
use Rattle.peer_state.specs.Entry.{entry_ban, entry_used}
use Rattle.peer_verdict.specs.Verdict.{passes, missing, messages_left, bytes_left, take_message, take_bytes, reaches_ban, violated, ceiling_decides, weighed_in, decision, invalid_decision}
use Rattle.peer_verdict.specs.VerdictLaws.{NotAllowed, rate_counted, both_charged, violated_ways, noted_ways, weighed_in_ways}
use Rattle.promises.specs.Lives.{ceiling_cause}

-- ════ A message ════

-- an Allow: both buckets passed and are charged
pub record Charged (c : PeerMessagePolicyConfig) (e : PeerMessagePolicyEntry) (size now : ℕ) (d : Decision) : Type 0 where
  pub message_there : passes (take_message c e.messages now).answer ≡ true
  pub bytes_there : passes (take_bytes c e.bytes size now).answer ≡ true
  pub messages : d.entry.messages ≡ messages_left (take_message c e.messages now).state
  pub bytes : d.entry.bytes ≡ bytes_left (take_bytes c e.bytes size now).state

-- what is known of a decision on a message, in this room
pub record Decided (c : PeerMessagePolicyConfig) (e : PeerMessagePolicyEntry) (size now : ℕ) (reservation : Result FiberIngressBudget NotReserved) (d : Decision) : Type 0 where
  pub used : d.entry.last_used_ms ≡ now
  pub allowed : d.cause ≡ Cause.Allowed → Charged c e size now d
  pub other : NotAllowed d.cause → (d.entry.messages ≡ e.messages) × (d.entry.bytes ≡ e.bytes)
  pub passed : passes (take_message c e.messages now).answer ≡ true → passes (take_bytes c e.bytes size now).answer ≡ true → d.cause ≡ ceiling_cause reservation

-- a decision for this cause, other than Allow, that leaves the buckets
kept_decided : {c : PeerMessagePolicyConfig} {e : PeerMessagePolicyEntry} {size now : ℕ} {reservation : Result FiberIngressBudget NotReserved} (d : Decision) → NotAllowed d.cause
    → d.entry.last_used_ms ≡ now → d.entry.messages ≡ e.messages → d.entry.bytes ≡ e.bytes
    → (passes (take_message c e.messages now).answer ≡ true → passes (take_bytes c e.bytes size now).answer ≡ true → d.cause ≡ ceiling_cause reservation)
    → Decided c e size now reservation d
kept_decided d n used messages bytes passed =
    record { used = used; allowed = λ q. absurd (subst NotAllowed q n); other = λ m. (messages, bytes); passed = passed }

module _ (c : PeerMessagePolicyConfig) (i : FiberIngressBudget) (e : PeerMessagePolicyEntry) (size now : ℕ) (reservation : Result FiberIngressBudget NotReserved) (used : e.last_used_ms ≡ now) where
  violated_decided : (cause : Cause) → NotAllowed cause
      → (passes (take_message c e.messages now).answer ≡ true → passes (take_bytes c e.bytes size now).answer ≡ true → ⊥)
      → Decided c e size now reservation (violated c i e now cause)
  unfolding entry_ban
  violated_decided cause n short =
      violated_ways (Decided c e size now reservation) c i e now cause
      (λ t. kept_decided _ tt refl refl refl (λ m b. absurd (short m b)))
      (λ t. kept_decided _ n used refl refl (λ m b. absurd (short m b)))

  ceiling_decides_decided : passes (take_message c e.messages now).answer ≡ true → passes (take_bytes c e.bytes size now).answer ≡ true
      → Decided c e size now reservation (ceiling_decides i e (both_charged c e size now) reservation)
  ceiling_decides_decided m b = by_reservation reservation
    where
      by_reservation : (r : Result FiberIngressBudget NotReserved)
          → Decided c e size now r (ceiling_decides i e (both_charged c e size now) r)
      by_reservation (Ok after) =
          record {
            used = used;
            allowed = λ q. record { message_there = m; bytes_there = b; messages = refl; bytes = refl };
            other = λ n. absurd n;
            passed = λ x y. refl;
          }
      by_reservation (Err NotReserved.NoSlot) = kept_decided _ tt used refl refl (λ x y. refl)
      by_reservation (Err (NotReserved.BytesShort k)) = kept_decided _ tt used refl refl (λ x y. refl)
      by_reservation (Err (NotReserved.Refused n)) = kept_decided _ tt used refl refl (λ x y. refl)

  weighed_decided : Decided c e size now reservation (weighed_in c i e size now reservation)
  weighed_decided =
      weighed_in_ways (Decided c e size now reservation) c i e size now reservation
      (λ no. violated_decided (Cause.Short Shortage.Messages) tt (λ m b. true_is_not_false m no))
      (λ m no. violated_decided (Cause.Short (Shortage.Bytes (missing (take_bytes c e.bytes size now).answer))) tt (λ x b. true_is_not_false b no))
      ceiling_decides_decided

-- with the entry as a call finds it
pub decided : (c : PeerMessagePolicyConfig) (i : FiberIngressBudget) (e : PeerMessagePolicyEntry) (size now : ℕ) (reservation : Result FiberIngressBudget NotReserved)
    → Decided c e size now reservation (decision c i e size now reservation)
unfolding decision entry_used
decided c i e size now reservation =
    let d = weighed_decided c i (entry_used e now c.ban_duration_ms) size now reservation refl in
    record {
      used = d.used;
      allowed = λ q.
          let a = d.allowed q in
          record { message_there = a.message_there; bytes_there = a.bytes_there; messages = a.messages; bytes = a.bytes };
      other = d.other;
      passed = d.passed;
    }

-- ════ An invalid message ════

-- it charges no bucket, and is a use
pub record Noted (e : PeerMessagePolicyEntry) (now : ℕ) (d : InvalidDecision) : Type 0 where
  pub messages : d.entry.messages ≡ e.messages
  pub bytes : d.entry.bytes ≡ e.bytes
  pub used : d.entry.last_used_ms ≡ now

pub invalid_decision_noted : (c : PeerMessagePolicyConfig) (e : PeerMessagePolicyEntry) (now : ℕ) → Noted e now (invalid_decision c e now)
unfolding invalid_decision entry_used entry_ban
invalid_decision_noted c e now =
    noted_ways (Noted e now) c (entry_used e now c.ban_duration_ms) now
    (λ t. record { messages = refl; bytes = refl; used = refl })
    (λ t. record { messages = refl; bytes = refl; used = refl })

-- ════ The load plays no part ════

-- two decisions that differ in the load at most
pub record Alike (a b : Decision) : Type 0 where
  pub cause : a.cause ≡ b.cause
  pub entry : a.entry ≡ b.entry

alike_chosen : (t : Bool) {a b x y : Decision} → Alike a x → Alike b y → Alike (cond t a b) (cond t x y)
alike_chosen true h k = h
alike_chosen false h k = k

module _ (c : PeerMessagePolicyConfig) (i j : FiberIngressBudget) (now : ℕ) where
  violated_alike : (e : PeerMessagePolicyEntry) (cause : Cause) → Alike (violated c i e now cause) (violated c j e now cause)
  unfolding violated
  violated_alike e cause =
      alike_chosen (reaches_ban c (rate_counted c e now)) (record { cause = refl; entry = refl }) (record { cause = refl; entry = refl })

  ceiling_decides_alike : (e : PeerMessagePolicyEntry) (size : ℕ) (reservation : Result FiberIngressBudget NotReserved)
      → Alike (ceiling_decides i e (both_charged c e size now) reservation)
      (ceiling_decides j e (both_charged c e size now) reservation)
  ceiling_decides_alike e size (Ok after) = record { cause = refl; entry = refl }
  ceiling_decides_alike e size (Err NotReserved.NoSlot) = record { cause = refl; entry = refl }
  ceiling_decides_alike e size (Err (NotReserved.BytesShort k)) = record { cause = refl; entry = refl }
  ceiling_decides_alike e size (Err (NotReserved.Refused n)) = record { cause = refl; entry = refl }

  weighed_alike : (e : PeerMessagePolicyEntry) (size : ℕ) (reservation : Result FiberIngressBudget NotReserved) → Alike (weighed_in c i e size now reservation) (weighed_in c j e size now reservation)
  weighed_alike e size reservation =
      alike_chosen (passes (take_message c e.messages now).answer)
      (alike_chosen (passes (take_bytes c e.bytes size now).answer) (ceiling_decides_alike e size reservation)
      (violated_alike e (Cause.Short (Shortage.Bytes (missing (take_bytes c e.bytes size now).answer)))))
      (violated_alike e (Cause.Short Shortage.Messages))

  -- two decisions on the same answer of the ceiling
  pub decision_alike : (e : PeerMessagePolicyEntry) (size : ℕ) (reservation : Result FiberIngressBudget NotReserved)
      → Alike (decision c i e size now reservation) (decision c j e size now reservation)
  unfolding decision
  decision_alike e size reservation = weighed_alike (entry_used e now c.ban_duration_ms) size reservation
