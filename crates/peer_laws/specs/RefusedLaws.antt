-- A refused admit or record_invalid changes nothing: the policy in its answer and the memory are as they were. Assumes nothing.
use Rattle.std.specs.Prelude.{◌≡◌, refl, Bool, true, false, cond, List, ℕ}
use Rattle.std.proofs.Common.{sym, ap, subst, subst₂, ◌∙◌}
use Rattle.refusal.specs.declared.Refusal.{Refusal}
use Rattle.refusal.specs.declared.Refusal.TheVariants as Refusal
use Rattle.pubkey.specs.declared.Pubkey.{Pubkey}
use Rattle.table.specs.Table.{look}
use Rattle.peer_settings.specs.declared.config.PeerMessagePolicyConfig.{PeerMessagePolicyConfig}
use Rattle.peer_state.specs.declared.entry.PeerMessagePolicyEntry.{PeerMessagePolicyEntry}
use Rattle.peer_state.specs.declared.ingress.FiberIngressBudget.{FiberIngressBudget}
use Rattle.peer_state.specs.Entry.{entry_used}
use Rattle.peer_verdict.specs.declared.verdict.Cause.{Cause}
use Rattle.peer_verdict.specs.declared.verdict.InvalidCause.{InvalidCause}
use Rattle.peer_verdict.specs.declared.verdict.InvalidDecision.{InvalidDecision}
use Rattle.peer_verdict.specs.Verdict.{invalid_decision, refuses}
use Rattle.peer_verdict.specs.VerdictLaws.{noted_ways}
use Rattle.peer_rows.specs.Rows.{Peers}
use Rattle.peer_message_policy.specs.declared.policy.PeerMessagePolicy.{PeerMessagePolicy}
use Rattle.peer_message_policy.specs.declared.answer.Admission.{Admission}
use Rattle.peer_message_policy.specs.declared.answer.Invalid.{Invalid}
use Rattle.peer_message_policy.specs.Policy.{rows_of, sound, Turn, Update, banned, update, turn_of, noted_down, entry_for_update, admit, record_invalid}
use Rattle.peer_message_policy.specs.Calls.{Memory, policy_after, Meets, refuse, admission_of, admission_turn, admit_outcome, AdmitMeets, invalid_of, invalid_turn, record_invalid_outcome, RecordInvalidMeets}
use Rattle.peer_laws.specs.SoundLaws.{admit_undone}

-- ════ Which causes record_invalid names ════

abbrev pub NotRefused : InvalidCause → Type 0
NotRefused InvalidCause.Noted = Unit {0}
NotRefused InvalidCause.LiveBan = Unit {0}
NotRefused InvalidCause.BanBegun = Unit {0}
NotRefused (InvalidCause.Refused n) = ⊥

decided : (c : PeerMessagePolicyConfig) (e : PeerMessagePolicyEntry) (now : ℕ) → NotRefused (invalid_decision c e now).cause
unfolding invalid_decision
decided c e now =
    noted_ways (λ (d : InvalidDecision). NotRefused d.cause) c (entry_used e now c.ban_duration_ms) now (λ t. tt) (λ t. tt)

module _ (c : PeerMessagePolicyConfig) (i : FiberIngressBudget) (rs : Peers) (k : List ℕ) (now : ℕ) where
  turned : (u : Update) → NotRefused (turn_of i InvalidCause.LiveBan (λ e xs. noted_down i k xs (invalid_decision c e now)) u).cause
  turned banned = tt
  turned (update e xs) = decided c e now

  -- no turn is refused
  pub invalid_not_refused : NotRefused (record_invalid c i rs k now).cause
  unfolding record_invalid
  invalid_not_refused = turned (entry_for_update c now rs k (look k rs))

-- ════ The calls ════

module _ (p : PeerMessagePolicy) (s : List ℕ) (k : Pubkey) where
  pub admit_refused : (size now : ℕ) (r : Admission) (t : List ℕ) → AdmitMeets p s k size now r t → refuses r.cause ≡ true
      → (r.policy ≡ p) × (t ≡ s)
  unfolding AdmitMeets admit_outcome
  admit_refused size now r t m o = go (sound p s) m
    where
      turn : Turn Cause
      turn = admit p.config p.ingress (rows_of p s) k.bytes size now

      go : (b : Bool) → Meets r s t p.rows (cond b (admission_turn p turn) (refuse (admission_of p (Cause.Refused Refusal.Unsound)))) → (r.policy ≡ p) × (t ≡ s)
      go true w =
          let undone =
          admit_undone p.config p.ingress k.bytes size now (rows_of p s) (sym (ap (λ (a : Admission). refuses a.cause) w.answers) ∙ o)
          in
          let same_policy : policy_after p turn.ingress turn.change ≡ p =
          subst₂ (λ i change. policy_after p i change ≡ p) (sym undone.0) (sym undone.1) refl
          in (
            ap (λ (a : Admission). a.policy) w.answers ∙ same_policy,
            subst (Memory s t p.rows) undone.1 w.leaves,
          )
      go false w = (ap (λ (a : Admission). a.policy) w.answers, w.leaves)

  -- only an unsound state is refused
  pub record_invalid_refused : (now : ℕ) (r : Invalid) (t : List ℕ) → RecordInvalidMeets p s k now r t → (n : Refusal) → r.cause ≡ InvalidCause.Refused n
      → (r.policy ≡ p) × (t ≡ s)
  unfolding RecordInvalidMeets record_invalid_outcome
  record_invalid_refused now r t m n o = go (sound p s) m
    where
      turn : Turn InvalidCause
      turn = record_invalid p.config p.ingress (rows_of p s) k.bytes now

      go : (b : Bool) → Meets r s t p.rows (cond b (invalid_turn p turn) (refuse (invalid_of p (InvalidCause.Refused Refusal.Unsound)))) → (r.policy ≡ p) × (t ≡ s)
      go true w =
          absurd (subst NotRefused (sym (ap (λ (a : Invalid). a.cause) w.answers) ∙ o) (invalid_not_refused p.config p.ingress (rows_of p s) k.bytes now))
      go false w = (ap (λ (a : Invalid). a.policy) w.answers, w.leaves)
