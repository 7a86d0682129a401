-- Laws of one event on a sound policy: what it is answered is what the event does to the policy's rows; and it leaves a sound policy with
-- the same settings, memory of the same length that holds bytes, and the rows that the event's change says. Assumes nothing.
use Rattle.trace.specs.declared.step.Answer.{Answer}
use Rattle.std.specs.Prelude.{◌≡◌, refl, true, List, ℕ}
use Rattle.std.proofs.Math.Path.{ap}
use Rattle.std.proofs.Common.{subst, ◌∙◌}
use Rattle.lent_bytes.specs.LentBytes.{Bytes}
use Rattle.pubkey.specs.declared.Pubkey.{Pubkey}
use Rattle.table.specs.Table.{look}
use Rattle.peer_state.specs.Ingress.{ingress_released}
use Rattle.peer_state.specs.IngressLaws.{released_sound}
use Rattle.peer_message_policy.specs.declared.policy.PeerMessagePolicy.{PeerMessagePolicy}
use Rattle.peer_message_policy.specs.declared.answer.Standing.{Standing}
use Rattle.peer_message_policy.specs.Policy.{rows_of, sound, same, admit, record_invalid, is_banned, is_banned_change, disconnected_change}
use Rattle.peer_message_policy.specs.Calls.{
  Memory,
  Outcome,
  Meets,
  admission_turn,
  AdmitMeets,
  invalid_turn,
  RecordInvalidMeets,
  standing_changed,
  IsBannedMeets,
  changed_by,
  OnDisconnectedMeets,
}
use Rattle.peer_laws.specs.SoundLaws.{Key, PolicyHolds, policy_holds, holds_record, Leaves, change_leaves}
use Rattle.peer_laws.specs.CallLaws.{
  OfStanding,
  admit_outcome_lem,
  record_invalid_outcome_lem,
  is_banned_outcome_lem,
  on_disconnected_outcome_lem,
  admit_leaves,
  record_invalid_leaves,
  is_banned_leaves,
  on_disconnected_leaves,
}
use Rattle.trace_lines.specs.declared.event.Event.{Event}
use Rattle.trace_lines.specs.declared.event.EventKind.{EventKind}
use Rattle.trace_lines.specs.declared.event.EventKind.TheVariants as kind
use Rattle.refusal.specs.declared.Answered.{Answered}
use Rattle.trace.specs.declared.step.Stepped.{Stepped}
use Rattle.trace.specs.Step.{
  standing_answered,
  mapped,
  kind_outcome,
  event_outcome,
  sound_for,
  answered_outcome,
  step_of,
  step_outcome,
  StepMeets,
}
use Rattle.trace_laws.specs.KeyLaws.{EventKey}

-- ════ The policy in an answer ════

-- what holds of an answer's policy, or of the policy before it after a refusal, holds of the one to go on with
pub of_standing_answered : (p : PeerMessagePolicy) (P : PeerMessagePolicy → Type 0) (r : Standing) → OfStanding p P r
    → P (standing_answered p r).state
of_standing_answered p P (Standing.Banned q) h = h
of_standing_answered p P (Standing.Free q) h = h
of_standing_answered p P (Standing.Refused n) h = h

-- ════ What each kind of event leaves ════

-- memory that a change left meets the outcome with that change
meets_outcome : {A : Type 0} {s t : List ℕ} {n : ℕ} {o e : Outcome A} → o ≡ e → Memory s t n e.change → Meets e.answer s t n o
meets_outcome {A} {s} {t} {n} {o} {e} same_outcome m = rw same_outcome (record { answers = refl; leaves = m })

-- what an outcome comes to on a sound policy: the answer's line, and what the change leaves
pub record Stepping (p : PeerMessagePolicy) (s : List ℕ) (o : Outcome (Answered PeerMessagePolicy Answer)) (r : Stepped) (t : List ℕ) : Type 0 where
  pub answers : r ≡ step_of o.answer
  pub leaves : Leaves p s o.change o.answer.state t

module _ (p : PeerMessagePolicy) (s : List ℕ) (h : sound p s ≡ true) (b : Bytes s) (t : List ℕ) where
  holds : PolicyHolds p s
  holds = policy_holds p s h

  -- what an outcome leaves, where the memory is as its change says
  abbrev LeavesBy : Outcome (Answered PeerMessagePolicy Answer) → Type 0
  LeavesBy o = Memory s t p.rows o.change → Leaves p s o.change o.answer.state t

  module _ (k : Pubkey) (key : Key k.bytes) (number : ℕ) where
    admit_left : (size now : ℕ) → LeavesBy (kind_outcome p (rows_of p s) k.bytes size now number kind.Admit)
    unfolding AdmitMeets
    admit_left size now m =
        let o = admission_turn p (admit p.config p.ingress (rows_of p s) k.bytes size now) in
        admit_leaves p s h b k key size now o.answer t (meets_outcome (admit_outcome_lem p s h k size now) m)

    invalid_left : (size now : ℕ) → LeavesBy (kind_outcome p (rows_of p s) k.bytes size now number kind.Invalid)
    unfolding RecordInvalidMeets
    invalid_left size now m =
        let o = invalid_turn p (record_invalid p.config p.ingress (rows_of p s) k.bytes now) in
        record_invalid_leaves p s h b k key now o.answer t (meets_outcome (record_invalid_outcome_lem p s h k now) m)

    ban_query_left : (size now : ℕ) → LeavesBy (kind_outcome p (rows_of p s) k.bytes size now number kind.BanQuery)
    unfolding IsBannedMeets
    ban_query_left size now m =
        let found = look k.bytes (rows_of p s) in
        let o = standing_changed p (is_banned found now) (is_banned_change (rows_of p s) k.bytes now found) in
        of_standing_answered p (λ q. Leaves p s o.change q t) o.answer
        (is_banned_leaves p s h b k key now o.answer t (meets_outcome (is_banned_outcome_lem p s h k now) m))

    disconnected_left : (size now : ℕ) → LeavesBy (kind_outcome p (rows_of p s) k.bytes size now number kind.Disconnected)
    unfolding OnDisconnectedMeets
    disconnected_left size now m =
        let o = changed_by p (disconnected_change p.config (rows_of p s) k.bytes now (look k.bytes (rows_of p s))) in
        on_disconnected_leaves p s h b k key now o.answer t (meets_outcome (on_disconnected_outcome_lem p s h k now) m)

    kind_left : (size now : ℕ) (which : EventKind) → LeavesBy (kind_outcome p (rows_of p s) k.bytes size now number which)
    kind_left size now kind.Admit = admit_left size now
    kind_left size now kind.Invalid = invalid_left size now
    kind_left size now kind.BanQuery = ban_query_left size now
    kind_left size now kind.Disconnected = disconnected_left size now
    kind_left size now kind.Release =
        λ m.
        change_leaves p s t (ingress_released p.ingress size) same holds b
        (released_sound p.config p.ingress size holds.own.load) tt m
    kind_left size now kind.Bad = λ m. change_leaves p s t p.ingress same holds b holds.own.load tt m

  -- ════ One step ════

  -- no event on a sound policy is refused with 3
  sound_for_lem : (which : EventKind) → sound_for which p s ≡ true
  sound_for_lem kind.Admit = h
  sound_for_lem kind.Invalid = h
  sound_for_lem kind.BanQuery = h
  sound_for_lem kind.Disconnected = h
  sound_for_lem kind.Release = holds_record p holds.own
  sound_for_lem kind.Bad = refl

  answered_sound : (e : Event) (number : ℕ) → answered_outcome p s e number ≡ event_outcome p (rows_of p s) e number
  unfolding answered_outcome
  answered_sound e number = rw (sound_for_lem e.kind)

  event_left : (e : Event) (number : ℕ) → EventKey e → LeavesBy (event_outcome p (rows_of p s) e number)
  unfolding event_outcome
  event_left e number key = kind_left e.key key number e.bytes e.now_ms e.kind

  step_sound : (e : Event) (number : ℕ) → step_outcome p s e number ≡ mapped step_of (event_outcome p (rows_of p s) e number)
  unfolding step_outcome
  step_sound e number = ap (mapped step_of) (answered_sound e number)

  pub stepping : (e : Event) (number : ℕ) (r : Stepped) → EventKey e → StepMeets p s e number r t
      → Stepping p s (event_outcome p (rows_of p s) e number) r t
  unfolding StepMeets
  stepping e number r key m =
      let o : Outcome Stepped = mapped step_of (event_outcome p (rows_of p s) e number) in
      let same_outcome : step_outcome p s e number ≡ o = step_sound e number in
      record {
        answers = m.answers ∙ ap (λ x. x.answer) same_outcome;
        leaves = event_left e number key (subst (λ x. Memory s t p.rows x.change) same_outcome m.leaves);
      }
