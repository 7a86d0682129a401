-- A step behind which the trace does not go on changed nothing: the policy and the memory are as they were, on any policy and over any
-- memory. Assumes nothing.
use Rattle.trace.specs.declared.step.Answer.{Answer}
use Rattle.std.specs.Prelude.{◌≡◌, refl, Bool, true, false, List, ℕ}
use Rattle.std.proofs.Common.{sym, ap, subst₂, ◌∙◌}
use Rattle.std.proofs.Math.Path.{subst}
use Rattle.truths.specs.TruthLaws.{chosen, true_is_not_false}
use Rattle.table.specs.Table.{look}
use Rattle.peer_verdict.specs.declared.verdict.Cause.{Cause}
use Rattle.peer_verdict.specs.declared.verdict.InvalidCause.{InvalidCause}
use Rattle.peer_verdict.specs.Verdict.{refuses}
use Rattle.peer_rows.specs.Rows.{Peers}
use Rattle.peer_message_policy.specs.declared.policy.PeerMessagePolicy.{PeerMessagePolicy}
use Rattle.peer_message_policy.specs.Policy.{rows_of, same, Turn, admit, record_invalid, is_banned}
use Rattle.peer_message_policy.specs.Calls.{Memory, Outcome, policy_after, standing_of}
use Rattle.peer_laws.specs.SoundLaws.{admit_undone}
use Rattle.peer_laws.specs.RefusedLaws.{NotRefused, invalid_not_refused}
use Rattle.trace_lines.specs.declared.event.Event.{Event}
use Rattle.trace_lines.specs.declared.event.EventKind.{EventKind}
use Rattle.trace_lines.specs.declared.event.EventKind.TheVariants as kind
use Rattle.refusal.specs.declared.Answered.{Answered}
use Rattle.trace.specs.declared.step.Stepped.{Stepped}
use Rattle.trace.specs.Step.{
  standing_answered,
  kind_outcome,
  event_outcome,
  sound_for,
  answered_outcome,
  admit_spoken,
  invalid_spoken,
  spoken,
  goes_on,
  step_outcome,
  StepMeets,
}

-- ════ Which answers end a trace ════

-- of a message's causes, a refusal alone
stopped_refuses : (cause : Cause) → goes_on (admit_spoken cause) ≡ false → refuses cause ≡ true
stopped_refuses Cause.Allowed h = absurd (true_is_not_false refl h)
stopped_refuses (Cause.Short shortage) h = absurd (true_is_not_false refl h)
stopped_refuses Cause.LiveBan h = absurd (true_is_not_false refl h)
stopped_refuses Cause.BanBegun h = absurd (true_is_not_false refl h)
stopped_refuses (Cause.Refused n) h = refl

-- so of an invalid message's
invalid_goes_on : (cause : InvalidCause) → NotRefused cause → goes_on (invalid_spoken cause) ≡ true
invalid_goes_on InvalidCause.Noted h = refl
invalid_goes_on InvalidCause.LiveBan h = refl
invalid_goes_on InvalidCause.BanBegun h = refl
invalid_goes_on (InvalidCause.Refused n) h = absurd h

standing_goes_on : (p q : PeerMessagePolicy) (live : Bool) → goes_on (spoken (standing_answered p (standing_of live q)).answer) ≡ true
standing_goes_on p q true = refl
standing_goes_on p q false = refl

-- ════ An event ════

module _ (p : PeerMessagePolicy) where
  -- if the trace does not go on behind an outcome, that changes nothing
  abbrev Stops : Outcome (Answered PeerMessagePolicy Answer) → Type 0
  Stops o = goes_on (spoken o.answer.answer) ≡ false → (o.answer.state ≡ p) × (o.change ≡ same)

  module _ (rs : Peers) (k : List ℕ) (size now number : ℕ) where
    admit_stops : Stops (kind_outcome p rs k size now number kind.Admit)
    admit_stops h =
        let turn : Turn Cause = admit p.config p.ingress rs k size now in
        let undone = admit_undone p.config p.ingress k size now rs (stopped_refuses turn.cause h) in
        (subst₂ (λ i change. policy_after p i change ≡ p) (sym undone.0) (sym undone.1) refl, undone.1)

    kind_stops : (which : EventKind) → Stops (kind_outcome p rs k size now number which)
    kind_stops kind.Admit = admit_stops
    kind_stops kind.Invalid =
        let turn : Turn InvalidCause = record_invalid p.config p.ingress rs k now in
        λ h. absurd (true_is_not_false (invalid_goes_on turn.cause (invalid_not_refused p.config p.ingress rs k now)) h)
    kind_stops kind.BanQuery = λ h. absurd (true_is_not_false (standing_goes_on p _ (is_banned (look k rs) now)) h)
    kind_stops kind.Disconnected = λ h. absurd (true_is_not_false refl h)
    kind_stops kind.Release = λ h. absurd (true_is_not_false refl h)
    kind_stops kind.Bad = λ h. (refl, refl)

  event_stops : (s : List ℕ) (e : Event) (number : ℕ) → Stops (event_outcome p (rows_of p s) e number)
  unfolding event_outcome
  event_stops s e number = kind_stops (rows_of p s) e.key.bytes e.bytes e.now_ms number e.kind

  answered_stops : (s : List ℕ) (e : Event) (number : ℕ) → Stops (answered_outcome p s e number)
  unfolding answered_outcome
  answered_stops s e number = chosen Stops (sound_for e.kind p s) (λ t. event_stops s e number) (λ t h. (refl, refl))

  -- ════ One step ════

  pub step_stops : (s : List ℕ) (e : Event) (number : ℕ) (r : Stepped) (t : List ℕ) → StepMeets p s e number r t → r.goes_on ≡ false
      → (r.policy ≡ p) × (t ≡ s)
  unfolding StepMeets step_outcome
  step_stops s e number r t m h =
      let stops = answered_stops s e number (sym (ap (λ (x : Stepped). x.goes_on) m.answers) ∙ h) in
      (ap (λ (x : Stepped). x.policy) m.answers ∙ stops.0, subst (Memory s t p.rows) stops.1 m.leaves)
