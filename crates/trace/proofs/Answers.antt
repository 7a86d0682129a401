-- What a call of the policy comes to when its answer is put in the trace's words: one law for each kind of event, for the step and
-- for the settings. Over plain values. Assumes nothing.
use Rattle.std.specs.Prelude.{Result, Ok, Err, Some, None, is_ok}
use Rattle.refusal.specs.declared.Refusal.{Refusal}
use mathlib.Core.Path.{◌≡◌, refl, ap, ◌∙◌}
use mathlib.Core.Bool.{Bool, true, false, cond}
use mathlib.Core.List.{List}
use Prim.Native.Nat.{ℕ}
use Rattle.table.specs.Table.{look}
use Rattle.peer_settings.specs.declared.config.PeerMessagePolicyConfig.{PeerMessagePolicyConfig}
use Rattle.peer_state.specs.Ingress.{ingress_released}
use Rattle.peer_verdict.specs.declared.verdict.Cause.TheVariants as Cause
use Rattle.peer_verdict.specs.declared.verdict.InvalidCause.TheVariants as InvalidCause
use Rattle.peer_message_policy.specs.declared.policy.PeerMessagePolicy.{PeerMessagePolicy}
use Rattle.peer_message_policy.specs.declared.answer.Admission.{Admission}
use Rattle.peer_message_policy.specs.declared.answer.Invalid.{Invalid}
use Rattle.peer_message_policy.specs.declared.answer.Standing.{Standing}
use Rattle.peer_message_policy.specs.Policy.{rows_of, policy_sound, sound, same, admit, record_invalid, is_banned, is_banned_change, disconnected_change}
use Rattle.peer_message_policy.specs.Calls.{Outcome, Meets, refuse, policy_after, admission_turn, invalid_turn, standing_changed, changed_by}
use Rattle.peer_message_policy.specs.Calls.{admission_of, admit_outcome, AdmitMeets, invalid_of, record_invalid_outcome, RecordInvalidMeets, is_banned_outcome, IsBannedMeets}
use Rattle.peer_message_policy.specs.Calls.{on_disconnected_outcome, OnDisconnectedMeets, ReleaseIngressMeets, NewMeets}
use Rattle.trace_lines.specs.declared.event.Event.{Event}
use Rattle.trace_lines.specs.declared.event.EventKind.TheVariants as kind
use Rattle.trace_lines.specs.declared.line.Word.{Word}
use Rattle.trace_lines.specs.Lines.{settings_of}
use Rattle.trace.specs.declared.step.Stop.{Stop}
use Rattle.trace.specs.declared.step.Answer.{Answer}
use Rattle.refusal.specs.declared.Answered.{Answered}
use Rattle.trace.specs.declared.step.Stepped.{Stepped}
use Rattle.trace.specs.Step.{answered, admission_answered, invalid_answered, standing_answered, changed_answered, mapped}
use Rattle.trace.specs.Step.{goes_on, event_outcome, answered_outcome, step_of, step_outcome, StepMeets}
use Rattle.trace.specs.Private.{AnsweredMeets}
use Rattle.trace.specs.Scan.{made_settled, SettleMeets}

-- ════ An answer in other words ════

pub meets_mapped : {A B : Type 0} (f : A → B) {a : A} {b : B} {before after : List ℕ} {n : ℕ} {o : Outcome A}
    → Meets a before after n o → b ≡ f a → Meets b before after n (mapped f o)
meets_mapped f h e = record { answers = e ∙ ap f h.answers; leaves = h.leaves }

-- the same of a call that is refused where its test fails
meets_tested : {A : Type 0} (f : A → Answered PeerMessagePolicy Answer) (t : Bool) (o : Outcome A) (y : A) {a : A} {b : Answered PeerMessagePolicy Answer} {before after : List ℕ} {n : ℕ}
    → Meets a before after n (cond t o (refuse y)) → b ≡ f a → Meets b before after n (cond t (mapped f o) (refuse (f y)))
meets_tested f true o y h e = meets_mapped f h e
meets_tested f false o y h e = meets_mapped f h e

-- a release changes no row
release_tested : (t : Bool) (p q : PeerMessagePolicy) (s : List ℕ) (n : ℕ) {a : Result PeerMessagePolicy Refusal} {b : Answered PeerMessagePolicy Answer}
    → a ≡ cond t (Ok q) (Err Refusal.Unsound) → b ≡ changed_answered p Answer.Released a
    → Meets b s s n (cond t (refuse (answered Answer.Released q)) (refuse (answered (Answer.Refused Refusal.Unsound) p)))
release_tested true p q s n h e = record { answers = e ∙ ap (changed_answered p Answer.Released) h; leaves = refl }
release_tested false p q s n h e = record { answers = e ∙ ap (changed_answered p Answer.Released) h; leaves = refl }

-- ════ An event, by its kind ════

module _ (p : PeerMessagePolicy) (e : Event) (number : ℕ) (before : List ℕ) where
  module _ (after : List ℕ) {b : Answered PeerMessagePolicy Answer} where
    pub asked_admit : e.kind ≡ kind.Admit → (a : Admission)
        → AdmitMeets p before e.key e.bytes e.now_ms a after → b ≡ admission_answered a → AnsweredMeets p before e number b after
    unfolding AdmitMeets admit_outcome AnsweredMeets answered_outcome event_outcome
    asked_admit k a h w =
        rw k (meets_tested admission_answered (sound p before)
        (admission_turn p (admit p.config p.ingress (rows_of p before) e.key.bytes e.bytes e.now_ms))
        (admission_of p (Cause.Refused Refusal.Unsound)) h w)

    pub asked_invalid : e.kind ≡ kind.Invalid → (a : Invalid)
        → RecordInvalidMeets p before e.key e.now_ms a after → b ≡ invalid_answered a → AnsweredMeets p before e number b after
    unfolding RecordInvalidMeets record_invalid_outcome AnsweredMeets answered_outcome event_outcome
    asked_invalid k a h w =
        rw k (meets_tested invalid_answered (sound p before)
        (invalid_turn p (record_invalid p.config p.ingress (rows_of p before) e.key.bytes e.now_ms))
        (invalid_of p (InvalidCause.Refused Refusal.Unsound)) h w)

    pub asked_ban : e.kind ≡ kind.BanQuery → (a : Standing)
        → IsBannedMeets p before e.key e.now_ms a after → b ≡ standing_answered p a → AnsweredMeets p before e number b after
    unfolding IsBannedMeets is_banned_outcome AnsweredMeets answered_outcome event_outcome
    asked_ban k a h w =
        let held = look e.key.bytes (rows_of p before) in
        rw k (meets_tested (standing_answered p) (sound p before)
        (standing_changed p (is_banned held e.now_ms) (is_banned_change (rows_of p before) e.key.bytes e.now_ms held))
        (Standing.Refused Refusal.Unsound) h w)

    pub asked_disconnected : e.kind ≡ kind.Disconnected → (a : Result PeerMessagePolicy Refusal)
        → OnDisconnectedMeets p before e.key e.now_ms a after → b ≡ changed_answered p Answer.Closed a
        → AnsweredMeets p before e number b after
    unfolding OnDisconnectedMeets on_disconnected_outcome AnsweredMeets answered_outcome event_outcome
    asked_disconnected k a h w =
        let held = look e.key.bytes (rows_of p before) in
        rw k (meets_tested (changed_answered p Answer.Closed) (sound p before)
        (changed_by p (disconnected_change p.config (rows_of p before) e.key.bytes e.now_ms held))
        (Err Refusal.Unsound) h w)

  pub asked_release : e.kind ≡ kind.Release → (a : Result PeerMessagePolicy Refusal) {b : Answered PeerMessagePolicy Answer}
      → ReleaseIngressMeets p e.bytes a → b ≡ changed_answered p Answer.Released a → AnsweredMeets p before e number b before
  unfolding ReleaseIngressMeets AnsweredMeets answered_outcome event_outcome
  asked_release k a h w =
      rw k (release_tested (policy_sound p) p (policy_after p (ingress_released p.ingress e.bytes) same) before p.rows h w)

  pub asked_nothing : e.kind ≡ kind.Bad → AnsweredMeets p before e number (answered (Answer.BadLine number) p) before
  unfolding AnsweredMeets answered_outcome event_outcome
  asked_nothing k = rw k (record { answers = refl; leaves = refl })

  -- the line for the answer
  pub stepped : (after : List ℕ) (a : Answered PeerMessagePolicy Answer) {r : Stepped} → AnsweredMeets p before e number a after → r ≡ step_of a
      → StepMeets p before e number r after
  unfolding AnsweredMeets StepMeets step_outcome
  stepped after a h w = meets_mapped step_of h w

-- the trace goes on behind a word
pub goes_on_ok : (words : Result Word Stop) → is_ok words ≡ goes_on words
goes_on_ok (Ok w) = refl
goes_on_ok (Err stop) = refl

-- ════ The settings ════

module _ (line : List ℕ) (number : ℕ) (before : List ℕ) where
  pub settled_bad : settings_of line ≡ None → SettleMeets line number before (Err (Stop.BadLine number)) before
  unfolding SettleMeets
  settled_bad k = rw k (record { answers = refl; leaves = refl })

  pub settled_good : (after : List ℕ) (c : PeerMessagePolicyConfig) → settings_of line ≡ Some c → (m : Result PeerMessagePolicy Refusal) {r : Result PeerMessagePolicy Stop}
      → NewMeets c before m after → r ≡ made_settled m → SettleMeets line number before r after
  unfolding SettleMeets NewMeets
  settled_good after c k m h w = rw k (meets_mapped made_settled h w)
