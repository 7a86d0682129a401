-- At most one outcome satisfies the contract of each public call of the trace: the same answer, and the same memory where memory is lent.
-- Assumes nothing.
use Rattle.std.specs.Prelude.{◌≡◌, List, ℕ, drop}
use Rattle.std.proofs.Common.{subst}
use Rattle.std.specs.Prelude.{Option, Some, None, Result, Ok, Err}
use Rattle.refusal.specs.OneOutcomeLaws.{one_outcome}
use Rattle.table.specs.OutcomeLaws.{one_meets}
use Rattle.peer_message_policy.specs.declared.policy.PeerMessagePolicy.{PeerMessagePolicy}
use Rattle.trace_lines.specs.declared.event.Event.{Event}
use Rattle.trace.specs.declared.step.Stop.{Stop}
use Rattle.trace.specs.declared.scan.Phase.{Phase}
use Rattle.trace.specs.declared.scan.Scan.{Scan}
use Rattle.trace.specs.declared.scan.Handed.{Handed}
use Rattle.trace.specs.declared.step.Stepped.{Stepped}
use Rattle.trace.specs.Step.{StepMeets}
use Rattle.trace.specs.Scan.{first_line, EventsMeets, SettleMeets, SettledMeets, SettingsBy, SettingsMeets, open_of, NextIn, NextMeets}

-- a call's answer and the memory that it leaves
abbrev Both : Result Handed Scan → Result Handed Scan → List ℕ → List ℕ → Type 0
Both r q first second = (r ≡ q) × (first ≡ second)

-- an answer that changes nothing
unchanged_one : {before first second : List ℕ} {outcome r q : Result Handed Scan} → (r ≡ outcome) × (first ≡ before)
    → (q ≡ outcome) × (second ≡ before) → Both r q first second
unchanged_one h k = (one_outcome h.0 k.0, one_outcome h.1 k.1)

-- ════ Open and step ════

pub open_one : (input : List ℕ) {r q : Scan} → r ≡ open_of input → q ≡ open_of input → r ≡ q
open_one input = one_outcome

pub step_one : (p : PeerMessagePolicy) (before : List ℕ) (e : Event) (number : ℕ) {first second : List ℕ} {r q : Stepped}
    → StepMeets p before e number r first → StepMeets p before e number q second → (r ≡ q) × (first ≡ second)
unfolding StepMeets
step_one p before e number h k = one_meets h k

-- ════ Next ════

settle_one : (line : List ℕ) (number : ℕ) (before : List ℕ) {first second : List ℕ} {a b : Result PeerMessagePolicy Stop}
    → SettleMeets line number before a first → SettleMeets line number before b second → (a ≡ b) × (first ≡ second)
unfolding SettleMeets
settle_one line number before h k = one_meets h k

module _ (scan : Scan) (input : List ℕ) (r q : Result Handed Scan) (first second : List ℕ) where
  events_one : (before : List ℕ) → EventsMeets scan input before r first → EventsMeets scan input before q second
      → Both r q first second
  unfolding EventsMeets
  events_one before h k = one_meets h k

settled_one : (scan : Scan) (line : List ℕ) (a : Result PeerMessagePolicy Stop) (input before : List ℕ) (r q : Result Handed Scan) (first second : List ℕ)
    → SettledMeets scan line a input before r first → SettledMeets scan line a input before q second → Both r q first second
settled_one scan line (Ok p) input before r q first second h k = events_one _ input r q first second before h k
settled_one scan line (Err stop) input before r q first second h k = unchanged_one h k

module _ (scan : Scan) (input before : List ℕ) (r q : Result Handed Scan) (first second : List ℕ) where
  -- what the settings came to, and the memory between, are determined as well
  settings_by_one : (o : Option (List ℕ)) → SettingsBy scan o input before r first → SettingsBy scan o input before q second
      → Both r q first second
  settings_by_one None h k = unchanged_one h k
  settings_by_one (Some line) (a, middle, settled, rest) (b, other, settled', rest') =
      let same = settle_one line scan.number before settled settled' in
      settled_one scan line b input other r q first second
      (subst (λ (s : List ℕ). SettledMeets scan line b input s r first) same.1
      (subst (λ (x : Result PeerMessagePolicy Stop). SettledMeets scan line x input middle r first) same.0 rest))
      rest'

  settings_one : SettingsMeets scan input before r first → SettingsMeets scan input before q second → Both r q first second
  unfolding SettingsMeets
  settings_one h k = settings_by_one (first_line (drop scan.at input)) h k

  next_in_one : (phase : Phase) → NextIn phase scan input before r first → NextIn phase scan input before q second
      → Both r q first second
  next_in_one Phase.TooLong h k = unchanged_one h k
  next_in_one Phase.Settings h k = settings_one h k
  next_in_one Phase.Events h k = events_one scan input r q first second before h k
  next_in_one Phase.Done h k = unchanged_one h k

  pub next_one : NextMeets scan input before r first → NextMeets scan input before q second → (r ≡ q) × (first ≡ second)
  unfolding NextMeets
  next_one h k = next_in_one scan.phase h k
