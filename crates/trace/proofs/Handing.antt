-- The ways out of a call that hands out a line, each over plain values. Assumes nothing.
use mathlib.Core.Path.{◌≡◌, refl, sym, ap, subst}
use Rattle.std.specs.Prelude.{Result, Ok, Err, Some, None}
use mathlib.Core.List.{List}
use Prim.Native.Nat.{ℕ, ◌+◌, ◌-◌, ◌≤◌, ◌<◌}
use borrow.Author.Tests.{le-leb, lt-leb}
use lib.ListN.{length, take, drop}
use Rattle.peer_message_policy.specs.declared.policy.PeerMessagePolicy.{PeerMessagePolicy}
use Rattle.trace_lines.specs.declared.event.Event.{Event}
use Rattle.trace_lines.specs.Lines.{event_of}
use Rattle.trace.specs.declared.step.Stop.{Stop}
use Rattle.trace.specs.declared.scan.Phase.{Phase}
use Rattle.trace.specs.declared.scan.Scan.{Scan}
use Rattle.trace.specs.declared.scan.Handed.{Handed}
use Rattle.trace.specs.declared.step.Answer.TheVariants as Answer
use Rattle.trace.specs.declared.step.Stepped.{Stepped}
use Rattle.trace.specs.Step.{stopped, StepMeets}
use Rattle.trace.specs.Scan.{following, last, moved, events_outcome, EventsMeets, SettleMeets, SettingsMeets, NextIn, NextMeets}
use Rattle.trace.specs.Private.{line_end_of}
use Rattle.trace.specs.ScanLaws.{found, not_found}
use Rattle.trace.proofs.Answers.{meets_mapped}

-- the bytes from a place up to another one
abbrev pub between : List ℕ → ℕ → ℕ → List ℕ
between s at end = take (end - at) (drop at s)

module _ (scan : Scan) (input before : List ℕ) where
  -- ════ The event's line ════

  pub events_ended : length input ≤ scan.at → EventsMeets scan input before (Err scan) before
  unfolding EventsMeets events_outcome
  events_ended h = rw (le-leb (length input) scan.at h) (record { answers = refl; leaves = refl })

  pub events_unended : {r : Handed} → scan.at < length input → line_end_of input scan.at ≡ None
      → r ≡ last scan (Answer.BadLine scan.number) → EventsMeets scan input before (Ok r) before
  unfolding EventsMeets events_outcome
  events_unended h k w =
      rw (lt-leb (length input) scan.at h, not_found input scan.at k) (record { answers = ap Ok w; leaves = refl })

  pub events_moved : {r : Handed} → scan.at < length input → (end : ℕ) → line_end_of input scan.at ≡ Some end
      → (e : Event) → e ≡ event_of (between input scan.at end)
      → (a : Stepped) (after : List ℕ) → StepMeets scan.policy before e scan.number a after
      → r ≡ moved scan (end + 1) e a → EventsMeets scan input before (Ok r) after
  unfolding EventsMeets events_outcome StepMeets
  events_moved h end k e read a after step w =
      let f = found input scan.at end k in
      rw (lt-leb (length input) scan.at h, f.first, f.behind) (meets_mapped (λ (x : Stepped). Ok (moved scan (end + 1) (event_of (between input scan.at end)) x)) (rw read at step) (ap Ok (rw read at w)))

  -- ════ The settings line ════

  pub settings_unended : {r : Handed} → line_end_of input scan.at ≡ None → r ≡ last scan (Answer.BadLine scan.number)
      → SettingsMeets scan input before (Ok r) before
  unfolding SettingsMeets
  settings_unended k w = rw (not_found input scan.at k) (ap Ok w, refl)

  module _ (end : ℕ) (k : line_end_of input scan.at ≡ Some end) (a : Result PeerMessagePolicy Stop) (middle : List ℕ) (settled : SettleMeets (between input scan.at end) scan.number before a middle) where
    pub settings_stopped : {r : Handed} → (stop : Stop) → a ≡ Err stop → r ≡ last scan (stopped stop) → SettingsMeets scan input before (Ok r) middle
    unfolding SettingsMeets
    settings_stopped stop e w = rw (found input scan.at end k).first (Err stop, middle, rw e at settled, (ap Ok w, refl))

    pub settings_good : (p : PeerMessagePolicy) → a ≡ Ok p → (r : Result Handed Scan) (after : List ℕ)
        → EventsMeets (record { at = end + 1; number = following scan.number; policy = p; phase = Phase.Events }) input middle r after
        → SettingsMeets scan input before r after
    unfolding SettingsMeets
    settings_good p e r after next =
        let f = found input scan.at end k in
        rw f.first (Ok p, middle, rw e at settled, rw f.behind next)

-- ════ The next line, by the phase ════

pub next_in : (scan : Scan) (input before : List ℕ) (r : Result Handed Scan) (after : List ℕ) {phase : Phase} → scan.phase ≡ phase
    → NextIn phase scan input before r after → NextMeets scan input before r after
unfolding NextMeets
next_in scan input before r after k h = subst (λ (phase : Phase). NextIn phase scan input before r after) (sym k) h
