-- Laws of `next` at an event's line: it tells the first of the answers that are still to come, with its line, and leaves the others; at
-- the input's end it is done. Assumes nothing.
use Rattle.std.specs.Prelude.{◌≡◌, Bool, cond, ℕ, suc, ◌+◌, ◌-◌, ◌<◌, drop, replicate}
use Rattle.std.proofs.Math.Path.{refl}
use Rattle.std.proofs.Common.{◌∙◌, add-one, arith, leb-true, leb-false, ne_eqb}
use Rattle.std.proofs.Math.Bool.{true, false}
use mathlib.Core.List.{List, [], ◌∷◌}
use Rattle.std.specs.Prelude.{Option, Some, None, Result, Ok, Err}
use Rattle.std.proofs.Math.Dec.{leb}
use Rattle.std.proofs.Math.ListN.{length}
use Rattle.std.proofs.Math.Seq.{take-append_seam}
use Rattle.peer_rows.specs.Rows.{Peers}
use Rattle.peer_message_policy.specs.declared.policy.PeerMessagePolicy.{PeerMessagePolicy}
use Rattle.peer_message_policy.specs.Policy.{rows_of, sound}
use Rattle.peer_message_policy.specs.Calls.{Memory, Outcome, Meets, refuse, changed_rows}
use Rattle.peer_laws.specs.SoundLaws.{RecordHolds, policy_holds, Kept}
use Rattle.trace_lines.specs.declared.event.Event.{Event}
use Rattle.trace_lines.specs.Lines.{largest64, event_of, bad_event, line_size, line_of}
use Rattle.trace.specs.declared.step.Answer.{Answer}
use Rattle.refusal.specs.declared.Answered.{Answered}
use Rattle.trace.specs.declared.step.Stepped.{Stepped}
use Rattle.trace.specs.declared.scan.Scan.{Scan}
use Rattle.trace.specs.declared.scan.Handed.{Handed}
use Rattle.trace.specs.Step.{event_outcome, spoken, spoken_text, goes_on, step_outcome, StepMeets}
use Rattle.trace.specs.Scan.{text_of, first_line, following, last, phase_behind, moved, line_outcome, events_outcome, EventsMeets}
use Rattle.trace_laws.specs.Trace.{InputLine, whole, unended, lines_of, LineAnswer, line_answer_of, answered_then, events_of}
use Rattle.trace_laws.specs.Running.{answers_from, Lent, Reading, Handing, over, more}
use Rattle.trace_laws.specs.Fits.{LoadFits, PolicyFits, ScanFits}
use Rattle.trace_laws.specs.LinesLaws.{lines_at_end, lines_at_unended, lines_at_whole, behind_within}
use Rattle.trace_laws.specs.KeyLaws.{event_key}
use Rattle.trace_laws.specs.StepLaws.{Stepping, stepping}
use Rattle.trace_laws.specs.FitsLaws.{event_fits}

-- ════ The events' answers ════

module _ (number : ℕ) (p : PeerMessagePolicy) (rs : Peers) where
  events_none : events_of number p rs [] ≡ []
  unfolding events_of
  events_none = refl

  events_unended : events_of number p rs (unended ∷ []) ≡ line_answer_of bad_event (Answer.BadLine number) p ∷ []
  unfolding events_of
  events_unended = refl

  events_whole : (line : List ℕ) (behind : List InputLine)
      → events_of number p rs (whole line ∷ behind)
      ≡ answered_then (event_of line) rs (event_outcome p rs (event_of line) number) (λ q qs. events_of (suc number) q qs behind)
  unfolding events_of
  events_whole line behind = refl

-- ════ What is handed out ════

-- a text that is written as a line is the line's
pub text_of_line : (text : List ℕ) → text_of (line_of text) ≡ text
text_of_line text = take-append_seam text (replicate (line_size - length text) 0)

-- a last answer
pub hands_last : (input t : List ℕ) (scan : Scan) (a : Answer) → ScanFits scan → Lent t
    → Handing input (line_answer_of bad_event a scan.policy ∷ []) (Ok (last scan a)) t
unfolding answers_from
hands_last input t scan a fits lent =
    more (last scan a) refl refl (text_of_line (spoken_text scan.policy (spoken a)))
    (record { fits = record { at = fits.at; number = fits.number; policy = fits.policy }; lent = lent; here = tt })

-- a number that is not the largest has one behind it
pub following_more : (number : ℕ) → number < largest64 → following number ≡ suc number
unfolding following
following_more number h = rw (ne_eqb number largest64 (λ e. omega arith)) (add-one number)

module _ (scan : Scan) (input s t : List ℕ) (here : Reading scan input s) (line : List ℕ)
    (first : first_line (drop scan.at input) ≡ Some line) where
  -- the place behind the line
  abbrev place : ℕ
  place = scan.at + length line + 1

  -- the scan behind the line
  abbrev after : PeerMessagePolicy → Bool → Scan
  after q goes = record { at = place; number = following scan.number; policy = q; phase = phase_behind goes }

  counts : following scan.number ≡ suc scan.number
  counts = following_more scan.number (omega (arith, here.counted, here.inside, here.short))

  after_fits : (q : PeerMessagePolicy) (goes : Bool) → PolicyFits q → ScanFits (after q goes)
  after_fits q goes fits =
      record {
        at = omega (arith, behind_within input scan.at line first, here.short);
        number = omega (arith, counts, here.counted, here.inside, here.short);
        policy = fits;
      }

  -- an event's line
  abbrev handed : Event → Answer → PeerMessagePolicy → Bool → Handed
  handed e a q goes = record { event = e; answer = a; line = line_of (spoken_text q (spoken a)); scan = after q goes }

  -- an event's answer, and behind it those from its place on, or none
  hands_by : (e : Event) (a : Answer) (q : PeerMessagePolicy) (qs : Peers) → sound q t ≡ true → PolicyFits q → Lent t → rows_of q t ≡ qs → (goes : Bool)
      → Handing input (line_answer_of e a q ∷ cond goes (events_of (suc scan.number) q qs (lines_of (drop place input))) [])
      (Ok (handed e a q goes)) t
  unfolding answers_from
  hands_by e a q qs is_sound fits lent same_rows true =
      more (handed e a q true) refl (rw (counts, same_rows)) (text_of_line (spoken_text q (spoken a)))
      (record {
        fits = after_fits q true fits;
        lent = lent;
        here =
            record {
              is_sound = is_sound;
              short = here.short;
              inside = behind_within input scan.at line first;
              counted = omega (arith, counts, here.counted);
            };
      })
  hands_by e a q qs is_sound fits lent same_rows false =
      more (handed e a q false) refl refl (text_of_line (spoken_text q (spoken a))) (record { fits = after_fits q false fits; lent = lent; here = tt })

-- ════ A call at an event's line ════

-- a sound policy that keeps its settings keeps within its numbers, if the load does
kept_fits : (p : PeerMessagePolicy) (s : List ℕ) → PolicyFits p → (q : PeerMessagePolicy) (t : List ℕ) → Kept p s q t → LoadFits q.ingress
    → PolicyFits q
kept_fits p s fits q t kept load =
    let own : RecordHolds q = (policy_holds q t kept.stays_sound).own in
    record { config = rw kept.same_settings fits.config; load = load; rows = omega (arith, own.few, own.tracked) }

module _ (scan : Scan) (input s t : List ℕ) (fits : ScanFits scan) (lent : Lent s) (here : Reading scan input s) where
  -- the answers that are still to come
  abbrev rest : List InputLine → List LineAnswer
  rest lines = events_of scan.number scan.policy (rows_of scan.policy s) lines

  hands_step : (line : List ℕ) → first_line (drop scan.at input) ≡ Some line
      → Memory s t scan.policy.rows (step_outcome scan.policy s (event_of line) scan.number).change
      → Handing input (rest (lines_of (drop scan.at input)))
      (Ok (moved scan (scan.at + length line + 1) (event_of line) (step_outcome scan.policy s (event_of line) scan.number).answer)) t
  unfolding StepMeets
  hands_step line first m =
      let p : PeerMessagePolicy = scan.policy in
      let rs : Peers = rows_of p s in
      let e : Event = event_of line in
      let o : Outcome (Answered PeerMessagePolicy Answer) = event_outcome p rs e scan.number in
      let r : Stepped = (step_outcome p s e scan.number).answer in
      let behind : List InputLine = lines_of (drop (scan.at + length line + 1) input) in
      let step : Stepping p s o r t =
      stepping p s here.is_sound lent.holds_bytes t e scan.number r (event_key line) (record { answers = refl; leaves = m })
      in
      let q : PeerMessagePolicy = o.answer.state in
      let kept : Kept p s q t = step.leaves.kept in
      rw (step.answers, lines_at_whole input scan.at line first, events_whole scan.number p rs line behind)
      (hands_by scan input s t here line first e o.answer.answer q (changed_rows rs o.change) kept.stays_sound
      (kept_fits p s fits.policy q t kept (event_fits p fits.policy.config fits.policy.load rs e scan.number))
      (record { holds_bytes = kept.holds_bytes; block = kept.same_length ∙ lent.block }) step.leaves.rows
      (goes_on (spoken o.answer.answer)))

  hands_line : (r : Result Handed Scan) (line : Option (List ℕ)) → first_line (drop scan.at input) ≡ line → scan.at < length input
      → Meets r s t scan.policy.rows (line_outcome scan line s) → Handing input (rest (lines_of (drop scan.at input))) r t
  hands_line r None first h m =
      rw (m.answers, lines_at_unended input scan.at h first, events_unended scan.number scan.policy (rows_of scan.policy s))
      (hands_last input t scan (Answer.BadLine scan.number) fits (rw m.leaves lent))
  hands_line r (Some line) first h m = rw m.answers (hands_step line first m.leaves)

  pub hands_event : (r : Result Handed Scan) → EventsMeets scan input s r t → Handing input (rest (lines_of (drop scan.at input))) r t
  unfolding EventsMeets events_outcome
  hands_event r m = go (leb (length input) scan.at) refl m
    where
      go : (ends : Bool) → leb (length input) scan.at ≡ ends
          → Meets r s t scan.policy.rows (cond ends (refuse (Err scan)) (line_outcome scan (first_line (drop scan.at input)) s))
          → Handing input (rest (lines_of (drop scan.at input))) r t
      go true e w =
          rw (w.answers, lines_at_end input scan.at (leb-true (length input) scan.at e))
          (over scan refl (events_none scan.number scan.policy (rows_of scan.policy s)))
      go false e w = hands_line r (first_line (drop scan.at input)) refl (leb-false (length input) scan.at e) w
