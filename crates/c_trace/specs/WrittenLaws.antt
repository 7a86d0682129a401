-- Laws of the lines that a scan hands out: each is a text with zeros behind it, no longer than a line is wide, and it is empty
-- exactly where the scan is done. Nobody needs to believe these: they are proved. Assumes nothing.
use Rattle.std.specs.Prelude.{◌≡◌, Bool, cond, List, [], ◌∷◌, ◌++◌, ℕ, ◌+◌, ◌-◌, ◌≤◌, leb, length, drop, replicate}
use Rattle.std.proofs.Common.{sym, ◌∙◌, arith, ne_eqb, length-append}
use Rattle.std.proofs.Math.Path.{refl, ap, subst}
use Rattle.std.proofs.Math.Bool.{true, false}
use Rattle.std.specs.Prelude.{Option, Some, None, Result, Ok, Err, is_err}
use Prim.{Unit, tt}
use Rattle.std.proofs.Math.Dec.{eqb}
use Rattle.decimal.specs.Ascii.{newline}
use Rattle.peer_message_policy.specs.declared.policy.PeerMessagePolicy.{PeerMessagePolicy}
use Rattle.peer_message_policy.specs.Calls.{refuse}
use Rattle.trace_lines.specs.declared.line.TraceLine.{TraceLine}
use Rattle.trace_lines.specs.Lines.{line_size, line_of, event_of, word_text, number_text, answer_text, bad_line_text, refusal_text}
use Rattle.trace.specs.declared.step.Stop.{Stop}
use Rattle.trace.specs.declared.scan.Phase.{Phase}
use Rattle.trace.specs.declared.scan.Scan.{Scan}
use Rattle.trace.specs.declared.scan.Handed.{Handed}
use Rattle.trace.specs.declared.step.Answer.{Answer}
use Rattle.refusal.specs.declared.Answered.{Answered}
use Rattle.trace_lines.specs.declared.line.Word.{Word}
use Rattle.refusal.specs.Refusal.{number_of}
use Rattle.trace.specs.Step.{stopped, spoken, spoken_text, step_of, step_outcome, answered_outcome}
use Rattle.trace.specs.Scan.{first_line, last, moved, line_outcome, events_outcome, EventsMeets, settled_scan, SettledMeets, SettingsBy, SettingsMeets, NextIn, NextMeets}
use Rattle.c_trace.specs.Written.{line_handed}
use Rattle.c_trace.specs.Private.{Written}

-- ════ No text is empty ════

abbrev is_empty : List ℕ → Bool
is_empty text = eqb (length text) 0

bad_line : (k : ℕ) → is_empty (bad_line_text k) ≡ false
unfolding bad_line_text
bad_line k = ne_eqb (length (bad_line_text k)) 0 (λ e. omega (arith, e))

refusal : (n : ℕ) → is_empty (refusal_text n) ≡ false
unfolding refusal_text
refusal n = ne_eqb (length (refusal_text n)) 0 (λ e. omega (arith, e))

some_word : (q : PeerMessagePolicy) (words : Result Word Stop) → is_empty (spoken_text q words) ≡ false
unfolding answer_text
some_word q (Ok w) =
    let rest =
    number_text q.ingress.in_flight_messages ++ (number_text q.ingress.in_flight_bytes ++ (number_text q.rows ++ (newline ∷ []))) in
    ne_eqb (length (word_text w ++ rest)) 0 (λ e. omega (arith, e, length-append (word_text w) rest))
some_word q (Err (Stop.Refused n)) = refusal (number_of n)
some_word q (Err (Stop.BadLine number)) = bad_line number

-- ════ What is handed out ════

-- the line of a text that is not empty
record Hands (h : Handed) : Type 0 where
  pub text : List ℕ
  pub is : h.line ≡ line_of text
  pub some : is_empty text ≡ false

-- so where a line is handed out
abbrev HandsIn : Result Handed Scan → Type 0
HandsIn (Ok h) = Hands h
HandsIn (Err behind) = Unit {0}

module _ (input : List ℕ) (handed : Result Handed Scan) (after : List ℕ) where
  -- a line that spells an answer
  by_spoken : (h : Handed) (q : PeerMessagePolicy) (a : Answer) → h.line ≡ line_of (spoken_text q (spoken a)) → handed ≡ Ok h → HandsIn handed
  by_spoken h q a is e =
      subst HandsIn (sym e) (record { text = spoken_text q (spoken a); is = is; some = some_word q (spoken a) })

  by_last : (scan : Scan) (a : Answer) → handed ≡ Ok (last scan a) → HandsIn handed
  by_last scan a e = by_spoken (last scan a) scan.policy a refl e

  by_ended : (scan : Scan) → handed ≡ Err scan → HandsIn handed
  by_ended scan e = subst HandsIn (sym e) tt

  by_line : (scan : Scan) (line : Option (List ℕ)) (before : List ℕ) → handed ≡ (line_outcome scan line before).answer → HandsIn handed
  unfolding step_outcome
  by_line scan None before e = by_last scan (Answer.BadLine scan.number) e
  by_line scan (Some line) before e =
      let a : Answered PeerMessagePolicy Answer = (answered_outcome scan.policy before (event_of line) scan.number).answer in
      by_spoken (moved scan (scan.at + length line + 1) (event_of line) (step_of a)) a.state a.answer refl e

  by_event : (scan : Scan) (before : List ℕ) → EventsMeets scan input before handed after → HandsIn handed
  unfolding EventsMeets events_outcome
  by_event scan before m = go (leb (length input) scan.at) m.answers
    where
      go : (b : Bool) → handed ≡ (cond b (refuse (Err scan)) (line_outcome scan (first_line (drop scan.at input)) before)).answer → HandsIn handed
      go true e = by_ended scan e
      go false e = by_line scan (first_line (drop scan.at input)) before e

  by_settled : (scan : Scan) (line : List ℕ) (a : Result PeerMessagePolicy Stop) (before : List ℕ) → SettledMeets scan line a input before handed after
      → HandsIn handed
  by_settled scan line (Ok p) before m = by_event (settled_scan scan line p) before m
  by_settled scan line (Err stop) before m = by_last scan (stopped stop) m.0

  by_settings : (scan : Scan) (line : Option (List ℕ)) (before : List ℕ) → SettingsBy scan line input before handed after → HandsIn handed
  by_settings scan None before m = by_last scan (Answer.BadLine scan.number) m.0
  by_settings scan (Some line) before m = by_settled scan line m.0 m.1 m.3

  by_phase : (phase : Phase) (scan : Scan) (before : List ℕ) → NextIn phase scan input before handed after → HandsIn handed
  unfolding SettingsMeets
  by_phase Phase.TooLong scan before m = by_last scan (Answer.BadLine 1) m.0
  by_phase Phase.Settings scan before m = by_settings scan (first_line (drop scan.at input)) before m
  by_phase Phase.Events scan before m = by_event scan before m
  by_phase Phase.Done scan before m = by_ended scan m.0

-- a line that is handed out is that of a text
text_handed : (handed : Result Handed Scan) → HandsIn handed → Written (line_handed handed)
text_handed (Ok h) w = record { text = w.text; is = w.is }
text_handed (Err behind) w = record { text = []; is = refl }

length_handed : (handed : Result Handed Scan) → HandsIn handed → eqb (line_handed handed).length 0 ≡ is_err handed
length_handed (Ok h) w = ap (λ (l : TraceLine). eqb l.length 0) w.is ∙ w.some
length_handed (Err behind) w = refl

module _ (input : List ℕ) (handed : Result Handed Scan) (after : List ℕ) (scan : Scan) (before : List ℕ) (m : NextMeets scan input before handed after) where
  pub handed_written : Written (line_handed handed)
  unfolding NextMeets
  handed_written = text_handed handed (by_phase input handed after scan.phase scan before m)

  -- a length of 0 says that the scan is done, and nothing else does
  pub zero_is_done : eqb (line_handed handed).length 0 ≡ is_err handed
  unfolding NextMeets
  zero_is_done = length_handed handed (by_phase input handed after scan.phase scan before m)

-- in a line's bytes
pub written_fits : (line : TraceLine) → Written line → length line.bytes ≡ line_size → line.length ≤ line_size
written_fits line w whole =
    let bytes = ap (λ (l : TraceLine). length l.bytes) w.is in
    let text = ap (λ (l : TraceLine). l.length) w.is in
    omega (arith, whole, bytes, text, length-append w.text (replicate (line_size - length w.text) 0))
