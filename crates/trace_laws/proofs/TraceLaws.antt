-- The theorem of the scan: `next`, called from `open` on until it is done, over any 30,976 bytes of lent memory, tells exactly the answers
-- that `answers_of` gives for the input, and hands out exactly the lines that `trace_of` gives for it; and it comes to an end. Assumes nothing.
use Rattle.std.specs.Prelude.{◌≡◌, Bool, List, [], ◌∷◌, map, ℕ, length, replicate}
use Rattle.std.proofs.Math.Path.{refl, ap}
use Rattle.std.proofs.Common.{sym, subst, ◌∙◌}
use Rattle.std.proofs.Math.Bool.{true, false, cond}
use native.Mathlib.Omega.{arith}
use borrow.Author.Tests.{ltb-false}
use Rattle.std.proofs.Math.Dec.{ltb}
use Rattle.std.specs.Prelude.{Result, Ok, Err}
use Rattle.lent_bytes.specs.LentBytes.{Bytes}
use Rattle.lent_bytes.specs.LentBytesLaws.{length_zeros, Bytes_zeros}
use Rattle.trace_lines.specs.Lines.{bad_event}
use Rattle.trace.specs.declared.scan.Phase.{Phase}
use Rattle.trace.specs.declared.scan.Scan.{Scan}
use Rattle.trace.specs.declared.scan.Handed.{Handed}
use Rattle.trace.specs.declared.step.Answer.TheVariants as Answer
use Rattle.trace.specs.Scan.{text_of, longest_input, open_of, NextIn, NextMeets}
use Rattle.trace_laws.specs.Trace.{lines_of, LineAnswer, line_answer_of, block_size, unsettled, lines_answers, answers_of, line_text, trace_of, line_answer_by, HandsOut, ends, hands}
use Rattle.trace_laws.specs.Running.{rest_in, answers_from, Lent, RunningIn, Running, Handing, over, more}
use Rattle.trace_laws.specs.Fits.{ScanFits}
use Rattle.trace_laws.proofs.EventsLaws.{hands_last, hands_event}
use Rattle.trace_laws.proofs.SettingsLaws.{hands_settings}

-- ════ A call ════

module _ (input : List ℕ) (scan : Scan) (s : List ℕ) (r : Result Handed Scan) (t : List ℕ) where
  next_in : (phase : Phase) → ScanFits scan → Lent s → RunningIn phase scan input s → NextIn phase scan input s r t → Handing input (rest_in phase scan input s) r t
  next_in Phase.TooLong fits lent here m =
      subst (λ p. Handing input (line_answer_of bad_event (Answer.BadLine 1) p ∷ []) r t) here
      (rw m.0 (hands_last input t scan (Answer.BadLine 1) fits (rw m.1 lent)))
  next_in Phase.Settings fits lent here m = hands_settings scan input s fits lent here r t m
  next_in Phase.Events fits lent here m = hands_event scan input s t fits lent here r m
  next_in Phase.Done fits lent here m = rw m.0 (over scan refl refl)

  -- it tells the first of the answers that are still to come, with its line, and leaves the others; or it is done, and there are none
  pub next_hands : Running scan input s → NextMeets scan input s r t → Handing input (answers_from scan input s) r t
  unfolding NextMeets answers_from
  next_hands running m = next_in scan.phase running.fits running.lent running.here m

-- ════ The first scan ════

module _ (input s : List ℕ) where
  opens_fit : ScanFits (open_of input)
  unfolding open_of
  opens_fit =
      record {
        at = omega arith;
        number = omega arith;
        policy =
            record {
              config =
                  record {
                    interval = omega arith;
                    burst = omega arith;
                    rate = omega arith;
                    burst_bytes = omega arith;
                    threshold = omega arith;
                    duration = omega arith;
                    tracked = omega arith;
                    messages = omega arith;
                    bytes = omega arith;
                  };
              load = record { messages = omega arith; bytes = omega arith };
              rows = omega arith;
            };
      }

  opens : Bytes s → length s ≡ block_size → Running (open_of input) input s
  unfolding open_of
  opens bytes block =
      record {
        fits = opens_fit;
        lent = record { holds_bytes = bytes; block = block };
        here = go (ltb longest_input (length input)) refl;
      }
    where
      go : (long : Bool) → ltb longest_input (length input) ≡ long
          → RunningIn (cond long Phase.TooLong Phase.Settings) (open_of input) input s
      go true e = refl
      go false e = record { first_place = refl; first_line_lem = refl; no_policy_lem = refl; short = ltb-false longest_input (length input) e }

  opens_answers : answers_from (open_of input) input s ≡ answers_of input
  unfolding answers_from open_of answers_of
  opens_answers = go (ltb longest_input (length input))
    where
      go : (long : Bool)
          → rest_in (cond long Phase.TooLong Phase.Settings) (open_of input) input s
          ≡ cond long (unsettled (Answer.BadLine 1)) (lines_answers (lines_of input))
      go true = refl
      go false = refl

-- ════ All calls ════

module _ (input : List ℕ) where
  -- what was told is what was still to come, and each line spells what was told with it
  hands_from : {scan : Scan} {s : List ℕ} {answers : List LineAnswer} {lines : List (List ℕ)} → HandsOut input scan s answers lines
      → Running scan input s → (answers ≡ answers_from scan input s) × (lines ≡ map line_text answers)
  hands_from (ends scan s behind t m) here = go (next_hands input scan s (Err behind) t here m)
    where
      go : Handing input (answers_from scan input s) (Err behind) t → ([] ≡ answers_from scan input s) × (◌≡◌ {A = List (List ℕ)} [] [])
      go (over other e none) = (sym none, refl)
      go (more h e first spelled next) = let z : ◌≡◌ {A = ℕ} 0 1 = cc in absurd (omega arith)
  hands_from (hands scan s r t answers lines m rest) here = go (λ next. hands_from rest next) (next_hands input scan s (Ok r) t here m)
    where
      go : (Running r.scan input t → (answers ≡ answers_from r.scan input t) × (lines ≡ map line_text answers))
          → Handing input (answers_from scan input s) (Ok r) t
          → (line_answer_by r ∷ answers ≡ answers_from scan input s) × (text_of r.line ∷ lines ≡ line_text (line_answer_by r) ∷ map line_text answers)
      go from (over other e none) = let z : ◌≡◌ {A = ℕ} 0 1 = cc in absurd (omega arith)
      go from (more h e first spelled next) =
          let same : h ≡ r = cc in
          let (told, written) = from (subst (λ x. Running x.scan input t) same next) in
          let first' : answers_from scan input s ≡ line_answer_by r ∷ answers_from r.scan input t =
          subst (λ x. answers_from scan input s ≡ line_answer_by x ∷ answers_from x.scan input t) same first in
          let spelled' : text_of r.line ≡ line_text (line_answer_by r) = subst (λ x. text_of x.line ≡ line_text (line_answer_by x)) same spelled in
          (ap (λ xs. line_answer_by r ∷ xs) told ∙ sym first', rw (spelled', written))

  -- whatever answers every call as the contract says
  abbrev Answers : Type 0
  Answers =
      (scan : Scan) (m : List ℕ) → ScanFits scan → Bytes m → length m ≡ block_size → (r : Result Handed Scan) × (t : List ℕ) × NextMeets scan input m r t

  empty_is_not_more : {x : LineAnswer} {xs : List LineAnswer} → [] ≡ x ∷ xs → ⊥
  empty_is_not_more h = let z : ◌≡◌ {A = ℕ} 0 1 = cc in omega arith

  -- it tells what is still to come, one by one
  ends_from : Answers → (answers : List LineAnswer) (scan : Scan) (s : List ℕ) → Running scan input s → answers_from scan input s ≡ answers
      → HandsOut input scan s answers (map line_text answers)
  ends_from answer [] scan s here e =
      let (r, t, m) = answer scan s here.fits here.lent.holds_bytes here.lent.block in
      go r t m (next_hands input scan s r t here m)
    where
      go : (r : Result Handed Scan) (t : List ℕ) → NextMeets scan input s r t → Handing input (answers_from scan input s) r t → HandsOut input scan s [] []
      go r t m (over behind done none) = ends scan s behind t (subst (λ x. NextMeets scan input s x t) done m)
      go r t m (more h goes first spelled next) = absurd (empty_is_not_more (sym e ∙ first))
  ends_from answer (x ∷ xs) scan s here e =
      let (r, t, m) = answer scan s here.fits here.lent.holds_bytes here.lent.block in
      go r t m (λ h next f. ends_from answer xs h.scan t next f) (next_hands input scan s r t here m)
    where
      go : (r : Result Handed Scan) (t : List ℕ) → NextMeets scan input s r t
          → ((h : Handed) → Running h.scan input t → answers_from h.scan input t ≡ xs → HandsOut input h.scan t xs (map line_text xs))
          → Handing input (answers_from scan input s) r t → HandsOut input scan s (x ∷ xs) (line_text x ∷ map line_text xs)
      go r t m from (over behind done none) = absurd (empty_is_not_more (sym none ∙ e))
      go r t m from (more h goes first spelled next) =
          let parts : line_answer_by h ∷ answers_from h.scan input t ≡ x ∷ xs = sym first ∙ e in
          let head : line_answer_by h ≡ x = cc parts in
          let tail : answers_from h.scan input t ≡ xs = cc parts in
          subst (λ y. HandsOut input scan s (y ∷ xs) (line_text y ∷ map line_text xs)) head
          (subst (λ text. HandsOut input scan s (line_answer_by h ∷ xs) (text ∷ map line_text xs)) spelled
          (hands scan s h t xs (map line_text xs) (subst (λ y. NextMeets scan input s y t) goes m) (from h next tail)))

-- ════ The theorems ════

module _ (input s : List ℕ) (answers : List LineAnswer) (lines : List (List ℕ)) (bytes : Bytes s) (block : length s ≡ block_size)
    (out : HandsOut input (open_of input) s answers lines) where
  -- over any 30,976 bytes, what is told from the first scan on is what `answers_of` gives
  pub tells : answers ≡ answers_of input
  tells = (hands_from input out (opens input s bytes block)).0 ∙ opens_answers input s

  -- and what is handed out is what `trace_of` gives
  pub hands_out : lines ≡ trace_of input
  unfolding trace_of
  hands_out = (hands_from input out (opens input s bytes block)).1 ∙ ap (map line_text) tells

-- over 30,976 zeroed ones too
pub hands_out_zeroed : (input : List ℕ) (answers : List LineAnswer) (lines : List (List ℕ))
    → HandsOut input (open_of input) (replicate block_size 0) answers lines → lines ≡ trace_of input
hands_out_zeroed input answers lines out =
    hands_out input (replicate block_size 0) answers lines (Bytes_zeros block_size) (length_zeros block_size) out

-- whatever answers every call on arguments that the machine can give as the contract says comes to an end, and has then told what
-- `answers_of` gives and handed out what `trace_of` gives
pub comes_to_an_end : (input s : List ℕ) → Bytes s → length s ≡ block_size
    → ((scan : Scan) (m : List ℕ) → ScanFits scan → Bytes m → length m ≡ block_size → (r : Result Handed Scan) × (t : List ℕ) × NextMeets scan input m r t)
    → HandsOut input (open_of input) s (answers_of input) (trace_of input)
unfolding trace_of
comes_to_an_end input s bytes block answer =
    ends_from input answer (answers_of input) (open_of input) s (opens input s bytes block) (opens_answers input s)
