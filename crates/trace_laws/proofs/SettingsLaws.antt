-- Laws of `next` at the settings line: where the settings are bad or refused it tells the answer that says so, the only one to come;
-- else it goes on with the first event's line, over a fresh policy. Assumes nothing.
use Rattle.std.specs.Prelude.{◌≡◌, Bool, cond, List, [], ◌∷◌, ℕ, suc, ◌+◌, ◌*◌, leb, ltb, length, drop}
use Rattle.std.proofs.Math.Path.{refl, ap, subst}
use Rattle.std.proofs.Common.{sym, ◌∙◌, arith, leb-true, leb-false, le-leb}
use Rattle.std.proofs.Math.Bool.{true, false}
use Rattle.std.specs.Prelude.{Option, Some, None}
use Rattle.std.proofs.lemmas.Bool.{lt-leb}
use Rattle.std.specs.Prelude.{Result, Ok, Err}
use Rattle.refusal.specs.declared.Refusal.{Refusal}
use Rattle.truths.specs.TruthLaws.{by_test}
use Rattle.table.specs.Memory.{rows}
use Rattle.peer_settings.specs.declared.config.PeerMessagePolicyConfig.{PeerMessagePolicyConfig}
use Rattle.peer_settings.specs.Config.{limit}
use Rattle.peer_settings.specs.Fits.{ConfigFits}
use Rattle.peer_message_policy.specs.Policy.{rows_of, long_enough, become}
use Rattle.peer_message_policy.specs.Calls.{Memory, Meets, refuse, fresh, new_outcome, NewMeets}
use Rattle.peer_laws.specs.CallLaws.{Fresh, new_fresh}
use Rattle.peer_message_policy.specs.declared.policy.PeerMessagePolicy.{PeerMessagePolicy}
use Rattle.trace_lines.specs.Lines.{settings_of, bad_event}
use Rattle.trace.specs.declared.step.Stop.{Stop}
use Rattle.trace.specs.declared.scan.Scan.{Scan}
use Rattle.trace.specs.declared.scan.Handed.{Handed}
use Rattle.trace.specs.declared.step.Answer.{Answer}
use Rattle.trace.specs.Step.{mapped}
use Rattle.trace.specs.Scan.{
  first_line,
  following,
  last,
  EventsMeets,
  made_settled,
  settle_outcome,
  places,
  SettleMeets,
  settled_scan,
  SettledMeets,
  SettingsBy,
  SettingsMeets,
}
use Rattle.trace_laws.specs.Trace.{InputLine, lines_of, events_of, block_places, block_size, line_answer_of, unsettled, settled_of, lines_answers}
use Rattle.trace_laws.specs.Running.{Lent, Starting, Reading, Handing}
use Rattle.trace_laws.specs.Fits.{LoadFits, ScanFits}
use Rattle.trace_laws.specs.FitsLaws.{SettingsFit, settings_fit}
use Rattle.trace_laws.specs.LinesLaws.{lines_at_end, lines_at_unended, lines_at_whole, behind_within}
use Rattle.trace_laws.proofs.EventsLaws.{hands_last, following_more, hands_event}

-- ════ The settings line is missing ════

-- an input with no newline is bad at line 1, be it empty or not
answers_unended : (input : List ℕ) (at : ℕ) → first_line (drop at input) ≡ None
    → lines_answers (lines_of (drop at input)) ≡ unsettled (Answer.BadLine 1)
answers_unended input at first =
    by_test (leb (length input) at)
    (λ ends. ap lines_answers (lines_at_end input at (leb-true (length input) at ends)))
    (λ goes. ap lines_answers (lines_at_unended input at (leb-false (length input) at goes) first))

-- ════ A fresh policy ════

-- it has no rows
fresh_rows : (c : PeerMessagePolicyConfig) (s : List ℕ) → rows_of (fresh c) s ≡ []
unfolding rows
fresh_rows c s = refl

-- the block is long enough for its places, and for no more
block_fits : (c : PeerMessagePolicyConfig) (s : List ℕ) → length s ≡ block_size → long_enough c s ≡ leb (limit c) block_places
block_fits c s block =
    by_test (leb (limit c) block_places)
    (λ e. le-leb (121 * limit c) (length s) (omega (arith, leb-true (limit c) block_places e)) ∙ sym e)
    (λ e. lt-leb (121 * limit c) (length s) (omega (arith, leb-false (limit c) block_places e)) ∙ sym e)

-- what making it gives, over such memory
new_in_block : (c : PeerMessagePolicyConfig) (s : List ℕ) → length s ≡ block_size
    → new_outcome c s
    ≡ cond (ltb 1024 c.max_tracked_peers) (refuse (Err Refusal.LimitTooLarge))
    (cond (leb (limit c) block_places) (record { answer = Ok (fresh c); change = become [] }) (refuse (Err Refusal.TooShort)))
unfolding new_outcome
new_in_block c s block = rw (block_fits c s block)

-- ════ A call at the settings line ════

module _ (scan : Scan) (input s : List ℕ) (fits : ScanFits scan) (lent : Lent s) (here : Starting scan input) (r : Result Handed Scan) (t : List ℕ) where
  -- an answer that is no event's, while there is no policy
  hands_unsettled : (a : Answer) → r ≡ Ok (last scan a) → t ≡ s → Handing input (unsettled a) r t
  hands_unsettled a e stays =
      subst (λ p. Handing input (line_answer_of bad_event a p ∷ []) r t) here.no_policy_lem (rw e (hands_last input t scan a fits (rw stays lent)))

  hands_bad : r ≡ Ok (last scan (Answer.BadLine scan.number)) → t ≡ s → Handing input (unsettled (Answer.BadLine 1)) r t
  hands_bad e stays = hands_unsettled (Answer.BadLine 1) (e ∙ ap (λ n. Ok (last scan (Answer.BadLine n))) here.first_line_lem) stays

  module _ (line : List ℕ) (first : first_line (drop scan.at input) ≡ Some line) (middle : List ℕ) where
    -- the lines behind the settings line
    abbrev behind : List InputLine
    behind = lines_of (drop (scan.at + length line + 1) input)

    -- good settings: the first event's line
    hands_fresh : (c : PeerMessagePolicyConfig) → ConfigFits c → Fresh c s (fresh c) middle → EventsMeets (settled_scan scan line (fresh c)) input middle r t
        → Handing input (events_of 2 (fresh c) [] behind) r t
    hands_fresh c config made m =
        let counts : following scan.number ≡ 2 = following_more scan.number (omega (arith, here.first_line_lem)) ∙ ap suc here.first_line_lem in
        let reading : Reading (settled_scan scan line (fresh c)) input middle =
        record {
          is_sound = made.is_sound;
          short = here.short;
          inside = behind_within input scan.at line first;
          counted = omega (arith, counts);
        }
        in
        let load : LoadFits (fresh c).ingress = record { messages = omega arith; bytes = omega arith } in
        let settled : ScanFits (settled_scan scan line (fresh c)) =
        record {
          at = omega (arith, reading.inside, here.short);
          number = omega (arith, counts);
          policy = record { config = config; load = load; rows = omega arith };
        }
        in
        let left : Lent middle =
        record { holds_bytes = made.holds_bytes lent.holds_bytes; block = made.same_length ∙ lent.block }
        in
        subst (λ n. Handing input (events_of n (fresh c) [] behind) r t) counts
        (subst (λ qs. Handing input (events_of (following scan.number) (fresh c) qs behind) r t) (fresh_rows c middle)
        (hands_event (settled_scan scan line (fresh c)) input middle t settled left reading r m))

    -- a refusal: the answer that says so
    hands_refused : (n : Refusal) (a : Result PeerMessagePolicy Stop) → a ≡ Err (Stop.Refused n) → middle ≡ s → SettledMeets scan line a input middle r t
        → Handing input (unsettled (Answer.Refused n)) r t
    hands_refused n a e stays told =
        let (says, leaves) = subst (λ x. SettledMeets scan line x input middle r t) e told in
        hands_unsettled (Answer.Refused n) says (leaves ∙ stays)

    -- a policy that is made, or refused, by the two tests of its settings
    hands_made : (c : PeerMessagePolicyConfig) → ConfigFits c → (a : Result PeerMessagePolicy Stop) (many enough : Bool)
        → new_outcome c s
        ≡ cond many (refuse (Err Refusal.LimitTooLarge))
        (cond enough (record { answer = Ok (fresh c); change = become [] }) (refuse (Err Refusal.TooShort)))
        → Meets a s middle (limit c) (mapped made_settled (new_outcome c s)) → SettledMeets scan line a input middle r t
        → Handing input (cond many (unsettled (Answer.Refused Refusal.LimitTooLarge)) (cond enough (events_of 2 (fresh c) [] behind) (unsettled (Answer.Refused Refusal.TooShort)))) r t
    unfolding NewMeets
    hands_made c config a true enough e m told =
        hands_refused Refusal.LimitTooLarge a (m.answers ∙ ap (λ o. made_settled o.answer) e)
        (subst (λ o. Memory s middle (limit c) o.change) e m.leaves) told
    hands_made c config a false true e m told =
        let memory : Memory s middle (limit c) (become []) = subst (λ o. Memory s middle (limit c) o.change) e m.leaves in
        let meets : NewMeets c s (Ok (fresh c)) middle = rw e (record { answers = refl; leaves = memory }) in
        let is_fresh : a ≡ Ok (fresh c) = m.answers ∙ ap (λ o. made_settled o.answer) e in
        hands_fresh c config (new_fresh c s middle (fresh c) meets) (subst (λ x. SettledMeets scan line x input middle r t) is_fresh told)
    hands_made c config a false false e m told =
        hands_refused Refusal.TooShort a (m.answers ∙ ap (λ o. made_settled o.answer) e)
        (subst (λ o. Memory s middle (limit c) o.change) e m.leaves) told

    hands_settled : (c : Option PeerMessagePolicyConfig) → SettingsFit c → (a : Result PeerMessagePolicy Stop) → Meets a s middle (places c) (settle_outcome c scan.number s) → SettledMeets scan line a input middle r t
        → Handing input (settled_of c behind) r t
    hands_settled None config a m told =
        let (says, leaves) = subst (λ x. SettledMeets scan line x input middle r t) m.answers told in
        hands_bad says (leaves ∙ m.leaves)
    hands_settled (Some c) config a m told =
        hands_made c config a (ltb 1024 c.max_tracked_peers) (leb (limit c) block_places) (new_in_block c s lent.block) m told

  hands_first : (line : Option (List ℕ)) → first_line (drop scan.at input) ≡ line → SettingsBy scan line input s r t
      → Handing input (lines_answers (lines_of (drop scan.at input))) r t
  unfolding SettleMeets
  hands_first None first told = rw (answers_unended input scan.at first) (hands_bad told.0 told.1)
  hands_first (Some line) first told =
      rw (lines_at_whole input scan.at line first) (hands_settled line first told.1 (settings_of line) (settings_fit line) told.0 told.2 told.3)

  pub hands_settings : SettingsMeets scan input s r t → Handing input (lines_answers (lines_of (drop scan.at input))) r t
  unfolding SettingsMeets
  hands_settings m = hands_first (first_line (drop scan.at input)) refl m
