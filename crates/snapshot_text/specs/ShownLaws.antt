-- The theorem of the show: `next`, called from what `open` answers on until it is done, hands out exactly the lines that `shown_lines`
-- gives for the input, and it comes to an end; the table that is lent to `open` has room for every limit. Assumes nothing.
use Rattle.std.specs.Prelude.{◌≡◌, Bool, cond, ltb, length}
use Rattle.std.proofs.Math.Path.{refl, ap, subst}
use Rattle.std.proofs.Common.{sym, ◌∙◌, le-leb, lt-ltb, eq-eqb, ne_eqb}
use Rattle.std.proofs.Math.Bool.{true, false}
use Rattle.std.specs.Prelude.{Result, Ok, Err, Some, None}
use Rattle.refusal.specs.declared.Refusal.{Refusal}
use Rattle.refusal.specs.declared.Refusal.TheVariants as Refusal
use mathlib.Core.List.{List, [], ◌∷◌, ◌++◌, map, flatten}
use Prim.Native.Nat.{ℕ, zero, suc, ◌+◌, ◌*◌, ◌≤◌, ◌<◌}
use native.Mathlib.Omega.{arith}
use Rattle.std.proofs.Math.Seq.{drop-drop}
use Rattle.std.proofs.Math.ListN.{drop}
use Rattle.lent_bytes.specs.LentBytes.{part}
use Rattle.refusal.specs.Refusal.{number_of}
use Rattle.table.specs.Memory.{rows}
use Rattle.table.specs.MemoryLaws.{key_row_of}
use Rattle.peer_settings.specs.Config.{limit}
use Rattle.peer_rows.specs.Rows.{key_width, row_width, peer_layout, row_from}
use Rattle.peer_rows.specs.RowsLaws.{peer_faithful}
use Rattle.peer_message_policy.specs.declared.policy.PeerMessagePolicy.{PeerMessagePolicy}
use Rattle.peer_message_policy.specs.Policy.{rows_of}
use Rattle.snapshot.specs.Form.{first, rows_place, rows_in}
use Rattle.snapshot.specs.Snapshot.{was_read, layout_right, policy_in, restored, read_outcome, ReadMeets}
use Rattle.snapshot.specs.JudgeLaws.{Describes, policy_describes}
use Rattle.snapshot_reader.specs.Reader.{step_at}
use Rattle.snapshot_reader.specs.ReaderLaws.{place_of_row, walk_row, walk_done}
use Rattle.text_pieces.specs.Text.{refusal_text}
use Rattle.snapshot_text.specs.declared.scan.Scan.{Scan}
use Rattle.snapshot_text.specs.declared.scan.Handed.{Handed}
use Rattle.snapshot_text.specs.Shown.{field_text_of, fields_of, field_line, row_text, row_line, rows_shown, policy_shown, made_shown, longest_snapshot, made_of, shown_lines, shown_text, line_of}
use Rattle.snapshot_text.specs.Scan.{
  begun,
  OpenBy,
  OpenMeets,
  row_handed,
  numbers,
  policy_next,
  refused_next,
  next_of,
  text_of,
  HandsOut,
  ends,
  hands,
}
use Rattle.snapshot_text.specs.LineLaws.{text_of_line}

-- ════ One run ════

module _ (z : List ℕ) where
  -- what is handed out from a scan on is determined
  hands_one : {scan : Scan} {xs ys : List (List ℕ)} → HandsOut z scan xs → HandsOut z scan ys → xs ≡ ys
  hands_one (ends e) (ends f) = refl
  hands_one (ends e) (hands f v) = let no : ◌≡◌ {A = ℕ} 0 1 = cc in absurd (omega arith)
  hands_one (hands e w) (ends f) = let no : ◌≡◌ {A = ℕ} 0 1 = cc in absurd (omega arith)
  hands_one (hands {r = r} {others = xs} e w) (hands {r = q} {others = ys} f v) =
      let same : q ≡ r = cc in
      let rest : xs ≡ ys = hands_one w (subst (λ (s : Scan). HandsOut z s ys) (ap (λ (h : Handed). h.scan) same) v) in
      (λ i. text_of (sym same i).line ∷ rest i)

  -- a call that hands out a text
  hands_next : {scan behind : Scan} {text : List ℕ} {others : List (List ℕ)}
      → next_of scan z ≡ Some (record { line = line_of text; scan = behind }) → HandsOut z behind others → HandsOut z scan (text ∷ others)
  hands_next {scan} {behind} {text} {others} e w =
      subst (λ (t : List ℕ). HandsOut z scan (t ∷ others)) (text_of_line text) (hands e w)

  -- ════ A refusal ════

  refused_shown : (n : Refusal) → HandsOut z (begun (Err n)) (refusal_text (number_of n) ∷ [])
  unfolding next_of refused_next
  refused_shown n =
      let behind : Scan = record { made = Err n; line = 1; at = rows_place first } in
      hands_next {behind = behind} {text = refusal_text (number_of n)} refl (ends {scan = behind} refl)

  -- ════ A policy's numbers ════

  module _ (p : PeerMessagePolicy) where
    -- the scan before this line, and at this row
    abbrev before_line : ℕ → Scan
    before_line k = record { made = Ok p; line = k; at = rows_place first }

    abbrev at_row : ℕ → Scan
    at_row k = record { made = Ok p; line = numbers + 1; at = place_of_row k }

    number_shown : (k : ℕ) → k < numbers → {others : List (List ℕ)} → HandsOut z (before_line (k + 1)) others
        → HandsOut z (before_line k) (field_line p k ∷ others)
    unfolding next_of policy_next
    number_shown k h w = hands_next (rw (lt-ltb k numbers h)) w

    numbers_shown : {others : List (List ℕ)} → HandsOut z (before_line numbers) others
        → HandsOut z (before_line 0) (map field_text_of (fields_of p) ++ others)
    unfolding fields_of
    numbers_shown w =
        number_shown 0 (omega arith) (number_shown 1 (omega arith) (number_shown 2 (omega arith) (number_shown 3 (omega arith)
        (number_shown 4 (omega arith) (number_shown 5 (omega arith) (number_shown 6 (omega arith) (number_shown 7 (omega arith)
        (number_shown 8 (omega arith) (number_shown 9 (omega arith) (number_shown 10 (omega arith) (number_shown 11 (omega arith) w)))))))))))

    -- ════ Its rows ════

    module _ (right : layout_right first z ≡ true) where
      -- the step of a row hands out its line, and behind the last row there is none
      rows_shown_lem : (m k : ℕ) → k + m ≡ rows_in first z → HandsOut z (at_row k) (map row_line (rows peer_layout (drop (place_of_row k) z) m))
      unfolding next_of policy_next row_handed rows part
      rows_shown_lem zero k e =
          let here : k ≡ rows_in first z = omega arith in
          let step : step_at z (place_of_row k) ≡ _ = ap (λ (n : ℕ). step_at z (place_of_row n)) here ∙ walk_done z right in
          ends (ap (row_handed (at_row k)) step)
      rows_shown_lem (suc m) k e =
          let at : ℕ = place_of_row k in
          let step = walk_row z right k (omega arith) in
          let next : at + row_width ≡ place_of_row (k + 1) = omega arith in
          let behind : drop row_width (drop at z) ≡ drop (place_of_row (k + 1)) z = drop-drop row_width at z ∙ ap (λ (n : ℕ). drop n z) next in
          let key : (row_from z at).key ≡ part z at key_width = key_row_of peer_faithful z at in
          subst (λ (l : List (List ℕ)). HandsOut z (at_row k) l)
          (λ i. row_text (sym key i) (row_from z at).entry ∷ map row_line (rows peer_layout (sym behind i) m))
          (hands_next (ap (row_handed (at_row k)) step) (rows_shown_lem m (k + 1) (omega arith)))

      -- the head, where there are rows
      table_shown : (n : ℕ) → p.rows ≡ n → n ≡ rows_in first z → HandsOut z (before_line numbers) (rows_shown (rows peer_layout (drop (rows_place first) z) n))
      unfolding next_of policy_next rows
      table_shown zero e count = ends (rw (eq-eqb p.rows 0 e))
      table_shown (suc m) e count =
          hands_next (rw (ne_eqb p.rows 0 (λ (none : p.rows ≡ 0). omega arith))) (rows_shown_lem (suc m) 0 (omega arith))

    policy_shown_lem : Describes first z p → HandsOut z (begun (Ok p)) (policy_shown p (rows_of p (drop (rows_place first) z)))
    policy_shown_lem d = numbers_shown (table_shown (ap was_read d.settings) p.rows refl d.count)

  -- ════ An input ════

  judged : (b : Bool) (n : Refusal) (x : Result PeerMessagePolicy Refusal) {p : PeerMessagePolicy} → cond b (Err n) x ≡ Ok p → x ≡ Ok p
  judged true n x h = cc
  judged false n x h = h

  made_shown_lem : (m : Result PeerMessagePolicy Refusal) → made_of z ≡ m → HandsOut z (begun m) (made_shown z m)
  unfolding made_of
  made_shown_lem (Ok p) e =
      policy_shown_lem p (policy_describes first z p (judged (ltb longest_snapshot (length z)) Refusal.WrongLayout (policy_in first z) e))
  made_shown_lem (Err n) e = refused_shown n

  input_shown : HandsOut z (begun (made_of z)) (shown_lines z)
  unfolding shown_lines
  input_shown = made_shown_lem (made_of z) refl

-- ════ What was opened ════

module _ (z before : List ℕ) (long : 123904 ≤ length before) where
  -- in a table with room for every limit, reading answers what the snapshot was judged to be
  read_judged : (m : Result PeerMessagePolicy Refusal) → policy_in first z ≡ m → (restored first z before m).answer ≡ m
  read_judged (Ok p) e =
      let d : Describes first z p = policy_describes first z p e in
      let room : row_width * limit p.config ≤ length before = omega (arith, d.tracked) in
      rw (le-leb (row_width * limit p.config) (length before) room)
  read_judged (Err n) e = refl

  opened_made : (r : Scan) (after : List ℕ) → OpenMeets z before r after → r ≡ begun (made_of z)
  unfolding OpenMeets made_of ReadMeets read_outcome
  opened_made r after m = go (ltb longest_snapshot (length z)) m
    where
      go : (b : Bool) → OpenBy b z before r after → r ≡ begun (cond b (Err Refusal.WrongLayout) (policy_in first z))
      go true h = h.0
      go false (made, e, reads) = e ∙ ap begun (reads.answers ∙ read_judged (policy_in first z) refl)

  -- ════ The theorems ════

  module _ (r : Scan) (after : List ℕ) (opened : OpenMeets z before r after) where
    -- `next` comes to an end, and has then handed out what `shown_lines` gives
    pub shows : HandsOut z r (shown_lines z)
    shows = subst (λ (s : Scan). HandsOut z s (shown_lines z)) (sym (opened_made r after opened)) (input_shown z)

    -- and nothing else
    pub shows_only : (lines : List (List ℕ)) → HandsOut z r lines → lines ≡ shown_lines z
    shows_only lines out = hands_one z out shows

    -- the lines that were handed out, one behind the other, are the text
    pub shows_text : (lines : List (List ℕ)) → HandsOut z r lines → flatten lines ≡ shown_text z
    unfolding shown_text
    shows_text lines out = ap flatten (shows_only lines out)
