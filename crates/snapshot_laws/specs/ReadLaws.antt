-- What a read that was not refused leaves, in any form: the policy that the snapshot describes, its rows in the table, sound, and the
-- snapshot's own bytes if it is written again. Assumes nothing.
use Rattle.std.specs.Prelude.{◌≡◌, Bool, true, false, cond, take}
use Rattle.std.proofs.Math.Path.{refl, sym, ap}
use Rattle.std.proofs.Common.{◌∙◌, subst, arith, leb-true, length-drop}
use Rattle.std.specs.Prelude.{Result, Ok, Err}
use Rattle.refusal.specs.declared.Refusal.{Refusal}
use Rattle.refusal.specs.declared.Refusal.TheVariants as Refusal
use mathlib.Core.List.{List, ◌∷◌, ◌++◌}
use Prim.Native.Nat.{ℕ, ◌+◌, ◌-◌, ◌*◌, ◌≤◌, max}
use Rattle.std.proofs.Math.Seq.{take_at}
use Rattle.std.proofs.Math.ListN.{length, drop}
use Rattle.truths.specs.TruthLaws.{both_parts}
use Rattle.lent_bytes.specs.LentBytes.{part, zeros, Bytes}
use Rattle.lent_bytes.specs.LentBytesLaws.{length_part, Bytes_part, Bytes_drop}
use Rattle.table.specs.Table.{every, ascending}
use Rattle.table.specs.Memory.{rows, table_bytes, laid, Holds}
use Rattle.table.specs.MemoryLaws.{AllFit, length_rows, length_table_bytes, table_bytes_rows, fit_rows}
use Rattle.table.specs.MemoryLaws as memory
use Rattle.peer_settings.specs.Config.{limit}
use Rattle.peer_rows.specs.Rows.{row_width, Peers, peer_layout, peer_sound}
use Rattle.peer_rows.specs.RowsLaws.{EntryFits, peer_faithful}
use Rattle.peer_message_policy.specs.declared.policy.PeerMessagePolicy.{PeerMessagePolicy}
use Rattle.peer_message_policy.specs.Policy.{rows_of, long_enough, sound, become}
use Rattle.peer_message_policy.specs.Calls.{Meets, refuse}
use Rattle.peer_laws.specs.SoundLaws.{record_holds, holds_policy}
use Rattle.snapshot_layout.specs.Layout.{contents_size, snapshot_of, laid_out, cut_from, cut}
use Rattle.snapshot_layout.specs.LayoutLaws.{accepted_is}
use Rattle.snapshot_settings.specs.Settings.{settings_size, settings_bytes}
use Rattle.snapshot_settings.specs.SettingsLaws.{settings_write_back}
use Rattle.snapshot_settings.specs.Load.{load_size, load_bytes}
use Rattle.snapshot_settings.specs.LoadLaws.{load_write_back}
use Rattle.snapshot.specs.Form.{Form, parts, pieces, total, lengths_of, form_slots, settings_place, load_place, rows_place, FormFits}
use Rattle.snapshot.specs.FormLaws.{form_count, cut_slots}
use Rattle.snapshot.specs.Snapshot.{policy_parts, snapshot_bytes, limit_of, policy_in, restored, read_outcome, ReadMeets}
use Rattle.snapshot.specs.JudgeLaws.{read_laid, read_settings, Describes, policy_describes, describes_length}

-- ════ A read that was not refused ════

module _ (f : Form) where
  -- the snapshot describes the policy, and the table that had room for its limit holds its rows
  pub record Restored (z before : List ℕ) (q : PeerMessagePolicy) (after : List ℕ) : Type 0 where
    pub described : Describes f z q
    pub long : row_width * limit q.config ≤ length before
    pub held : Holds peer_layout before after (limit q.config) (rows_of q (drop (rows_place f) z))

  module _ (z before : List ℕ) (q : PeerMessagePolicy) (after : List ℕ) where
    -- by the table's length
    fitted_is : (p : PeerMessagePolicy) → policy_in f z ≡ Ok p → (b : Bool) → long_enough p.config before ≡ b
        → Meets (Ok q) before after (limit p.config)
        (cond b (record { answer = Ok p; change = become (rows_of p (drop (rows_place f) z)) }) (refuse (Err Refusal.TooShort)))
        → Restored z before q after
    fitted_is p h false l m = let no : (Ok q) ≡ (Err Refusal.TooShort) = m.answers in let z : ◌≡◌ {A = ℕ} 0 1 = cc in absurd (omega arith)
    fitted_is p h true l m =
        let same : (Ok q) ≡ (Ok p) = m.answers in
        let is : p ≡ q = cc in
        subst (λ (x : PeerMessagePolicy). Restored z before x after) is
        (record { described = policy_describes f z p h; long = leb-true (row_width * limit p.config) (length before) l; held = m.leaves })

    -- by what the snapshot holds
    restored_is : (x : Result PeerMessagePolicy Refusal) → policy_in f z ≡ x → Meets (Ok q) before after (limit_of x) (restored f z before x) → Restored z before q after
    restored_is (Err n) h m = let no : (Ok q) ≡ (Err n) = m.answers in let z : ◌≡◌ {A = ℕ} 0 1 = cc in absurd (omega arith)
    restored_is (Ok p) h m = fitted_is p h (long_enough p.config before) refl m

    -- what a read that answers a policy leaves
    pub read_restored : ReadMeets f z before (Ok q) after → Restored z before q after
    unfolding ReadMeets read_outcome
    read_restored m = restored_is (policy_in f z) refl m

    module _ (r : Restored z before q after) where
      -- the rows that are read back are those of the snapshot
      pub restored_rows : rows_of q after ≡ rows_of q (drop (rows_place f) z)
      restored_rows =
          ap (rows peer_layout after) (sym (length_rows peer_layout (drop (rows_place f) z) q.rows)) ∙ r.held.reads

module _ (f : Form) (fits : FormFits f) where
  -- ════ Bytes that describe a policy ════

  module _ (z : List ℕ) (q : PeerMessagePolicy) (s : List ℕ) (b : Bytes z) (d : Describes f z q) (front : take (row_width * q.rows) s ≡ part z (rows_place f) (row_width * q.rows)) where
    laid_here : laid_out z (form_slots f q.rows) ≡ true
    laid_here = ap (λ (n : ℕ). laid_out z (form_slots f n)) d.count ∙ read_laid f z q.config d.settings

    parts_again : policy_parts f q s (pieces z (rows_place f + row_width * q.rows) f.behind) ≡ cut z (form_slots f q.rows)
    unfolding policy_parts cut
    parts_again =
        let whole : length z ≡ rows_place f + row_width * q.rows + total f.behind = describes_length f fits z q d in
        let settings : settings_bytes q.config ≡ part z (settings_place f) settings_size =
        settings_write_back (part z (settings_place f) settings_size) q.config (Bytes_part z (settings_place f) settings_size b)
        (length_part z (settings_place f) settings_size (omega arith)) (read_settings f z q.config d.settings) in
        let load : load_bytes q.ingress ≡ part z (load_place f) load_size =
        load_write_back (part z (load_place f) load_size) q.ingress (Bytes_part z (load_place f) load_size b)
        (length_part z (load_place f) load_size (omega arith)) d.load in
        (λ i. parts f.kinds (settings i ∷ load i ∷ front i ∷ pieces z (rows_place f + row_width * q.rows) f.behind))
        ∙ sym (cut_slots z (settings_place f) f.kinds (lengths_of f q.rows))
        ∙ ap (λ (n : ℕ). cut_from z (contents_size n) (form_slots f q.rows)) (sym (form_count f fits q.rows))

    -- bytes that describe a policy are its snapshot, with the bodies that stand behind the rows
    pub describes_bytes : snapshot_bytes f q s (pieces z (rows_place f + row_width * q.rows) f.behind) ≡ z
    unfolding snapshot_bytes
    describes_bytes = ap snapshot_of parts_again ∙ sym (accepted_is z (form_slots f q.rows) b laid_here)

  -- ════ What a read leaves ════

  module _ (z before : List ℕ) (q : PeerMessagePolicy) (after : List ℕ) (r : Restored f z before q after) where
    rows_inside : row_width * q.rows ≤ length (drop (rows_place f) z)
    rows_inside = simp length-drop (omega (arith, describes_length f fits z q r.described))

    module _ (b : Bytes (drop (rows_place f) z)) where
      rows_fit : AllFit peer_layout EntryFits (rows_of q (drop (rows_place f) z))
      rows_fit = fit_rows peer_faithful (drop (rows_place f) z) q.rows b rows_inside

      -- the table keeps its length
      pub restored_length : length after ≡ length before
      restored_length =
          let few = (record_holds q r.described.own).few in
          ap length r.held.memory
          ∙ memory.length_laid peer_faithful before (limit q.config) (rows_of q (drop (rows_place f) z)) rows_fit r.long
          (omega (arith, few, r.long, length_rows peer_layout (drop (rows_place f) z) q.rows))

      -- the table holds bytes
      pub restored_bytes : Bytes before → Bytes after
      restored_bytes h =
          rw r.held.memory (memory.Bytes_laid peer_faithful before (limit q.config) (rows_of q (drop (rows_place f) z)) rows_fit h)

      -- policy and table are sound
      pub restored_sound : sound q after ≡ true
      restored_sound =
          let c = q.config in
          let w : List ℕ = drop (rows_place f) z in
          let parts = both_parts (every (peer_sound c) (rows_of q w)) (ascending (rows_of q w)) r.described.sound_rows in
          holds_policy q after
          (record {
            own = record_holds q r.described.own;
            long = omega (arith, restored_length, r.long);
            rules = ap (every (peer_sound c)) (restored_rows f z before q after r) ∙ parts.0;
            order = ap (λ (rs : Peers). ascending rs) (restored_rows f z before q after r) ∙ parts.1;
          })

      -- the table begins with the snapshot's rows
      pub restored_front : take (row_width * q.rows) after ≡ part z (rows_place f) (row_width * q.rows)
      unfolding laid part
      restored_front =
          let w : List ℕ = drop (rows_place f) z in
          let rs : Peers = rows_of q w in
          let n : length rs ≡ q.rows = length_rows peer_layout w q.rows in
          ap (take (row_width * q.rows)) r.held.memory
          ∙ take_at (table_bytes peer_layout rs)
          (zeros (row_width * (limit q.config - length rs)) ++ drop (row_width * max (limit q.config) (length rs)) before)
          (row_width * q.rows) (length_table_bytes peer_faithful rs rows_fit ∙ ap (λ (k : ℕ). row_width * k) n)
          ∙ table_bytes_rows peer_faithful w q.rows b rows_inside

    -- the snapshot of the policy that was read, with the bodies that stood behind its rows, is the snapshot that it was read from
    pub bytes_again : Bytes z → snapshot_bytes f q after (pieces z (rows_place f + row_width * q.rows) f.behind) ≡ z
    bytes_again b = describes_bytes z q after b r.described (restored_front (Bytes_drop (rows_place f) z b))
