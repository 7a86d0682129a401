-- What stands in a snapshot that was written, in any form that fits: the layout is right, and settings, load, rows and what stands behind
-- them are those that were written. Assumes nothing.
use Rattle.std.specs.Prelude.{◌≡◌, Bool, true, ◌&&◌, List, ◌++◌, ℕ, ◌+◌, ◌*◌, take, drop}
use Rattle.std.proofs.Math.Path.{sym, ap}
use Rattle.std.proofs.Common.{◌∙◌, subst, arith, drop-drop}
use Rattle.std.proofs.Math.Bool.{cond}
use Rattle.std.proofs.Math.Seq.{take_at, drop_at}
use Rattle.std.proofs.Math.ListN.{length}
use Rattle.std.specs.Prelude.{Ok, None}
use Rattle.truths.specs.TruthLaws.{both}
use Rattle.lent_bytes.specs.LentBytes.{part}
use Rattle.table.specs.Table.{every, ascending}
use Rattle.table.specs.MemoryLaws.{rows_front}
use Rattle.peer_rows.specs.Rows.{row_width, Peers, peer_layout, peer_sound}
use Rattle.peer_message_policy.specs.declared.policy.PeerMessagePolicy.{PeerMessagePolicy}
use Rattle.peer_message_policy.specs.Policy.{rows_of, sound}
use Rattle.peer_laws.specs.SoundLaws.{policy_holds, holds_record}
use Rattle.peer_laws.specs.Fits.{PolicyFits}
use Rattle.snapshot_layout.specs.Layout.{contents_size, slots_of, snapshot_size, contents, bodies, snapshot_of, laid_out, SlotsFit}
use Rattle.snapshot_layout.specs.SlotLaws.{length_contents}
use Rattle.snapshot_layout.specs.LayoutLaws.{length_snapshot, laid_out_lem}
use Rattle.snapshot_settings.specs.Settings.{settings_size, settings_bytes, settings_of}
use Rattle.snapshot_settings.specs.SettingsLaws.{length_settings_bytes, settings_read_back}
use Rattle.snapshot_settings.specs.Load.{load_size, load_bytes, load_of}
use Rattle.snapshot_settings.specs.LoadLaws.{length_load_bytes, load_read_back}
use Rattle.snapshot.specs.Form.{Form, sizes, joined, pieces, form_slots, settings_place, load_place, rows_place, rows_in, FormFits}
use Rattle.snapshot.specs.FormLaws.{form_count, form_size, form_slots_fit, form_bodies, pieces_joined}
use Rattle.snapshot.specs.Snapshot.{policy_parts, snapshot_bytes, snapshot_length, settings_in, policy_in}
use Rattle.snapshot.specs.WriteLaws.{sound_rows, rows_length, slots_parts}
use Rattle.snapshot.specs.JudgeLaws.{Describes, describes_policy}

module _ (f : Form) (fits : FormFits f) (p : PeerMessagePolicy) (s : List ℕ) (h : sound p s ≡ true) (behind : List (List ℕ)) (e : sizes behind ≡ f.behind) where
  -- the snapshot
  abbrev z : List ℕ
  z = snapshot_bytes f p s behind

  slots_here : slots_of (policy_parts f p s behind) ≡ form_slots f p.rows
  slots_here = slots_parts p s (sound_rows p s h).1 f behind e

  -- it takes what its rows say
  pub written_length : length (snapshot_bytes f p s behind) ≡ snapshot_length f p
  unfolding snapshot_bytes
  written_length = length_snapshot (policy_parts f p s behind) ∙ ap snapshot_size slots_here

  -- its rows are counted by its length
  pub written_count : rows_in f (snapshot_bytes f p s behind) ≡ p.rows
  written_count = omega (arith, written_length, form_size f fits 0, form_size f fits p.rows)

  -- it is laid out in its form
  pub written_laid : laid_out (snapshot_bytes f p s behind) (form_slots f (rows_in f (snapshot_bytes f p s behind))) ≡ true
  unfolding snapshot_bytes
  written_laid =
      ap (λ (n : ℕ). laid_out z (form_slots f n)) written_count
      ∙ ap (laid_out z) (sym slots_here)
      ∙ laid_out_lem (policy_parts f p s behind) (subst SlotsFit (sym slots_here) (form_slots_fit f fits p.rows (sound_rows p s h).0))

  -- ════ The bodies ════

  -- all of them stand behind the contents
  written_bodies : drop (settings_place f) z ≡ settings_bytes p.config ++ (load_bytes p.ingress ++ (take (row_width * p.rows) s ++ joined behind))
  unfolding snapshot_bytes snapshot_of policy_parts
  written_bodies =
      let size : length (contents (slots_of (policy_parts f p s behind))) ≡ settings_place f =
      length_contents (slots_of (policy_parts f p s behind)) ∙ ap contents_size (ap length slots_here ∙ form_count f fits p.rows) in
      drop_at (contents (slots_of (policy_parts f p s behind))) (bodies (policy_parts f p s behind)) (settings_place f) size
      ∙ form_bodies f fits (settings_bytes p.config) (load_bytes p.ingress) (take (row_width * p.rows) s) behind e

  -- the settings stand in their place
  pub written_settings : part (snapshot_bytes f p s behind) (settings_place f) settings_size ≡ settings_bytes p.config
  unfolding part
  written_settings = ap (take settings_size) written_bodies ∙ take_at (settings_bytes p.config) _ settings_size (length_settings_bytes p.config)

  behind_settings : drop (load_place f) z ≡ load_bytes p.ingress ++ (take (row_width * p.rows) s ++ joined behind)
  behind_settings =
      sym (drop-drop settings_size (settings_place f) z)
      ∙ ap (drop settings_size) written_bodies
      ∙ drop_at (settings_bytes p.config) _ settings_size (length_settings_bytes p.config)

  -- so does the load
  pub written_load : part (snapshot_bytes f p s behind) (load_place f) load_size ≡ load_bytes p.ingress
  unfolding part
  written_load = ap (take load_size) behind_settings ∙ take_at (load_bytes p.ingress) _ load_size (length_load_bytes p.ingress)

  -- the rows' bytes stand in front of what stands behind them
  pub written_tail : drop (rows_place f) (snapshot_bytes f p s behind) ≡ take (row_width * p.rows) s ++ joined behind
  written_tail =
      sym (drop-drop load_size (load_place f) z)
      ∙ ap (drop load_size) behind_settings
      ∙ drop_at (load_bytes p.ingress) _ load_size (length_load_bytes p.ingress)

  rows_here : length (take (row_width * p.rows) s) ≡ row_width * p.rows
  rows_here = rows_length p s (sound_rows p s h).1

  -- so the rows are the policy's
  pub written_rows : rows_of p (drop (rows_place f) (snapshot_bytes f p s behind)) ≡ rows_of p s
  written_rows =
      ap (rows_of p) written_tail
      ∙ sym (rows_front peer_layout (take (row_width * p.rows) s ++ joined behind) p.rows)
      ∙ ap (rows_of p) (take_at (take (row_width * p.rows) s) (joined behind) (row_width * p.rows) rows_here)
      ∙ rows_front peer_layout s p.rows

  -- and the bodies behind them are those that were written
  pub written_behind : pieces (snapshot_bytes f p s behind) (rows_place f + row_width * p.rows) f.behind ≡ behind
  written_behind =
      ap (pieces z (rows_place f + row_width * p.rows)) (sym e)
      ∙ pieces_joined z (rows_place f + row_width * p.rows) behind
      (sym (drop-drop (row_width * p.rows) (rows_place f) z)
      ∙ ap (drop (row_width * p.rows)) written_tail
      ∙ drop_at (take (row_width * p.rows) s) (joined behind) (row_width * p.rows) rows_here)

  -- ════ The policy ════

  module _ (numbers : PolicyFits p) where
    -- the snapshot describes the policy
    pub written_describes : Describes f (snapshot_bytes f p s behind) p
    unfolding settings_in
    written_describes =
        let holds = policy_holds p s h in
        record {
          settings =
              ap (λ (b : Bool). cond b (settings_of (part z (settings_place f) settings_size)) None) written_laid
              ∙ ap settings_of written_settings
              ∙ settings_read_back p.config numbers.config;
          tracked = holds.own.tracked;
          load = ap load_of written_load ∙ load_read_back p.ingress numbers.load.messages numbers.load.bytes;
          count = sym written_count;
          own = holds_record p holds.own;
          sound_rows =
              ap (λ (rs : Peers). every (peer_sound p.config) rs && ascending rs) written_rows ∙ both holds.rules holds.order;
        }

    -- so it is judged to hold it
    pub written_policy : policy_in f (snapshot_bytes f p s behind) ≡ Ok p
    written_policy = describes_policy f z p written_describes
