-- Laws of writing a snapshot: what the call leaves, and the bytes part by part, in any form. Assumes nothing.
use Rattle.std.specs.Prelude.{◌≡◌, true, false, ℕ, ◌+◌, ◌*◌, ◌≤◌, ◌<◌, length}
use Rattle.std.proofs.Common.{sym, ◌∙◌, arith, length-append, length-take}
use Rattle.std.proofs.Math.Path.{ap}
use Rattle.std.specs.Prelude.{Result, Ok, Err}
use Rattle.refusal.specs.declared.Refusal.{Refusal}
use Rattle.refusal.specs.declared.Refusal.TheVariants as Refusal
use mathlib.Core.List.{List, [], ◌∷◌, ◌++◌, append_assoc, append-nil}
use borrow.Author.Tests.{le-leb, lt-leb}
use Rattle.std.proofs.Math.ListN.{take}
use Rattle.lent_bytes.specs.LentBytes.{put}
use Rattle.lent_bytes.specs.LentBytesLaws.{put_put_at}
use Rattle.peer_message_policy.specs.declared.policy.PeerMessagePolicy.{PeerMessagePolicy}
use Rattle.peer_message_policy.specs.Policy.{sound}
use Rattle.peer_laws.specs.SoundLaws.{policy_holds}
use Rattle.snapshot_layout.specs.Layout.{contents_size, Part, Slot, slots, slots_of, contents, bodies}
use Rattle.snapshot_layout.specs.LayoutLaws.{put_snapshot}
use Rattle.snapshot_settings.specs.Settings.{settings_size, settings_bytes}
use Rattle.snapshot_settings.specs.SettingsLaws.{length_settings_bytes}
use Rattle.snapshot_settings.specs.Load.{load_size, load_bytes}
use Rattle.snapshot_settings.specs.LoadLaws.{length_load_bytes}
use Rattle.peer_rows.specs.Rows.{row_width}
use Rattle.snapshot.specs.Form.{Form, first, sizes, form_slots, settings_place, load_place, rows_place, FormFits}
use Rattle.snapshot.specs.FormLaws.{form_count, slots_of_parts}
use Rattle.snapshot.specs.Snapshot.{policy_parts, snapshot_bytes, snapshot_length, write_outcome, WriteMeets}

-- ════ What writing leaves ════

-- a sound policy has at most 1,024 rows, and they stand in its memory
pub sound_rows : (p : PeerMessagePolicy) (s : List ℕ) → sound p s ≡ true → (p.rows ≤ 1024) × (row_width * p.rows ≤ length s)
sound_rows p s h =
    let holds = policy_holds p s h in
    (omega (arith, holds.own.tracked, holds.own.few), omega (arith, holds.own.few, holds.long))

module _ (p : PeerMessagePolicy) (s out : List ℕ) where
  -- an unsound policy or table
  pub write_unsound : sound p s ≡ false → WriteMeets p s out (Err Refusal.Unsound) out
  unfolding write_outcome
  write_unsound h = record { answers = rw h; leaves = rw h }

  module _ (h : sound p s ≡ true) where
    -- an output that is too short
    pub write_short : length out < snapshot_length first p → WriteMeets p s out (Err Refusal.TooShort) out
    unfolding write_outcome
    write_short l = let short = lt-leb (snapshot_length first p) (length out) l in record { answers = rw (h, short); leaves = rw (h, short) }

    -- an output that is long enough
    pub write_done : snapshot_length first p ≤ length out → (n : ℕ) → n ≡ snapshot_length first p → (t : List ℕ) → t ≡ put out 0 (snapshot_bytes first p s [])
        → WriteMeets p s out (Ok n) t
    unfolding write_outcome
    write_done l n m t e =
        let long = le-leb (snapshot_length first p) (length out) l in
        record { answers = ap Ok m ∙ rw (h, long); leaves = e ∙ rw (h, long) }

-- ════ Written ════

module _ (p : PeerMessagePolicy) (s : List ℕ) (inside : row_width * p.rows ≤ length s) where
  -- the rows take their bytes
  pub rows_length : length (take (row_width * p.rows) s) ≡ row_width * p.rows
  rows_length = simp length-take (omega arith)

  -- the parts have the form's kinds and lengths
  pub slots_parts : (f : Form) (behind : List (List ℕ)) → sizes behind ≡ f.behind → slots_of (policy_parts f p s behind) ≡ form_slots f p.rows
  unfolding policy_parts
  slots_parts f behind e =
      slots_of_parts f.kinds (settings_bytes p.config ∷ load_bytes p.ingress ∷ take (row_width * p.rows) s ∷ behind)
      ∙ (λ d. slots f.kinds (length_settings_bytes p.config d ∷ length_load_bytes p.ingress d ∷ rows_length d ∷ e d))

  front_length : length (settings_bytes p.config ++ load_bytes p.ingress) ≡ settings_size + load_size
  front_length =
      length-append (settings_bytes p.config) (load_bytes p.ingress)
      ∙ omega (arith, length_settings_bytes p.config, length_load_bytes p.ingress)

  -- settings, load and rows, written one behind the other
  put_front : (f : Form) (out : List ℕ) → settings_place f ≤ length out
      → put (put (put out (settings_place f) (settings_bytes p.config)) (load_place f) (load_bytes p.ingress)) (rows_place f) (take (row_width * p.rows) s)
      ≡ put out (settings_place f) (settings_bytes p.config ++ (load_bytes p.ingress ++ take (row_width * p.rows) s))
  put_front f out h =
      let a : List ℕ = settings_bytes p.config in
      let b : List ℕ = load_bytes p.ingress in
      let c : List ℕ = take (row_width * p.rows) s in
      let place : rows_place f ≡ settings_place f + (settings_size + load_size) = omega arith in
      ap (λ (l : List ℕ). put l (rows_place f) c) (put_put_at out (settings_place f) a b settings_size (length_settings_bytes p.config) h)
      ∙ ap (λ (at : ℕ). put (put out (settings_place f) (a ++ b)) at c) place
      ∙ put_put_at out (settings_place f) (a ++ b) c (settings_size + load_size) front_length h
      ∙ ap (put out (settings_place f)) (append_assoc a b c)

  -- in the first form they are all the bodies
  pub put_parts : (out : List ℕ) → settings_place first ≤ length out
      → put (put (put out (settings_place first) (settings_bytes p.config)) (load_place first) (load_bytes p.ingress)) (rows_place first) (take (row_width * p.rows) s)
      ≡ put out (settings_place first) (bodies (policy_parts first p s []))
  unfolding policy_parts bodies
  put_parts out h =
      put_front first out h
      ∙ ap (λ (l : List ℕ). put out (settings_place first) (settings_bytes p.config ++ (load_bytes p.ingress ++ l))) (sym (append-nil (take (row_width * p.rows) s)))

  -- contents and bodies are the snapshot
  pub put_whole : (f : Form) → FormFits f → (behind : List (List ℕ)) → sizes behind ≡ f.behind → (out : List ℕ)
      → put (put out 0 (contents (form_slots f p.rows))) (settings_place f) (bodies (policy_parts f p s behind)) ≡ put out 0 (snapshot_bytes f p s behind)
  unfolding snapshot_bytes
  put_whole f fits behind e out =
      let ps : List Part = policy_parts f p s behind in
      ap (λ (n : ℕ). put (put out 0 (contents (form_slots f p.rows))) (contents_size n) (bodies ps)) (sym (form_count f fits p.rows))
      ∙ ap (λ (l : List Slot). put (put out 0 (contents l)) (contents_size (length l)) (bodies ps)) (sym (slots_parts f behind e))
      ∙ put_snapshot out ps

-- ════ One outcome ════

-- write has one answer and leaves one output
pub write_one : (p : PeerMessagePolicy) (s before : List ℕ) {r q : Result ℕ Refusal} {x y : List ℕ} → WriteMeets p s before r x → WriteMeets p s before q y
    → (r ≡ q) × (x ≡ y)
write_one p s before h k = (h.answers ∙ sym k.answers, h.leaves ∙ sym k.leaves)
