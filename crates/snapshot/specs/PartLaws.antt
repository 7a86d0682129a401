-- Laws of asking a snapshot for a part, in any form. Assumes nothing.
use Rattle.std.specs.Prelude.{◌≡◌, true, ℕ, ◌≤◌, length}
use Rattle.std.proofs.Math.Path.{refl}
use Rattle.std.specs.Prelude.{Result, Ok, Option, Some, None, ok_or}
use Rattle.refusal.specs.declared.Refusal.{Refusal}
use Rattle.refusal.specs.declared.Refusal.TheVariants as Refusal
use Rattle.peer_settings.specs.declared.config.PeerMessagePolicyConfig.{PeerMessagePolicyConfig}
use mathlib.Core.List.{List}
use Rattle.std.proofs.Common.{arith}
use Rattle.refusal.specs.OneOutcomeLaws.{one_outcome}
use Rattle.snapshot_layout.specs.Layout.{Slot, laid_out, place_of}
use Rattle.snapshot_layout.specs.LayoutLaws.{length_laid}
use Rattle.snapshot_layout.specs.PlaceLaws.{place_within}
use Rattle.snapshot.specs.Form.{Form, form_slots, rows_in}
use Rattle.snapshot.specs.Snapshot.{settings_in, placed, part_of}
use Rattle.snapshot.specs.Snapshot.{kind_place, part_place}
use Rattle.snapshot.specs.JudgeLaws.{read_laid}

-- ════ A part that was asked for ════

-- the place of a part, as the library's word has it
pub placed_ok_or : (x : Option (ℕ × ℕ)) → ok_or x Refusal.WrongLayout ≡ placed x
placed_ok_or (Some (a, e)) = refl
placed_ok_or None = refl

placed_is : (x : Option (ℕ × ℕ)) (a e : ℕ) → placed x ≡ Ok (a, e) → x ≡ Some (a, e)
placed_is (Some (b, d)) a e h = cc
placed_is None a e h = cc

module _ (f : Form) where
  -- where settings were read, the contents tell of the parts
  place_is : (z : List ℕ) (kind : ℕ) (x : Option PeerMessagePolicyConfig) (a e : ℕ) → settings_in f z ≡ x → kind_place f z kind x ≡ Ok (a, e)
      → (laid_out z (form_slots f (rows_in f z)) ≡ true) × (placed (place_of kind (form_slots f (rows_in f z))) ≡ Ok (a, e))
  place_is z kind None a e s h = (cc, cc)
  place_is z kind (Some c) a e s h = (read_laid f z c s, h)

  -- a part stands within the snapshot
  pub part_within : (z : List ℕ) (kind a e : ℕ) → part_place f z kind ≡ Ok (a, e) → (a ≤ e) × (e ≤ length z)
  unfolding part_place
  part_within z kind a e h =
      let slots : List Slot = form_slots f (rows_in f z) in
      let is = place_is z kind (settings_in f z) a e refl h in
      let between = place_within kind slots a e (placed_is (place_of kind slots) a e is.1) in
      (between.order, omega (arith, between.ends, length_laid z slots is.0))

  -- ════ One outcome ════

  -- asking for a kind has one answer
  pub place_one : (z : List ℕ) (kind : ℕ) {r q : Result (ℕ × ℕ) Refusal} → r ≡ part_place f z kind → q ≡ part_place f z kind → r ≡ q
  place_one z kind h k = one_outcome h k

  -- and the part that is handed back is one
  pub part_one : (z : List ℕ) (kind : ℕ) {x y : List ℕ} → x ≡ part_of z (part_place f z kind) → y ≡ part_of z (part_place f z kind) → x ≡ y
  part_one z kind h k = one_outcome h k
