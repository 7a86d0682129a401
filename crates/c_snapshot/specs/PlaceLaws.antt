-- A kind above 16 bits: no snapshot has one. Assumes nothing.
use Rattle.std.specs.Prelude.{◌≡◌, refl, List, ℕ, ◌<◌}
use Rattle.std.proofs.Common.{ap, arith, ne_eqb}
use Rattle.std.specs.Prelude.{Err, Option, Some, None}
use Rattle.refusal.specs.declared.Refusal.TheVariants as Refusal
use Rattle.peer_settings.specs.declared.config.PeerMessagePolicyConfig.{PeerMessagePolicyConfig}
use Rattle.snapshot_layout.specs.Layout.{place_from, place_of}
use Rattle.snapshot.specs.Form.{first, form_slots, rows_in}
use Rattle.snapshot.specs.Snapshot.{settings_in, placed, kind_place, part_place}

-- the contents tell of kinds 1, 2 and 3 alone
absent : (kind n : ℕ) → 3 < kind → place_of kind (form_slots first n) ≡ None
unfolding place_of place_from
absent kind n h = rw (ne_eqb 1 kind (λ e. omega arith), ne_eqb 2 kind (λ e. omega arith), ne_eqb 3 kind (λ e. omega arith))

kind_refused : (z : List ℕ) (kind : ℕ) (x : Option PeerMessagePolicyConfig) → 3 < kind → kind_place first z kind x ≡ Err Refusal.WrongLayout
kind_refused z kind None h = refl
kind_refused z kind (Some c) h = ap placed (absent kind (rows_in first z) h)

-- asking for such a kind is refused with 6, whatever the bytes
pub large_kind : (z : List ℕ) (kind : ℕ) → 65535 < kind → part_place first z kind ≡ Err Refusal.WrongLayout
unfolding part_place
large_kind z kind h = kind_refused z kind (settings_in first z) (omega arith)
