-- Laws of where a part stands: within the snapshot, and what stands there is the part's body; and the places of both forms of the
-- peers' snapshot. Assumes nothing.
use Rattle.std.specs.Prelude.{◌≡◌, refl, Bool, true, false, cond, List, [], ◌∷◌, ℕ, ◌+◌, ◌-◌, eqb, length}
use Rattle.std.proofs.Common.{ap, ◌∙◌, arith}
use Rattle.std.specs.Prelude.{Option, Some, None}
use Rattle.std.proofs.lemmas.Option.{some_pair_parts}
use Rattle.truths.specs.TruthLaws.{either}
use Rattle.lent_bytes.specs.LentBytes.{part}
use Rattle.snapshot_layout.specs.Layout.{contents_size, Part, Slot, slots, slots_of, bodies_size, snapshot_size, snapshot_of, cut_from, cut, body_of}
use Rattle.snapshot_layout.specs.Layout.{place_from, place_of, Between}
use Rattle.snapshot_layout.specs.LayoutLaws.{cut_snapshot}

-- a body that is found stands between where the bodies begin and where they end
within_from : (kind from : ℕ) (qs : List Slot) (a e : ℕ) → place_from kind from qs ≡ Some (a, e) → Between from a e (from + bodies_size qs)
unfolding place_from
within_from kind from [] a e = λ h. let z : ◌≡◌ {A = ℕ} 0 1 = cc in record { begins = omega arith; ends = omega arith; order = omega arith }
within_from kind from (q ∷ qs) a e =
    either (λ (p : Option (ℕ × ℕ)). p ≡ Some (a, e) → Between from a e (from + (q.size + bodies_size qs))) (eqb q.kind kind)
    (λ h. let f = some_pair_parts from a (from + q.size) e h in record { begins = omega arith; ends = omega arith; order = omega arith })
    (λ h. let r = within_from kind (from + q.size) qs a e h in record { begins = omega arith; ends = omega arith; order = omega arith })

-- a part that is found stands behind the contents, within the snapshot
pub place_within : (kind : ℕ) (qs : List Slot) (a e : ℕ) → place_of kind qs ≡ Some (a, e) → Between (contents_size (length qs)) a e (snapshot_size qs)
unfolding place_of
place_within kind qs a e h = within_from kind (contents_size (length qs)) qs a e h

-- the part at that place is the body
body_from : (s : List ℕ) (kind from : ℕ) (qs : List Slot) (a e : ℕ) → place_from kind from qs ≡ Some (a, e) → part s a (e - a) ≡ body_of kind (cut_from s from qs)
unfolding place_from body_of cut_from
body_from s kind from [] a e = λ h. cc
body_from s kind from (q ∷ qs) a e = body_step (eqb q.kind kind) (body_from s kind (from + q.size) qs a e)
  where
    body_step : {later : List ℕ} (b : Bool) → (place_from kind (from + q.size) qs ≡ Some (a, e) → part s a (e - a) ≡ later)
        → cond b (Some (from, (from + q.size))) (place_from kind (from + q.size) qs) ≡ Some (a, e)
        → part s a (e - a) ≡ cond b (part s from q.size) later
    body_step true rest h =
        let f = some_pair_parts from a (from + q.size) e h in
        let n : e - a ≡ q.size = omega arith in
        rw (n, ← f.0)
    body_step false rest h = rest h

-- what stands where a part is found is its body
pub place_body : (s : List ℕ) (kind : ℕ) (qs : List Slot) (a e : ℕ) → place_of kind qs ≡ Some (a, e) → part s a (e - a) ≡ body_of kind (cut s qs)
unfolding place_of cut
place_body s kind qs a e h = body_from s kind (contents_size (length qs)) qs a e h

-- so it is in a snapshot
pub place_snapshot : (kind : ℕ) (ps : List Part) (a e : ℕ) → place_of kind (slots_of ps) ≡ Some (a, e) → part (snapshot_of ps) a (e - a) ≡ body_of kind ps
place_snapshot kind ps a e h = place_body (snapshot_of ps) kind (slots_of ps) a e h ∙ ap (body_of kind) (cut_snapshot ps)

-- ════ The forms of the peers' snapshot: a further kind is a further element ════

-- the first: kinds 1, 2 and 3, the rows last
pub first_form : (n : ℕ) → place_of 3 (slots (1 ∷ 2 ∷ 3 ∷ []) (72 ∷ 16 ∷ n ∷ [])) ≡ Some (120, (120 + n))
unfolding place_of place_from
first_form n = refl

-- a kind that it hasn't
pub first_form_has_no_fourth : (n : ℕ) → place_of 4 (slots (1 ∷ 2 ∷ 3 ∷ []) (72 ∷ 16 ∷ n ∷ [])) ≡ None
unfolding place_of place_from
first_form_has_no_fourth n = refl

-- a second, with a kind 4 behind the rows: all bodies stand ten bytes further on
pub second_form : (n : ℕ) → place_of 4 (slots (1 ∷ 2 ∷ 3 ∷ 4 ∷ []) (72 ∷ 16 ∷ n ∷ 16 ∷ [])) ≡ Some ((130 + n), (130 + n + 16))
unfolding place_of place_from
second_form n = refl
