-- Laws of the forms: how many parts they have, how long their snapshots are, and how parts, bodies and bytes come from one another. They
-- hold of any form that fits, so that a further form is a further element and no further proof. Assumes nothing.
use Prim.{tt}
use Rattle.std.specs.Prelude.{◌≡◌, refl, List, [], ◌∷◌, ◌++◌, ℕ, ◌+◌, ◌*◌, ◌≤◌, length, take, drop}
use Rattle.std.proofs.Common.{sym, ap, ◌∙◌, arith, drop-drop}
use Rattle.std.proofs.Math.Seq.{take-append_seam, drop-append_seam}
use Rattle.lent_bytes.specs.LentBytes.{part}
use Rattle.snapshot_layout.specs.Layout.{Part, Slot, slots, slots_of, bodies_size, snapshot_size, bodies, cut_from, KindsFit, SlotsFit}
use Rattle.snapshot_layout.specs.SlotLaws.{length_slots}
use Rattle.peer_rows.specs.Rows.{row_width}
use Rattle.snapshot.specs.Form.{Form, first, parts, sizes, joined, pieces, total, lengths_of, form_slots, rows_place, FormFits}

-- ════ Kinds and lengths ════

-- the bodies take what the lengths come to
size_slots : (ks ns : List ℕ) → length ns ≡ length ks → bodies_size (slots ks ns) ≡ total ns
size_slots [] [] h = refl
size_slots [] (n ∷ ns) h = omega arith
size_slots (k ∷ ks) [] h = refl
size_slots (k ∷ ks) (n ∷ ns) h = ap (λ (m : ℕ). n + m) (size_slots ks ns (omega arith))

-- whether kinds fit does not depend on the rows' length
kinds_still : (a b n m : ℕ) (ks ns : List ℕ) → KindsFit (slots ks (a ∷ b ∷ n ∷ ns)) → KindsFit (slots ks (a ∷ b ∷ m ∷ ns))
kinds_still a b n m [] ns h = h
kinds_still a b n m (x ∷ []) ns h = h
kinds_still a b n m (x ∷ y ∷ []) ns h = h
kinds_still a b n m (x ∷ y ∷ z ∷ ks) ns h = h

module _ (f : Form) (fits : FormFits f) where
  lengths_count : (n : ℕ) → length (lengths_of f n) ≡ length f.kinds
  lengths_count n = omega (arith, fits.count)

  -- as many slots as kinds
  pub form_count : (n : ℕ) → length (form_slots f n) ≡ length f.kinds
  form_count n = length_slots f.kinds (lengths_of f n) (lengths_count n)

  -- how long a snapshot with n rows is
  pub form_size : (n : ℕ) → snapshot_size (form_slots f n) ≡ rows_place f + row_width * n + total f.behind
  form_size n = omega (arith, form_count n, size_slots f.kinds (lengths_of f n) (lengths_count n))

  -- all that the contents tell of a policy's rows is within its field
  pub form_slots_fit : (n : ℕ) → n ≤ 1024 → SlotsFit (form_slots f n)
  form_slots_fit n h =
      record {
        count = omega (arith, form_count n, form_count 1024, fits.numbers.count);
        kinds = kinds_still 72 16 (row_width * 1024) (row_width * n) f.kinds f.behind fits.numbers.kinds;
        size = omega (arith, form_size n, form_size 1024, fits.numbers.size);
      }

-- ════ Parts, bodies and bytes ════

-- as many lengths as bodies
length_sizes : (bs : List (List ℕ)) → length (sizes bs) ≡ length bs
length_sizes [] = refl
length_sizes (b ∷ bs) = omega (arith, length_sizes bs)

-- parts have their kinds and the lengths of their bodies
pub slots_of_parts : (ks : List ℕ) (bs : List (List ℕ)) → slots_of (parts ks bs) ≡ slots ks (sizes bs)
slots_of_parts [] bs = refl
slots_of_parts (k ∷ ks) [] = refl
slots_of_parts (k ∷ ks) (b ∷ bs) = ap (λ (qs : List Slot). record { kind = k; size = length b } ∷ qs) (slots_of_parts ks bs)

bodies_by_kinds : (ks : List ℕ) (bs : List (List ℕ)) → length bs ≡ length ks → bodies (parts ks bs) ≡ joined bs
unfolding bodies
bodies_by_kinds [] [] h = refl
bodies_by_kinds [] (b ∷ bs) h = absurd (omega arith)
bodies_by_kinds (k ∷ ks) [] h = refl
bodies_by_kinds (k ∷ ks) (b ∷ bs) h = ap (λ (l : List ℕ). b ++ l) (bodies_by_kinds ks bs (omega arith))

-- the bodies of a form's parts, one after another
pub form_bodies : (f : Form) → FormFits f → (a b c : List ℕ) (behind : List (List ℕ)) → sizes behind ≡ f.behind
    → bodies (parts f.kinds (a ∷ b ∷ c ∷ behind)) ≡ a ++ (b ++ (c ++ joined behind))
form_bodies f fits a b c behind e =
    bodies_by_kinds f.kinds (a ∷ b ∷ c ∷ behind) (omega (arith, fits.count, length_sizes behind, ap length e))

-- parts that are cut out have the pieces as their bodies
pub cut_slots : (z : List ℕ) (from : ℕ) (ks ns : List ℕ) → cut_from z from (slots ks ns) ≡ parts ks (pieces z from ns)
unfolding cut_from
cut_slots z from [] ns = refl
cut_slots z from (k ∷ ks) [] = refl
cut_slots z from (k ∷ ks) (n ∷ ns) = ap (λ (ps : List Part). record { kind = k; body = part z from n } ∷ ps) (cut_slots z (from + n) ks ns)

-- bodies that stand one after another from a place on are the pieces there
pub pieces_joined : (z : List ℕ) (from : ℕ) (bs : List (List ℕ)) → drop from z ≡ joined bs → pieces z from (sizes bs) ≡ bs
unfolding part
pieces_joined z from [] h = refl
pieces_joined z from (b ∷ bs) h =
    let body : part z from (length b) ≡ b = ap (take (length b)) h ∙ take-append_seam b (joined bs) in
    let others : pieces z (from + length b) (sizes bs) ≡ bs =
    pieces_joined z (from + length b) bs (sym (drop-drop (length b) from z) ∙ ap (drop (length b)) h ∙ drop-append_seam b (joined bs)) in
    (λ d. body d ∷ others d)

-- ════ Forms that fit ════

-- the first
pub first_fits : FormFits first
first_fits =
    record {
      count = refl;
      numbers = record { count = omega arith; kinds = (omega arith, (omega arith, (omega arith, tt))); size = omega arith };
    }

-- for example, a form with a fourth kind of 16 bytes behind the rows
abbrev further : Form
further = record { kinds = 1 ∷ 2 ∷ 3 ∷ 4 ∷ []; behind = 16 ∷ [] }

further_fits : FormFits further
further_fits =
    record {
      count = refl;
      numbers =
          record { count = omega arith; kinds = (omega arith, (omega arith, (omega arith, (omega arith, tt)))); size = omega arith };
    }

-- its snapshots would take at most 124,050 bytes
further_size : snapshot_size (form_slots further 1024) ≡ 124050
further_size = refl
