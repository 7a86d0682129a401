-- Laws of the layout, for any list of parts: a snapshot is laid out as its parts say, its parts are cut out of it again, and bytes that
-- are laid out are the snapshot of their parts. Assumes nothing.
use Rattle.std.specs.Prelude.{◌≡◌, refl, Bool, true, false, ◌&&◌, List, [], ◌∷◌, ◌++◌, ℕ, ◌+◌, ◌*◌, ◌≤◌, ◌<◌, eqb, length, take, drop}
use Rattle.std.proofs.Common.{sym, ap, ◌∙◌, append_assoc, zero-add, arith, eqb-true, eq-eqb, ne_eqb, length-append, take-append-drop, drop_of_length-le, take_at, drop-drop}
use Rattle.std.proofs.Math.Bool.{and-false}
use Rattle.std.proofs.Math.Seq.{take-append_seam, drop-append_seam}
use Rattle.truths.specs.TruthLaws.{both_parts}
use Rattle.lent_bytes.specs.LentBytes.{part, le, bytes, put, Bytes}
use Rattle.lent_bytes.specs.LentBytesLaws.{length_part, part_append, le_bytes_2, put_put_at}
use Rattle.snapshot_layout.specs.Layout.{count_size, slot_size, contents_size, Part, Slot, slots_of, bodies_size, snapshot_size}
use Rattle.snapshot_layout.specs.Layout.{contents_from, contents, bodies, snapshot_of, slot_says, says_from, laid_out, cut_from, cut, SlotsFit}
use Rattle.snapshot_layout.specs.SlotLaws.{past_end, length_contents_from, length_contents, says_end, written_says_all, says_written_all, spelt, one_slot}

-- ════ Lengths ════

-- the bodies take what their slots say
pub length_bodies : (ps : List Part) → length (bodies ps) ≡ bodies_size (slots_of ps)
unfolding bodies
length_bodies [] = refl
length_bodies (p ∷ ps) = length-append p.body (bodies ps) ∙ ap (λ (n : ℕ). length p.body + n) (length_bodies ps)

-- the snapshot takes what its slots say
pub length_snapshot : (ps : List Part) → length (snapshot_of ps) ≡ snapshot_size (slots_of ps)
unfolding snapshot_of
length_snapshot ps =
    length-append (contents (slots_of ps)) (bodies ps) ∙ omega (arith, length_contents (slots_of ps), length_bodies ps)

-- bytes that are laid out take what their slots say
pub length_laid : (s : List ℕ) (qs : List Slot) → laid_out s qs ≡ true → length s ≡ snapshot_size qs
unfolding laid_out
length_laid s qs h =
    says_end s count_size (contents_size (length qs)) qs (both_parts (eqb (le (part s 0 count_size)) (length qs)) _ h).1

-- bytes that are too short for their slots are not laid out
pub too_short_lem : (s : List ℕ) (qs : List Slot) → length s < snapshot_size qs → laid_out s qs ≡ false
unfolding laid_out
too_short_lem s qs h =
    ap (λ (b : Bool). eqb (le (part s 0 count_size)) (length qs) && b) (past_end s count_size (contents_size (length qs)) qs h)
    ∙ and-false (eqb (le (part s 0 count_size)) (length qs))

-- bytes that tell of another number of parts are not laid out
pub other_count : (s : List ℕ) (qs : List Slot) → (le (part s 0 count_size) ≡ length qs → ⊥) → laid_out s qs ≡ false
unfolding laid_out
other_count s qs h = ap (λ (b : Bool). b && says_from s count_size (contents_size (length qs)) qs) (ne_eqb _ _ h)

-- where the number of parts is right, what is told of them decides
pub right_count : (s : List ℕ) (qs : List Slot) → le (part s 0 count_size) ≡ length qs → laid_out s qs ≡ says_from s count_size (contents_size (length qs)) qs
unfolding laid_out
right_count s qs h = ap (λ (b : Bool). b && says_from s count_size (contents_size (length qs)) qs) (eq-eqb _ _ h)

-- ════ A snapshot and its parts ════

-- parts are cut out of their bodies again
cut_bodies : (a : List ℕ) (ps : List Part) → cut_from (a ++ bodies ps) (length a) (slots_of ps) ≡ ps
unfolding cut_from bodies part
cut_bodies a [] = refl
cut_bodies a (p ∷ ps) =
    let body : part (a ++ (p.body ++ bodies ps)) (length a) (length p.body) ≡ p.body =
    ap (take (length p.body)) (drop-append_seam a (p.body ++ bodies ps)) ∙ take-append_seam p.body (bodies ps) in
    let others : cut_from (a ++ (p.body ++ bodies ps)) (length a + length p.body) (slots_of ps) ≡ ps =
    ap (λ (l : List ℕ). cut_from l (length a + length p.body) (slots_of ps)) (sym (append_assoc a p.body (bodies ps)))
    ∙ ap (λ (n : ℕ). cut_from ((a ++ p.body) ++ bodies ps) n (slots_of ps)) (sym (length-append a p.body))
    ∙ cut_bodies (a ++ p.body) ps in
    (λ d. record { kind = p.kind; body = body d } ∷ others d)

-- a snapshot's parts are cut out of it again
pub cut_snapshot : (ps : List Part) → cut (snapshot_of ps) (slots_of ps) ≡ ps
unfolding cut snapshot_of
cut_snapshot ps =
    ap (λ (n : ℕ). cut_from (contents (slots_of ps) ++ bodies ps) n (slots_of ps)) (sym (length_contents (slots_of ps)))
    ∙ cut_bodies (contents (slots_of ps)) ps

-- a snapshot whose numbers are within their fields is laid out as its parts say
pub laid_out_lem : (ps : List Part) → SlotsFit (slots_of ps) → laid_out (snapshot_of ps) (slots_of ps) ≡ true
unfolding snapshot_of contents part
laid_out_lem ps fit =
    let qs : List Slot = slots_of ps in
    let n : ℕ = length qs in
    let told : List ℕ = contents_from (contents_size n) qs in
    let front : part (snapshot_of ps) count_size (slot_size * n) ≡ told = take_at told (bodies ps) (slot_size * n) (length_contents_from (contents_size n) qs) in
    right_count (snapshot_of ps) qs (le_bytes_2 n fit.count)
    ∙ written_says_all (snapshot_of ps) count_size (contents_size n) qs fit.kinds fit.size (length_snapshot ps) front

-- ════ Bytes and the snapshot of their parts ════

-- the parts that were cut out have the kinds and lengths that were asked for
slots_cut_from : (s : List ℕ) (from : ℕ) (qs : List Slot) → from + bodies_size qs ≤ length s → slots_of (cut_from s from qs) ≡ qs
unfolding cut_from
slots_cut_from s from [] h = refl
slots_cut_from s from (q ∷ qs) h =
    let size : length (part s from q.size) ≡ q.size = length_part s from q.size (omega arith) in
    let others : slots_of (cut_from s (from + q.size) qs) ≡ qs = slots_cut_from s (from + q.size) qs (omega arith) in
    (λ d. record { kind = q.kind; size = size d } ∷ others d)

-- the bodies that were cut out are all that stands there
bodies_cut_from : (s : List ℕ) (from : ℕ) (qs : List Slot) → length s ≡ from + bodies_size qs → bodies (cut_from s from qs) ≡ drop from s
unfolding cut_from bodies part
bodies_cut_from s from [] h = let end : length s ≤ from = omega arith in sym (drop_of_length-le s end)
bodies_cut_from s from (q ∷ qs) h =
    ap (λ (l : List ℕ). part s from q.size ++ l) (bodies_cut_from s (from + q.size) qs (omega arith) ∙ sym (drop-drop q.size from s))
    ∙ take-append-drop q.size (drop from s)

-- the parts of bytes that are laid out have the kinds and lengths that they are laid out by
pub slots_cut : (s : List ℕ) (qs : List Slot) → laid_out s qs ≡ true → slots_of (cut s qs) ≡ qs
unfolding cut
slots_cut s qs h = slots_cut_from s (contents_size (length qs)) qs (omega (arith, length_laid s qs h))

-- bytes that are laid out are the snapshot of their parts
pub accepted_is : (s : List ℕ) (qs : List Slot) → Bytes s → laid_out s qs ≡ true → s ≡ snapshot_of (cut s qs)
unfolding laid_out snapshot_of contents cut part
accepted_is s qs b h =
    let n : ℕ = length qs in
    let from : ℕ = contents_size n in
    let halves = both_parts (eqb (le (part s 0 count_size)) n) _ h in
    let end : length s ≡ snapshot_size qs = length_laid s qs h in
    let count : part s 0 count_size ≡ bytes count_size n = spelt s 0 count_size n b (omega arith) (eqb-true _ _ halves.0) in
    let told : part s count_size (slot_size * n) ≡ contents_from from qs = says_written_all s count_size from qs b (omega arith) halves.1 in
    let front : take from s ≡ contents qs = part_append s 0 count_size (slot_size * n) ∙ (λ d. count d ++ told d) in
    let kept : contents (slots_of (cut s qs)) ≡ contents qs = ap contents (slots_cut s qs h) in
    sym (take-append-drop from s)
    ∙ ap (λ (l : List ℕ). l ++ drop from s) (front ∙ sym kept)
    ∙ ap (λ (l : List ℕ). contents (slots_of (cut s qs)) ++ l) (sym (bodies_cut_from s from qs end))

-- ════ One layout ════

-- the same bytes tell of one list of slots, where the number of slots is the same
one_from : (s : List ℕ) (at from : ℕ) (qs rs : List Slot) → length qs ≡ length rs → says_from s at from qs ≡ true → says_from s at from rs ≡ true → qs ≡ rs
unfolding says_from
one_from s at from [] [] n f g = refl
one_from s at from [] (r ∷ rs) n f g = let z : ◌≡◌ {A = ℕ} 0 1 = omega arith in cc
one_from s at from (q ∷ qs) [] n f g = let z : ◌≡◌ {A = ℕ} 0 1 = omega arith in cc
one_from s at from (q ∷ qs) (r ∷ rs) n f g =
    let left = both_parts (slot_says s at from q) _ f in
    let right = both_parts (slot_says s at from r) _ g in
    let first : q ≡ r = one_slot s at from q r left.0 right.0 in
    let others : qs ≡ rs =
    one_from s (at + slot_size) (from + q.size) qs rs (omega arith) left.1
    (ap (λ (t : Slot). says_from s (at + slot_size) (from + t.size) rs) first ∙ right.1) in
    (λ d. first d ∷ others d)

-- bytes are laid out in at most one way
pub one_layout : (s : List ℕ) (qs rs : List Slot) → laid_out s qs ≡ true → laid_out s rs ≡ true → qs ≡ rs
unfolding laid_out
one_layout s qs rs f g =
    let left = both_parts (eqb (le (part s 0 count_size)) (length qs)) _ f in
    let right = both_parts (eqb (le (part s 0 count_size)) (length rs)) _ g in
    let n : length qs ≡ length rs = sym (eqb-true _ _ left.0) ∙ eqb-true _ _ right.0 in
    one_from s count_size (contents_size (length qs)) qs rs n left.1
    (ap (λ (m : ℕ). says_from s count_size (contents_size m) rs) n ∙ right.1)

-- ════ Written ════

-- the contents, and the bodies written behind them, are the snapshot
pub put_snapshot : (s : List ℕ) (ps : List Part) → put (put s 0 (contents (slots_of ps))) (contents_size (length (slots_of ps))) (bodies ps) ≡ put s 0 (snapshot_of ps)
unfolding snapshot_of
put_snapshot s ps =
    let from : ℕ = contents_size (length (slots_of ps)) in
    ap (λ (n : ℕ). put (put s 0 (contents (slots_of ps))) n (bodies ps)) (sym (zero-add from))
    ∙ put_put_at s 0 (contents (slots_of ps)) (bodies ps) from (length_contents (slots_of ps)) (omega arith)
