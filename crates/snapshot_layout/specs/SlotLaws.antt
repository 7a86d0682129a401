-- Laws of the contents: their lengths, one slot written and read, and slots taken from the lists of kinds and lengths. Assumes nothing.
use Prim.{tt}
use Rattle.std.specs.Prelude.{◌≡◌, refl, Bool, true, false, ◌&&◌, List, [], ◌∷◌, ◌++◌, ℕ, zero, suc, ◌+◌, ◌-◌, ◌*◌, ◌^◌, ◌≤◌, ◌<◌, eqb, length, take, drop, get_or}
use Rattle.std.proofs.Common.{sym, ap, ◌∙◌, arith, eqb-true, eq-eqb, ne_eqb, length-append, take_at, drop_at, drop-cons}
use Rattle.std.proofs.Math.Bool.{and-false}
use Rattle.truths.specs.TruthLaws.{both_parts}
use Rattle.lent_bytes.specs.LentBytes.{part, le, bytes, Bytes}
use Rattle.lent_bytes.specs.LentBytesLaws.{length_part, part_part, part_append, take_part, drop_part, bytes_le, le_bytes_2, le_bytes_4, Bytes_part}
use Rattle.snapshot_layout.specs.Layout.{kind_size, number_size, slot_size, contents_size, Slot, slots, bodies_size}
use Rattle.snapshot_layout.specs.Layout.{slot_bytes, contents_from, contents, slot_says, says_from, KindsFit}

-- ════ Lengths ════

-- what the contents tell of one part
pub length_slot_bytes : (from : ℕ) (q : Slot) → length (slot_bytes from q) ≡ slot_size
unfolding slot_bytes
length_slot_bytes from q = refl

-- what they tell of some
pub length_contents_from : (from : ℕ) (qs : List Slot) → length (contents_from from qs) ≡ slot_size * length qs
unfolding contents_from
length_contents_from from [] = refl
length_contents_from from (q ∷ qs) =
    length-append (slot_bytes from q) (contents_from (from + q.size) qs)
    ∙ omega (arith, length_slot_bytes from q, length_contents_from (from + q.size) qs)

-- the contents
pub length_contents : (qs : List Slot) → length (contents qs) ≡ contents_size (length qs)
unfolding contents
length_contents qs = omega (arith, length_contents_from (contents_size (length qs)) qs)

-- ════ One slot ════

-- the bytes of a slot tell what was written, where the numbers are within their fields
pub written_says_lem : (s : List ℕ) (at from : ℕ) (q : Slot) → part s at slot_size ≡ slot_bytes from q → q.kind < 2 ^ 16 → from < 2 ^ 32 → q.size < 2 ^ 32
    → slot_says s at from q ≡ true
unfolding slot_says slot_bytes part
written_says_lem s at from q e k f n =
    let kind : part s at kind_size ≡ bytes kind_size q.kind = sym (take_part s at slot_size kind_size (omega arith)) ∙ ap (take kind_size) e in
    let place : part s (at + kind_size) number_size ≡ bytes number_size from =
    sym (part_part s at slot_size kind_size number_size (omega arith)) ∙ ap (λ (l : List ℕ). part l kind_size number_size) e in
    let third : at + kind_size + number_size ≡ at + 6 = omega arith in
    let size : part s (at + kind_size + number_size) number_size ≡ bytes number_size q.size =
    ap (λ (m : ℕ). part s m number_size) third ∙ sym (part_part s at slot_size 6 number_size (omega arith)) ∙ ap (λ (l : List ℕ). part l 6 number_size) e in
    ap (λ (b : Bool). b && (eqb (le (part s (at + kind_size) number_size)) from && eqb (le (part s (at + kind_size + number_size) number_size)) q.size))
    (eq-eqb _ _ (ap le kind ∙ le_bytes_2 q.kind k))
    ∙ ap (λ (b : Bool). b && eqb (le (part s (at + kind_size + number_size) number_size)) q.size) (eq-eqb _ _ (ap le place ∙ le_bytes_4 from f))
    ∙ eq-eqb _ _ (ap le size ∙ le_bytes_4 q.size n)

-- bytes that spell a number are its bytes
pub spelt : (s : List ℕ) (at n v : ℕ) → Bytes s → at + n ≤ length s → le (part s at n) ≡ v → part s at n ≡ bytes n v
spelt s at n v b h e =
    sym (bytes_le (part s at n) (Bytes_part s at n b))
    ∙ ap (λ (m : ℕ). bytes m (le (part s at n))) (length_part s at n h) ∙ ap (bytes n) e

-- bytes that tell this of a part are the slot's bytes
pub says_written : (s : List ℕ) (at from : ℕ) (q : Slot) → Bytes s → at + slot_size ≤ length s → slot_says s at from q ≡ true → part s at slot_size ≡ slot_bytes from q
unfolding slot_says slot_bytes
says_written s at from q b h e =
    let halves = both_parts (eqb (le (part s at kind_size)) q.kind) _ e in
    let rest = both_parts (eqb (le (part s (at + kind_size) number_size)) from) _ halves.1 in
    let kind : part s at kind_size ≡ bytes kind_size q.kind = spelt s at kind_size q.kind b (omega arith) (eqb-true _ _ halves.0) in
    let place : part s (at + kind_size) number_size ≡ bytes number_size from =
    spelt s (at + kind_size) number_size from b (omega arith) (eqb-true _ _ rest.0) in
    let size : part s (at + kind_size + number_size) number_size ≡ bytes number_size q.size =
    spelt s (at + kind_size + number_size) number_size q.size b (omega arith) (eqb-true _ _ rest.1) in
    part_append s at kind_size (number_size + number_size)
    ∙ ap (λ (l : List ℕ). part s at kind_size ++ l) (part_append s (at + kind_size) number_size number_size)
    ∙ (λ d. kind d ++ (place d ++ size d))

-- the same bytes tell of one slot
pub one_slot : (s : List ℕ) (at from : ℕ) (q r : Slot) → slot_says s at from q ≡ true → slot_says s at from r ≡ true → q ≡ r
unfolding slot_says
one_slot s at from q r f g =
    let left = both_parts (eqb (le (part s at kind_size)) q.kind) _ f in
    let right = both_parts (eqb (le (part s at kind_size)) r.kind) _ g in
    let kind : q.kind ≡ r.kind = sym (eqb-true _ _ left.0) ∙ eqb-true _ _ right.0 in
    let size : q.size ≡ r.size =
    sym (eqb-true _ _ (both_parts (eqb (le (part s (at + kind_size) number_size)) from) _ left.1).1)
    ∙ eqb-true _ _ (both_parts (eqb (le (part s (at + kind_size) number_size)) from) _ right.1).1 in
    (λ d. record { kind = kind d; size = size d })

-- ════ Many slots ════

-- the first slot's bytes, and those of the others
pub contents_head : (s : List ℕ) (at from : ℕ) (q : Slot) (qs : List Slot) → part s at (slot_size * suc (length qs)) ≡ contents_from from (q ∷ qs)
    → (part s at slot_size ≡ slot_bytes from q) × (part s (at + slot_size) (slot_size * length qs) ≡ contents_from (from + q.size) qs)
unfolding contents_from
contents_head s at from q qs e =
    let n : ℕ = slot_size * suc (length qs) in
    let rest : n - slot_size ≡ slot_size * length qs = omega arith in (
      sym (take_part s at n slot_size (omega arith)) ∙ ap (take slot_size) e ∙ take_at (slot_bytes from q) _ slot_size (length_slot_bytes from q),
      ap (part s (at + slot_size)) (sym rest) ∙ sym (drop_part s at n slot_size (omega arith)) ∙ ap (drop slot_size) e
          ∙ drop_at (slot_bytes from q) _ slot_size (length_slot_bytes from q),
    )

-- bytes where the bodies end behind the last byte are not laid out
pub past_end : (s : List ℕ) (at from : ℕ) (qs : List Slot) → length s < from + bodies_size qs → says_from s at from qs ≡ false
unfolding says_from
past_end s at from [] h = ne_eqb (length s) from (λ e. omega arith)
past_end s at from (q ∷ qs) h =
    ap (λ (b : Bool). slot_says s at from q && b) (past_end s (at + slot_size) (from + q.size) qs (omega arith)) ∙ and-false (slot_says s at from q)

-- what is told ends at the last byte
pub says_end : (s : List ℕ) (at from : ℕ) (qs : List Slot) → says_from s at from qs ≡ true → length s ≡ from + bodies_size qs
unfolding says_from
says_end s at from [] h = omega (arith, eqb-true (length s) from h)
says_end s at from (q ∷ qs) h =
    omega (arith, says_end s (at + slot_size) (from + q.size) qs (both_parts (slot_says s at from q) _ h).1)

-- written contents tell of every part
pub written_says_all : (s : List ℕ) (at from : ℕ) (qs : List Slot) → KindsFit qs → from + bodies_size qs < 2 ^ 32 → length s ≡ from + bodies_size qs
    → part s at (slot_size * length qs) ≡ contents_from from qs → says_from s at from qs ≡ true
unfolding says_from
written_says_all s at from [] k f n e = eq-eqb (length s) from (omega arith)
written_says_all s at from (q ∷ qs) k f n e =
    let parts = contents_head s at from q qs e in
    ap (λ (b : Bool). b && says_from s (at + slot_size) (from + q.size) qs) (written_says_lem s at from q parts.0 k.0 (omega arith) (omega arith))
    ∙ written_says_all s (at + slot_size) (from + q.size) qs k.1 (omega arith) (omega arith) parts.1

-- bytes that tell of every part are the contents' bytes
pub says_written_all : (s : List ℕ) (at from : ℕ) (qs : List Slot) → Bytes s → at + slot_size * length qs ≤ length s → says_from s at from qs ≡ true
    → part s at (slot_size * length qs) ≡ contents_from from qs
unfolding says_from contents_from part
says_written_all s at from [] b h e = refl
says_written_all s at from (q ∷ qs) b h e =
    let halves = both_parts (slot_says s at from q) _ e in
    let n : slot_size * suc (length qs) ≡ slot_size + slot_size * length qs = omega arith in
    let first : part s at slot_size ≡ slot_bytes from q = says_written s at from q b (omega arith) halves.0 in
    let others : part s (at + slot_size) (slot_size * length qs) ≡ contents_from (from + q.size) qs =
    says_written_all s (at + slot_size) (from + q.size) qs b (omega arith) halves.1 in
    ap (part s at) n ∙ part_append s at slot_size (slot_size * length qs) ∙ (λ d. first d ++ others d)

-- ════ Slots from the lists of kinds and lengths ════

-- as many as kinds, where there are as many lengths
pub length_slots : (ks ns : List ℕ) → length ns ≡ length ks → length (slots ks ns) ≡ length ks
length_slots [] ns h = refl
length_slots (k ∷ ks) [] h = h
length_slots (k ∷ ks) (n ∷ ns) h = ap suc (length_slots ks ns (omega arith))

-- the first of those that are left
pub slots_cons : (ks ns : List ℕ) (i : ℕ) → i < length ks → length ns ≡ length ks
    → slots (drop i ks) (drop i ns) ≡ record { kind = get_or ks i 0; size = get_or ns i 0 } ∷ slots (drop (suc i) ks) (drop (suc i) ns)
slots_cons ks ns i h e =
    ap (λ (l : List ℕ). slots l (drop i ns)) (drop-cons ks i 0 h)
    ∙ ap (slots (get_or ks i 0 ∷ drop (suc i) ks)) (drop-cons ns i 0 (omega arith))

-- kinds of two bytes fit
pub kinds_fit : (ks ns : List ℕ) → ((i : ℕ) → get_or ks i 0 < 2 ^ 16) → KindsFit (slots ks ns)
kinds_fit [] ns h = tt
kinds_fit (k ∷ ks) [] h = tt
kinds_fit (k ∷ ks) (n ∷ ns) h = (h zero, kinds_fit ks ns (λ i. h (suc i)))
