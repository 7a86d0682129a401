-- One step of a loop over the lists of kinds and lengths: what is written, told or found of the slots that are left is what the
-- first of them says and what the others do. Assumes nothing.
use Rattle.std.specs.Prelude.{Some}
use mathlib.Core.Path.{◌≡◌, refl, sym, ap, ◌∙◌}
use mathlib.Core.Bool.{Bool, true, false, ◌&&◌, cond}
use mathlib.Core.List.{List, [], ◌∷◌, ◌++◌}
use Prim.Native.Nat.{ℕ, ◌+◌, ◌*◌, ◌≤◌, ◌<◌}
use native.Mathlib.Numerals.{add-one}
use native.Mathlib.Omega.{arith}
use lib.Dec.{eqb}
use lib.ListN.{length, drop, get_or, drop_of_length-le}
use Rattle.lent_bytes.specs.LentBytes.{put, bytes}
use Rattle.lent_bytes.specs.LentBytesLaws.{length_put, put_put_at}
use Rattle.snapshot_layout.specs.Layout.{count_size, kind_size, number_size, slot_size, contents_size, Slot, slots, bodies_size, slot_bytes, contents_from, contents}
use Rattle.snapshot_layout.specs.Layout.{slot_says, says_from, place_from}
use Rattle.snapshot_layout.specs.SlotLaws.{slots_cons, length_slots, length_slot_bytes, past_end}

-- the i-th slot
abbrev pub slot_at : List ℕ → List ℕ → ℕ → Slot
slot_at ks ns i = record { kind = get_or ks i 0; size = get_or ns i 0 }

-- the slots from the i-th on
abbrev pub slots_left : List ℕ → List ℕ → ℕ → List Slot
slots_left ks ns i = slots (drop i ks) (drop i ns)

-- where the contents tell of the i-th
abbrev pub slot_place : ℕ → ℕ
slot_place i = count_size + slot_size * i

-- none are left at the end
pub none_left : (ks ns : List ℕ) (i : ℕ) → length ks ≤ i → slots_left ks ns i ≡ []
none_left ks ns i h = ap (λ (l : List ℕ). slots l (drop i ns)) (drop_of_length-le ks h)

module _ (ks ns : List ℕ) (i : ℕ) (h : i < length ks) (e : length ns ≡ length ks) where
  -- the first of those left, and the others
  left_cons : slots_left ks ns i ≡ slot_at ks ns i ∷ slots_left ks ns (i + 1)
  left_cons = rw add-one (slots_cons ks ns i h e)

  -- the bodies' sizes
  pub sizes_step : bodies_size (slots_left ks ns i) ≡ get_or ns i 0 + bodies_size (slots_left ks ns (i + 1))
  sizes_step = ap bodies_size left_cons

  -- what is told
  says_step : (s : List ℕ) (from : ℕ)
      → says_from s (slot_place i) from (slots_left ks ns i)
      ≡ (slot_says s (slot_place i) from (slot_at ks ns i) && says_from s (slot_place (i + 1)) (from + get_or ns i 0) (slots_left ks ns (i + 1)))
  unfolding says_from
  says_step s from =
      let next : slot_place i + slot_size ≡ slot_place (i + 1) = omega arith in
      ap (says_from s (slot_place i) from) left_cons
      ∙ ap (λ (n : ℕ). slot_says s (slot_place i) from (slot_at ks ns i) && says_from s n (from + get_or ns i 0) (slots_left ks ns (i + 1))) next

  module _ (s : List ℕ) (from : ℕ) (all : Bool) (inv : all ≡ says_from s (slot_place i) from (slots_left ks ns i)) where
    -- with the first's test
    tested : (b : Bool) → b ≡ slot_says s (slot_place i) from (slot_at ks ns i)
        → all ≡ (b && says_from s (slot_place (i + 1)) (from + get_or ns i 0) (slots_left ks ns (i + 1)))
    tested b e =
        inv ∙ says_step s from
        ∙ ap (λ (t : Bool). t && says_from s (slot_place (i + 1)) (from + get_or ns i 0) (slots_left ks ns (i + 1))) (sym e)

    -- it is not what the first asks for
    pub says_not : (b : Bool) → b ≡ slot_says s (slot_place i) from (slot_at ks ns i) → b ≡ false → all ≡ false
    says_not b e differs =
        tested b e ∙ ap (λ (t : Bool). t && says_from s (slot_place (i + 1)) (from + get_or ns i 0) (slots_left ks ns (i + 1))) differs

    -- it is, and the others decide
    pub says_goes_on : (b : Bool) → b ≡ slot_says s (slot_place i) from (slot_at ks ns i) → b ≡ true
        → all ≡ says_from s (slot_place (i + 1)) (from + get_or ns i 0) (slots_left ks ns (i + 1))
    says_goes_on b e agrees =
        tested b e ∙ ap (λ (t : Bool). t && says_from s (slot_place (i + 1)) (from + get_or ns i 0) (slots_left ks ns (i + 1))) agrees

    -- the first body ends behind the last byte
    pub says_past : length s < from + get_or ns i 0 → all ≡ false
    says_past past = inv ∙ past_end s (slot_place i) from (slots_left ks ns i) (omega (arith, sizes_step))

  -- what is written
  put_step : (s : List ℕ) (from : ℕ) → slot_place i ≤ length s
      → put (put s (slot_place i) (slot_bytes from (slot_at ks ns i))) (slot_place (i + 1)) (contents_from (from + get_or ns i 0) (slots_left ks ns (i + 1)))
      ≡ put s (slot_place i) (contents_from from (slots_left ks ns i))
  unfolding contents_from
  put_step s from fits =
      let first : List ℕ = slot_bytes from (slot_at ks ns i) in
      let others : List ℕ = contents_from (from + get_or ns i 0) (slots_left ks ns (i + 1)) in
      let next : slot_place (i + 1) ≡ slot_place i + slot_size = omega arith in
      ap (λ (n : ℕ). put (put s (slot_place i) first) n others) next
      ∙ put_put_at s (slot_place i) first others slot_size (length_slot_bytes from (slot_at ks ns i)) fits
      ∙ ap (λ (l : List Slot). put s (slot_place i) (contents_from from l)) (sym left_cons)

  -- the first is written, and the others make the whole
  pub put_goes_on : (s t whole : List ℕ) (from : ℕ) → slot_place i ≤ length s → t ≡ put s (slot_place i) (slot_bytes from (slot_at ks ns i))
      → put s (slot_place i) (contents_from from (slots_left ks ns i)) ≡ whole
      → put t (slot_place (i + 1)) (contents_from (from + get_or ns i 0) (slots_left ks ns (i + 1))) ≡ whole
  put_goes_on s t whole from fits written inv =
      ap (λ (l : List ℕ). put l (slot_place (i + 1)) (contents_from (from + get_or ns i 0) (slots_left ks ns (i + 1)))) written
      ∙ put_step s from fits ∙ inv

  -- what is found
  pub place_step : (kind from : ℕ)
      → place_from kind from (slots_left ks ns i)
      ≡ cond (eqb (get_or ks i 0) kind) (Some (from, (from + get_or ns i 0))) (place_from kind (from + get_or ns i 0) (slots_left ks ns (i + 1)))
  unfolding place_from
  place_step kind from = ap (place_from kind from) left_cons

-- a kind, a place and a length, each written right behind the one before, are a slot
pub put_three : (s : List ℕ) (at from : ℕ) (q : Slot) → at + slot_size ≤ length s
    → put (put (put s at (bytes kind_size q.kind)) (at + kind_size) (bytes number_size from)) (at + kind_size + number_size) (bytes number_size q.size)
    ≡ put s at (slot_bytes from q)
unfolding slot_bytes
put_three s at from q fits =
    let kind : List ℕ = bytes kind_size q.kind in
    let same : length (put s at kind) ≡ length s = length_put s at kind (omega arith) in
    put_put_at (put s at kind) (at + kind_size) (bytes number_size from) (bytes number_size q.size) number_size refl (omega arith)
    ∙ put_put_at s at kind (bytes number_size from ++ bytes number_size q.size) kind_size refl (omega arith)

-- the count, and what is told behind it, are the contents
pub put_whole : (s ks ns : List ℕ) → length ns ≡ length ks
    → put (put s 0 (bytes count_size (length ks))) count_size (contents_from (contents_size (length ks)) (slots ks ns)) ≡ put s 0 (contents (slots ks ns))
unfolding contents
put_whole s ks ns e =
    put_put_at s 0 (bytes count_size (length ks)) (contents_from (contents_size (length ks)) (slots ks ns)) count_size refl (omega arith)
    ∙ ap (λ (n : ℕ). put s 0 (bytes count_size n ++ contents_from (contents_size n) (slots ks ns))) (sym (length_slots ks ns e))
