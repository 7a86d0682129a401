-- Long division, bit by bit within a limb and limb by limb within a number. Assumes nothing.
use Rattle.std.specs.Prelude.{◌≡◌, refl, List, [], ◌∷◌, ℕ, suc, ◌+◌, ◌-◌, ◌*◌, ◌/◌, ◌%◌, ◌^◌, ◌<◌, ◌≤◌, length, get_or, take, drop, set}
use Rattle.std.proofs.Common.{sym, ap, subst, ◌∙◌, le_refl, lt_of_lt_of_le, div-add-mod', div-lt_iff_lt-mul, mod-lt, add-one, arith, length-set, drop_of_length-le, pow_mono, drop-cons, drop-set-lt, get_or-set_same, get_or-take, take-take}
use Rattle.std.proofs.Math.Nat.{pow-succ'}
use Rattle.std.proofs.Math.Arith.{digits_div}
use Rattle.std.proofs.lemmas.List.{take-set-le}
use Rattle.amount_limbs.specs.Limbs.{digits, ceil_div}

-- n divided by d is q, and r is left
pub record Divided (n d q r : ℕ) : Type 0 where
  pub whole : q * d + r ≡ n
  pub small : r < d

pub quotient : {n d q r : ℕ} → Divided n d q r → q ≡ n / d
quotient {n} {d} {q} {r} s = sym (digits_div q s.small) ∙ ap (λ (x : ℕ). x / d) s.whole

-- rounded up, a quotient that leaves nothing stays, and any other is one more
pub ceil_exact : {n d q r : ℕ} → Divided n d q r → r ≡ 0 → ceil_div n d ≡ q
ceil_exact {n} {d} {q} {r} s e =
    let f : Divided (n + (d - 1)) d q (d - 1) = record { whole = omega (arith, s.whole); small = omega (arith, s.small) } in
    sym (quotient f)

pub ceil_over : {n d q r : ℕ} → Divided n d q r → (r ≡ 0 → ⊥) → ceil_div n d ≡ q + 1
ceil_over {n} {d} {q} {r} s e =
    let f : Divided (n + (d - 1)) d (q + 1) (r - 1) = record { whole = omega (arith, s.whole, s.small); small = omega (arith, s.small) } in
    sym (quotient f)

-- of a quotient that is rounded up, the low 64 bits are those of its own low 64 bits and 1
pub ceil_low : {n d q r low : ℕ} → Divided n d q r → (r ≡ 0 → ⊥) → low ≡ q % 2 ^ 64 → ceil_div n d % 2 ^ 64 ≡ (low + 1) % 2 ^ 64
ceil_low {q = q} s h e = ap (λ (x : ℕ). x % 2 ^ 64) (ceil_over s h) ∙ omega arith

-- ════ Limb by limb ════

pub nothing : (d : ℕ) → 0 < d → Divided 0 d 0 0
nothing d h = record { whole = omega arith; small = h }

-- under a rest below the divisor, a limb's quotient is a limb
pub limb_quotient : {r d l : ℕ} → r < d → l < 4294967296 → (r * 4294967296 + l) / d < 4294967296
limb_quotient {r} {d} {l} h k =
    (div-lt_iff_lt-mul {k = d} {x = r * 4294967296 + l} {y = 4294967296} (omega arith)).1 (omega arith)

-- and with what it leaves it is all there was
pub limb_divided : (r d l : ℕ) → r < d → ((r * 4294967296 + l) / d * d + (r * 4294967296 + l) % d ≡ r * 4294967296 + l) × ((r * 4294967296 + l) % d < d)
limb_divided r d l h = (div-add-mod' (r * 4294967296 + l) d, mod-lt (r * 4294967296 + l) (omega arith))

-- one limb more, below the others
pub bring_down : (l q' r' : ℕ) {n d q r : ℕ} → Divided n d q r → (q' * d + r' ≡ r * 4294967296 + l) × (r' < d) → Divided (l + 4294967296 * n) d (q' + 4294967296 * q) r'
bring_down l q' r' s t = record { whole = omega (arith, s.whole, t.0); small = t.1 }

-- a number's limbs from i up are divided: their quotient stands in w from i up, and below i the limbs stand as they were
pub record Reached (a : List ℕ) (d : ℕ) (w : List ℕ) (r i : ℕ) : Type 0 where
  pub length_a : length a ≡ 4
  pub length_w : length w ≡ 4
  pub within : i ≤ 4
  pub below : take i w ≡ take i a
  pub above : Divided (digits (drop i a)) d (digits (drop i w)) r

pub reached_none : (a : List ℕ) (d : ℕ) → length a ≡ 4 → 0 < d → Reached a d a 0 4
reached_none a d e h =
    let end : drop 4 a ≡ [] = drop_of_length-le a {i = 4} (omega arith) in
    record { length_a = e; length_w = e; within = le_refl 4; below = refl; above = rw end (nothing d h) }

reached_suc : (a w : List ℕ) (d r i q r' : ℕ) → Reached a d w r (suc i) → (q * d + r' ≡ r * 4294967296 + get_or w i 0) × (r' < d) → Reached a d (set w i q) r' i
reached_suc a w d r i q r' s t =
    let la : length a ≡ 4 = s.length_a in
    let lw : length w ≡ 4 = s.length_w in
    let ls : length (set w i q) ≡ 4 = length-set w i q ∙ lw in
    let ha : i < length a = omega (arith, s.within) in
    let hw : i < length w = omega (arith, s.within) in
    let hs : i < length (set w i q) = omega (arith, s.within) in
    let same : get_or w i 0 ≡ get_or a i 0 = sym (get_or-take (suc i) w i 0 (le_refl (suc i))) ∙ ap (λ (l : List ℕ). get_or l i 0) s.below ∙ get_or-take (suc i) a i 0 (le_refl (suc i)) in
    let lower : take i w ≡ take i a = sym (take-take i (suc i) w (omega arith)) ∙ ap (λ (l : List ℕ). take i l) s.below ∙ take-take i (suc i) a (omega arith) in
    let put : drop i (set w i q) ≡ q ∷ drop (suc i) w = drop-cons (set w i q) i 0 hs ∙ rw (get_or-set_same w i q 0 hw, drop-set-lt (suc i) w i q (le_refl (suc i))) in
    record {
      length_a = la;
      length_w = ls;
      within = omega (arith, s.within);
      below = take-set-le i w i q (le_refl i) ∙ lower;
      above = rw (put, drop-cons a i 0 ha, ← same) (bring_down (get_or w i 0) q r' s.above t);
    }

pub reached_limb : (q r' : ℕ) {a w : List ℕ} {d r i : ℕ} → Reached a d w r i → (i ≡ 0 → ⊥) → (q * d + r' ≡ r * 4294967296 + get_or w (i - 1) 0) × (r' < d) → Reached a d (set w (i - 1) q) r' (i - 1)
reached_limb q r' {a} {w} {d} {r} {i} s h t =
    let e : i ≡ suc (i - 1) = omega arith in
    reached_suc a w d r (i - 1) q r' (subst (λ (k : ℕ). Reached a d w r k) e s) t

pub reached_all : {a w : List ℕ} {d r i : ℕ} → Reached a d w r i → i ≡ 0 → Divided (digits a) d (digits w) r
reached_all {a} {w} {d} {r} s e = subst (λ (k : ℕ). Divided (digits (drop k a)) d (digits (drop k w)) r) e s.above

-- ════ Bit by bit ════

-- i bits of a limb are brought down to what stood above it, n in all: their quotient is q, r is kept, and `left` has the other bits, moved up
pub record BitsReached (n d q r left i : ℕ) : Type 0 where
  pub whole : n * 2 ^ i ≡ (q * d + r) * 4294967296 + left
  pub small : r < d
  pub narrow : q < 2 ^ i
  pub left_fits : left < 4294967296
  pub within : i ≤ 32

pub no_bits : (rest limb d : ℕ) → rest < d → limb < 4294967296 → BitsReached (rest * 4294967296 + limb) d 0 rest limb 0
no_bits rest limb d h l = record { whole = omega arith; small = h; narrow = omega arith; left_fits = l; within = omega arith }

-- one bit more: the top bit of `left` is brought down, and the others move up
pub one_bit : (b r' : ℕ) {n d q r left i : ℕ} → BitsReached n d q r left i → i < 32 → (b * d + r' ≡ 2 * r + left / 2147483648) × (r' < d) × (b ≤ 1) → BitsReached n d (q * 2 + b) r' (left % 2147483648 * 2) (i + 1)
one_bit b r' {n} {d} {q} {r} {left} {i} s h f =
    let p : 2 ^ (i + 1) ≡ 2 * 2 ^ i = rw (add-one, pow-succ') in
    record {
      whole = omega (arith, s.whole, ap (λ (x : ℕ). n * x) p, ap (λ (x : ℕ). x * 4294967296) f.0);
      small = f.1;
      narrow = omega (arith, s.narrow, p, f.2);
      left_fits = omega arith;
      within = omega arith;
    }

pub quotient_fits : {n d q r left i : ℕ} → BitsReached n d q r left i → q < 4294967296
quotient_fits {i = i} s = lt_of_lt_of_le s.narrow (pow_mono {i = i} {j = 32} s.within)

pub all_bits : {n d q r left i : ℕ} → BitsReached n d q r left i → 32 ≤ i → Divided n d q r
all_bits {n} {d} {q} {r} {left} {i} s h =
    let e : i ≡ 32 = omega (arith, s.within) in
    let w : n * 2 ^ 32 ≡ (q * d + r) * 4294967296 + left = rw e at s.whole in
    record { whole = omega (arith, w, s.left_fits); small = s.small }
