-- Laws of `Decimal`, which callers cite. Nobody needs to believe these: they are proved. Assumes nothing.
--
-- In order: digits of a text; the value of digits; the digits of a number; what is written reads back; the only spelling;
-- at most one outcome.
use Rattle.std.specs.Prelude.{Bool, true, false, cond, ◌&&◌, ◌≡◌, refl, List, [], ◌∷◌, ◌++◌, ℕ, zero, suc, ◌+◌, ◌-◌, ◌*◌, ◌/◌, ◌%◌, ◌^◌, ◌≤◌, ◌<◌, leb, ltb, eqb, length, drop, take, get_or}
use Rattle.std.specs.Prelude.{Option, Some, None}
use Prim.{Unit, tt}
use Rattle.std.proofs.Common.{sym, ap, ◌∙◌, append_assoc, append-nil, pow-suc, mul-le-mul_right, zero-add, add-zero, add-one, arith, ltb-true, ltb-false, leb-true, leb-false, lt-ltb, le-ltb, le-leb, ne_eqb, length-append, drop_of_length-le, drop-cons, drop_at, length-take-le}
use Rattle.std.proofs.lemmas.Bool.{eqb-false, lt-leb}
use Rattle.std.proofs.lemmas.Option.{some_pair_parts}
use Rattle.lent_bytes.specs.LentBytes.{put}
use Rattle.refusal.specs.OneOutcomeLaws.{one_outcome}
use Rattle.decimal.specs.Ascii.{code}
use Rattle.decimal.specs.Decimal.{is_digit, digits_within, most_digits, digits_of, digits_at_front, value_from, bounded, number_of, scan_of}

-- ════ Digits of a text ════

pub is_digit_lem : (b : ℕ) → code "0" ≤ b → b ≤ code "9" → is_digit b ≡ true
is_digit_lem b low high = rw (le-leb (code "0") b low, le-leb b (code "9") high)

pub below_digits : (b : ℕ) → b < code "0" → is_digit b ≡ false
below_digits b h = rw (lt-leb (code "0") b h)

pub above_digits : (b : ℕ) → code "9" < b → is_digit b ≡ false
above_digits b h = let low : code "0" ≤ b = omega arith in rw (le-leb (code "0") b low, lt-leb b (code "9") h)

-- a digit is one of the ten
pub digit_range : (b : ℕ) → is_digit b ≡ true → (code "0" ≤ b) × (b ≤ code "9")
digit_range b h = go (leb (code "0") b) (leb b (code "9")) refl refl h
  where
    go : (low high : Bool) → leb (code "0") b ≡ low → leb b (code "9") ≡ high → low && high ≡ true → (code "0" ≤ b) × (b ≤ code "9")
    go true true p q r = (leb-true (code "0") b p, leb-true b (code "9") q)
    go true false p q r = let z : true ≡ false = sym r in absurd (let n : ◌≡◌ {A = ℕ} 0 1 = cc in omega arith)
    go false high p q r = let z : true ≡ false = sym r in absurd (let n : ◌≡◌ {A = ℕ} 0 1 = cc in omega arith)

module _ (text : List ℕ) (i : ℕ) where
  -- a digit stands there: it, and the digits behind it
  pub digits_more : i < length text → is_digit (get_or text i 0) ≡ true
      → digits_at_front (drop i text) ≡ get_or text i 0 ∷ digits_at_front (drop (i + 1) text)
  digits_more h d = rw (add-one, drop-cons text i 0, d)

  -- no digit stands there
  pub digits_none : i < length text → is_digit (get_or text i 0) ≡ false → digits_at_front (drop i text) ≡ []
  digits_none h d = rw (drop-cons text i 0, d)

  -- the text ends there
  pub digits_end : length text ≤ i → digits_at_front (drop i text) ≡ []
  digits_end h = rw (drop_of_length-le text h)

-- every byte is a digit
abbrev pub AllDigits : List ℕ → Type 0
AllDigits [] = Unit {0}
AllDigits (b ∷ ds) = (is_digit b ≡ true) × AllDigits ds

all_append : (xs ys : List ℕ) → AllDigits xs → AllDigits ys → AllDigits (xs ++ ys)
all_append [] ys h k = k
all_append (x ∷ xs) ys h k = (h.0, all_append xs ys h.1 k)

-- what a text begins with is digits
pub all_front : (s : List ℕ) → AllDigits (digits_at_front s)
all_front [] = tt
all_front (b ∷ s) = go (is_digit b) refl (all_front s)
  where
    go : (d : Bool) → is_digit b ≡ d → AllDigits (digits_at_front s) → AllDigits (cond d (b ∷ digits_at_front s) [])
    go true p h = (p, h)
    go false p h = tt

-- digits before a text are digits that it begins with
pub front_append : (ds rest : List ℕ) → AllDigits ds → digits_at_front (ds ++ rest) ≡ ds ++ digits_at_front rest
front_append [] rest h = refl
front_append (d ∷ ds) rest h = rw (h.0, front_append ds rest h.1)

-- they stand at the text's front
pub take_front : (s : List ℕ) → take (length (digits_at_front s)) s ≡ digits_at_front s
take_front [] = refl
take_front (b ∷ s) = go (is_digit b) (take_front s)
  where
    go : (d : Bool) → take (length (digits_at_front s)) s ≡ digits_at_front s
        → take (length (cond d (b ∷ digits_at_front s) [])) (b ∷ s) ≡ cond d (b ∷ digits_at_front s) []
    go true h = ap (λ (l : List ℕ). b ∷ l) h
    go false h = refl

-- ════ The value of digits ════

pub value_append : (v : ℕ) (xs ys : List ℕ) → value_from v (xs ++ ys) ≡ value_from (value_from v xs) ys
value_append v [] ys = refl
value_append v (x ∷ xs) ys = value_append (v * 10 + (x - code "0")) xs ys

-- more digits make no number smaller
pub value_grows : (v : ℕ) (ds : List ℕ) → v ≤ value_from v ds
value_grows v [] = omega arith
value_grows v (d ∷ ds) = omega (arith, value_grows (v * 10 + (d - code "0")) ds)

-- digits spell a number below a power of ten
pub value_below : (v : ℕ) (ds : List ℕ) → AllDigits ds → value_from v ds < (v + 1) * 10 ^ length ds
value_below v [] h = omega arith
value_below v (d ∷ ds) h =
    let r = digit_range d h.0 in
    let P : ℕ = 10 ^ length ds in
    let below : value_from (v * 10 + (d - code "0")) ds < (v * 10 + (d - code "0") + 1) * P = value_below (v * 10 + (d - code "0")) ds h.1 in
    let digit : v * 10 + (d - code "0") + 1 ≤ v * 10 + 10 = omega (arith, r) in
    let p : 10 ^ suc (length ds) ≡ P * 10 = pow-suc 10 (length ds) in
    rw p (omega (arith, below, mul-le-mul_right P digit))

-- ════ The digits of a number ════

-- more room than is needed changes nothing
pub within_more : (k j n : ℕ) → k ≤ j → n < 10 ^ suc k → digits_within (suc j) n ≡ digits_within (suc k) n
within_more zero j n h below = let small : n < 10 = below in rw (lt-ltb n 10 small)
within_more (suc k) zero n h below = absurd (omega arith)
within_more (suc k) (suc j) n h below =
    let p : 10 ^ suc (suc k) ≡ 10 ^ suc k * 10 = pow-suc 10 (suc k) in
    let small : n / 10 < 10 ^ suc k = omega arith in
    ap (λ (l : List ℕ). cond (ltb n 10) ((code "0" + n) ∷ []) (l ++ ((code "0" + n % 10) ∷ [])))
    (within_more k j (n / 10) (omega arith) small)

within_small : (k n : ℕ) → n < 10 → digits_within (suc k) n ≡ (code "0" + n) ∷ []
within_small k n h = rw (lt-ltb n 10 h)

within_large : (k n : ℕ) → 10 ≤ n → digits_within (suc k) n ≡ digits_within k (n / 10) ++ ((code "0" + n % 10) ∷ [])
within_large k n h = rw (le-ltb n 10 h)

-- a number below ten or not
abbrev by_ten : {P : Type 0} (n : ℕ) → (n < 10 → P) → (10 ≤ n → P) → P
by_ten {P} n small large = go (ltb n 10) refl
  where
    go : (b : Bool) → ltb n 10 ≡ b → P
    go true p = small (ltb-true n 10 p)
    go false p = large (ltb-false n 10 p)

pub all_within : (k n : ℕ) → AllDigits (digits_within k n)
all_within zero n = tt
all_within (suc k) n =
    by_ten n (λ h. rw (within_small k n h) (is_digit_lem (code "0" + n) (omega arith) (omega arith), tt))
    (λ h. rw (within_large k n h)
    (all_append (digits_within k (n / 10)) _ (all_within k (n / 10)) (is_digit_lem (code "0" + n % 10) (omega arith) (omega arith), tt)))

-- the digits of a number spell it
pub value_within : (k n : ℕ) → n < 10 ^ k → value_from 0 (digits_within k n) ≡ n
value_within zero n h = omega arith
value_within (suc k) n h =
    let p : 10 ^ suc k ≡ 10 ^ k * 10 = pow-suc 10 k in
    by_ten n (λ s. rw (within_small k n s) (omega arith))
    (λ l. rw (within_large k n l, value_append 0 (digits_within k (n / 10)), value_within k (n / 10) (omega arith)) (omega arith))

-- a number below a power of ten has at most as many digits
pub length_within : (k j n : ℕ) → n < 10 ^ suc k → length (digits_within j n) ≤ suc k
length_within k zero n h = omega arith
length_within zero (suc j) n h = let small : n < 10 = h in rw (within_small j n small) (omega arith)
length_within (suc k) (suc j) n h =
    let p : 10 ^ suc (suc k) ≡ 10 ^ suc k * 10 = pow-suc 10 (suc k) in
    by_ten n (λ s. rw (within_small j n s) (omega arith))
    (λ l. rw (within_large j n l, length-append) (omega (arith, length_within k j (n / 10) (omega arith))))

first_append : (xs ys : List ℕ) → 0 < get_or xs 0 0 → get_or (xs ++ ys) 0 0 ≡ get_or xs 0 0
first_append [] ys h = absurd (omega arith)
first_append (x ∷ xs) ys h = refl

-- the first digit of a number above zero is no zero
pub first_within : (k n : ℕ) → 0 < n → n < 10 ^ k → code "0" < get_or (digits_within k n) 0 0
first_within zero n h below = absurd (omega arith)
first_within (suc k) n h below =
    let p : 10 ^ suc k ≡ 10 ^ k * 10 = pow-suc 10 k in
    by_ten n (λ s. rw (within_small k n s) (omega arith))
    (λ l. let first : code "0" < get_or (digits_within k (n / 10)) 0 0 = first_within k (n / 10) (omega arith) (omega arith) in
    rw (within_large k n l, first_append (digits_within k (n / 10)) _ (omega arith)) first)

-- the n lowest digits of a number, with the zeros before them that `digits_of` leaves out
abbrev pub low_digits : ℕ → ℕ → List ℕ
low_digits zero n = []
low_digits (suc k) n = low_digits k (n / 10) ++ ((code "0" + n % 10) ∷ [])

pub length_low : (k n : ℕ) → length (low_digits k n) ≡ k
length_low zero n = refl
length_low (suc k) n = rw (length-append, length_low k (n / 10)) (omega arith)

-- as many of them as a number has are its digits
pub low_within : (k n : ℕ) → low_digits (length (digits_within k n)) n ≡ digits_within k n
low_within zero n = refl
low_within (suc k) n =
    by_ten n (λ h. let e : n % 10 ≡ n = omega arith in rw (within_small k n h, e))
    (λ h. let e : length (digits_within k (n / 10)) + 1 ≡ suc (length (digits_within k (n / 10))) = omega arith in
    rw (within_large k n h, length-append, e, low_within k (n / 10)))

-- the text of a number below a power of ten, up to the largest u64, has at most as many digits
pub length_digits : (k n : ℕ) → n < 10 ^ suc k → length (digits_of n) ≤ suc k
unfolding digits_of
length_digits k n h = length_within k most_digits n h

-- ════ What stands at a place ════

-- a run that begins with no zero is the number that it spells
pub plain_number : (ds : List ℕ) (at most : ℕ) → code "0" < get_or ds 0 0
    → number_of ds at most ≡ bounded (value_from 0 ds) (at + length ds) most
plain_number [] at most h = absurd (omega arith)
plain_number (d ∷ []) at most h = rw zero-add
plain_number (d ∷ e ∷ ds) at most h = rw (ne_eqb d (code "0") (λ q. omega arith))

-- a zero alone is a number, however small the largest one that is asked for
pub zero_number : (ds : List ℕ) (at most : ℕ) → number_of (code "0" ∷ ds) at most ≡ number_of (code "0" ∷ ds) at 0
zero_number [] at most = rw (le-leb 0 most (omega arith))
zero_number (e ∷ ds) at most = refl

bounded_number : (v end most : ℕ) → v ≤ most → bounded v end most ≡ Some (v, end)
bounded_number v end most h = rw (le-leb v most h)

-- a number that was read is at most what was asked for, and is the run's
pub record Bounded (v end most n place : ℕ) : Type 0 where
  pub same_value : n ≡ v
  pub same_end : place ≡ end
  pub small : n ≤ most

within_bound : (v end most n place : ℕ) → bounded v end most ≡ Some (n, place) → Bounded v end most n place
within_bound v end most n place h = go (leb v most) refl h
  where
    go : (b : Bool) → leb v most ≡ b → cond {A = Option (ℕ × ℕ)} b (Some (v, end)) None ≡ Some (n, place) → Bounded v end most n place
    go true p q =
        let e = some_pair_parts v n end place q in
        record { same_value = sym e.0; same_end = sym e.1; small = omega (arith, leb-true v most p) }
    go false p q = let z : ◌≡◌ {A = ℕ} 0 1 = cc in absurd (omega arith)

-- ════ What is written reads back ════

-- the text of a number, before a text that begins with no digit, reads as that number
pub reads_back : (before rest : List ℕ) (n most : ℕ) → digits_at_front rest ≡ [] → n ≤ most → n < 10 ^ 20
    → scan_of (before ++ (digits_of n ++ rest)) (length before) most ≡ Some (n, length before + length (digits_of n))
unfolding scan_of digits_of
reads_back before rest n most ended small below =
    let ds : List ℕ = digits_within most_digits n in
    let at : ℕ = length before in
    let front : digits_at_front (ds ++ rest) ≡ ds = front_append ds rest (all_within most_digits n) ∙ ap (λ (l : List ℕ). ds ++ l) ended ∙ append-nil ds in
    ap (λ (l : List ℕ). number_of (digits_at_front l) at most) (drop_at before (ds ++ rest) at refl)
    ∙ ap (λ (l : List ℕ). number_of l at most) front
    ∙ go (ltb 0 n) refl
  where
    go : (b : Bool) → ltb 0 n ≡ b → number_of (digits_within most_digits n) (length before) most ≡ Some (n, length before + length (digits_within most_digits n))
    go true p =
        plain_number (digits_within most_digits n) (length before) most (first_within most_digits n (ltb-true 0 n p) below)
        ∙ rw (value_within most_digits n below) (bounded_number n (length before + length (digits_within most_digits n)) most small)
    go false p =
        let e : n ≡ 0 = omega (arith, ltb-false 0 n p) in
        rw e (bounded_number 0 (length before + 1) most (omega arith))

-- the same of a number that was written over a text
pub written_reads_back : (s : List ℕ) (at n most : ℕ) → at ≤ length s → digits_at_front (drop (at + length (digits_of n)) s) ≡ []
    → n ≤ most → n < 10 ^ 20 → scan_of (put s at (digits_of n)) at most ≡ Some (n, at + length (digits_of n))
unfolding put
written_reads_back s at n most h ended small below =
    let e : length (take at s) ≡ at = length-take-le at s h in
    let rest : List ℕ = drop (at + length (digits_of n)) s in
    ap (λ (k : ℕ). scan_of (take at s ++ (digits_of n ++ rest)) k most) (sym e)
    ∙ reads_back (take at s) rest n most ended small below
    ∙ ap (λ (k : ℕ). Some (n, k + length (digits_of n))) e

-- ════ The only spelling ════

-- digits behind those of a number above zero are the digits of the number that they spell together
spelled : (j v : ℕ) (ds : List ℕ) → 0 < v → AllDigits ds → digits_within (j + length ds) (value_from v ds) ≡ digits_within j v ++ ds
spelled j v [] h a = rw (add-zero, append-nil)
spelled j v (d ∷ ds) h a =
    let r = digit_range d a.0 in
    let w : ℕ = v * 10 + (d - code "0") in
    let e : j + suc (length ds) ≡ suc j + length ds = omega arith in
    let high : w / 10 ≡ v = omega (arith, r) in
    let low : code "0" + w % 10 ≡ d = omega (arith, r) in
    let one_more : digits_within (suc j) w ≡ digits_within j v ++ (d ∷ []) = within_large j w (omega arith) ∙ rw (high, low) in
    ap (λ (k : ℕ). digits_within k (value_from w ds)) e ∙ spelled (suc j) w ds (omega arith) a.1
    ∙ ap (λ (l : List ℕ). l ++ ds) one_more
    ∙ append_assoc (digits_within j v) (d ∷ []) ds

-- the digits of what a run spells, which begins with no zero, are the run
run_spelled : (d : ℕ) (ds : List ℕ) → AllDigits (d ∷ ds) → code "0" < d → value_from 0 (d ∷ ds) < 10 ^ 20
    → digits_within most_digits (value_from 0 (d ∷ ds)) ≡ d ∷ ds
run_spelled d ds a h below =
    let r = digit_range d a.0 in
    let v : ℕ = 0 * 10 + (d - code "0") in
    let e : 1 + length ds ≡ suc (length ds) = omega arith in
    let f : code "0" + v ≡ d = omega (arith, r) in
    let first : digits_within 1 v ≡ d ∷ [] = within_small 0 v (omega (arith, r)) ∙ rw f in
    go (leb (length ds) 19) refl
    ∙ ap (λ (k : ℕ). digits_within k (value_from v ds)) (sym e)
    ∙ spelled 1 v ds (omega arith) a.1
    ∙ ap (λ (l : List ℕ). l ++ ds) first
  where
    go : (b : Bool) → leb (length ds) 19 ≡ b
        → digits_within most_digits (value_from 0 (d ∷ ds)) ≡ digits_within (suc (length ds)) (value_from 0 (d ∷ ds))
    go true p =
        let r = digit_range d a.0 in
        let P : ℕ = 10 ^ length ds in
        let v : ℕ = 0 * 10 + (d - code "0") in
        let q : 10 ^ suc (length ds) ≡ P * 10 = pow-suc 10 (length ds) in
        let ten : v + 1 ≤ 10 = omega (arith, r) in
        within_more (length ds) 19 (value_from v ds) (leb-true (length ds) 19 p)
        (rw q (omega (arith, value_below v ds a.1, mul-le-mul_right P ten)))
    go false p = sym (within_more 19 (length ds) (value_from 0 (d ∷ ds)) (omega (arith, leb-false (length ds) 19 p)) below)

-- what was read, where it was read: its digits, and nothing else
pub record Spelled (text : List ℕ) (at most n end : ℕ) : Type 0 where
  pub digits : take (end - at) (drop at text) ≡ digits_of n
  pub end_is : end ≡ at + length (digits_of n)
  pub small : n ≤ most

run_number : (ds : List ℕ) (at most n end : ℕ) → AllDigits ds → most < 10 ^ 20 → number_of ds at most ≡ Some (n, end)
    → (ds ≡ digits_of n) × ((end ≡ at + length ds) × (n ≤ most))
unfolding digits_of
run_number [] at most n end a m h = let z : ◌≡◌ {A = ℕ} 0 1 = cc in absurd (omega arith)
run_number (d ∷ []) at most n end a m h =
    let r = digit_range d a.0 in
    let w = within_bound (d - code "0") (at + 1) most n end h in
    let e : code "0" + n ≡ d = omega (arith, r, w.same_value) in
    (sym (within_small 19 n (omega (arith, r, w.same_value)) ∙ rw e), (w.same_end, w.small))
run_number (d ∷ e ∷ ds) at most n end a m h = go (eqb d (code "0")) refl h
  where
    go : (b : Bool) → eqb d (code "0") ≡ b
        → cond b None (bounded (value_from 0 (d ∷ e ∷ ds)) (at + length (d ∷ e ∷ ds)) most) ≡ Some (n, end)
        → (d ∷ e ∷ ds ≡ digits_within most_digits n) × ((end ≡ at + length (d ∷ e ∷ ds)) × (n ≤ most))
    go true p q = let z : ◌≡◌ {A = ℕ} 0 1 = cc in absurd (omega arith)
    go false p q =
        let r = digit_range d a.0 in
        let w = within_bound (value_from 0 (d ∷ e ∷ ds)) (at + length (d ∷ e ∷ ds)) most n end q in
        let above : code "0" < d = omega (arith, r, eqb-false d (code "0") p) in (
          sym (ap (λ (x : ℕ). digits_within most_digits x) w.same_value ∙ run_spelled d (e ∷ ds) a above (omega (arith, w.same_value, w.small))),
          (w.same_end, w.small),
        )

-- where a number is read, its text stands: no other spelling is taken
pub only_spelling : (text : List ℕ) (at most n end : ℕ) → most < 10 ^ 20 → scan_of text at most ≡ Some (n, end) → Spelled text at most n end
unfolding scan_of
only_spelling text at most n end m h =
    let ds : List ℕ = digits_at_front (drop at text) in
    let r = run_number ds at most n end (all_front (drop at text)) m h in
    let e : end - at ≡ length ds = omega (arith, r.1.0) in
    record {
      digits = rw e (take_front (drop at text) ∙ r.0);
      end_is = r.1.0 ∙ ap (λ (l : List ℕ). at + length l) r.0;
      small = r.1.1;
    }

-- ════ At most one outcome ════

pub scan_outcome : (text : List ℕ) (at most : ℕ) {r s : Option (ℕ × ℕ)} → r ≡ scan_of text at most → s ≡ scan_of text at most → r ≡ s
scan_outcome text at most = one_outcome

pub width_outcome : (n : ℕ) {r s : ℕ} → r ≡ length (digits_of n) → s ≡ length (digits_of n) → r ≡ s
width_outcome n = one_outcome

pub put_decimal_outcome : (s : List ℕ) (at n : ℕ) {r q : ℕ} {x y : List ℕ}
    → (r ≡ at + length (digits_of n)) × (x ≡ put s at (digits_of n)) → (q ≡ at + length (digits_of n)) × (y ≡ put s at (digits_of n))
    → (r ≡ q) × (x ≡ y)
put_decimal_outcome s at n h k = (one_outcome h.0 k.0, one_outcome h.1 k.1)
