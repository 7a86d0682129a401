-- One round of the loops of `decimal`: a digit read, a digit counted, a digit written. Assumes nothing.
use Rattle.std.specs.Prelude.{Option, Some, None}
use mathlib.Core.Bool.{Bool, true, false, cond}
use mathlib.Core.Path.{◌≡◌, refl, sym, ap, ◌∙◌}
use mathlib.Core.List.{List, [], ◌∷◌, ◌++◌}
use Prim.Native.Nat.{ℕ, suc, ◌+◌, ◌-◌, ◌*◌, ◌/◌, ◌%◌, ◌≤◌, ◌<◌}
use native.Mathlib.Nat.{add-zero}
use native.Mathlib.Omega.{arith}
use borrow.Author.Tests.{le-leb, lt-leb, lt-ltb, le-ltb}
use lib.Dec.{ltb}
use lib.ListN.{length, get_or, drop, set, length-append}
use Rattle.lent_bytes.specs.LentBytes.{put}
use Rattle.lent_bytes.specs.LentBytesLaws.{set_put, put_under_at}
use Rattle.decimal.specs.Ascii.{code}
use Rattle.decimal.specs.Decimal.{digits_within, digits_at_front, value_from, bounded, number_of}
use Rattle.decimal.specs.DecimalLaws.{digits_more, is_digit_lem, value_grows, zero_number, plain_number, low_digits, length_low}

-- ════ Reading ════

-- what the digits from the place i on make of the number v
abbrev pub outcome : List ℕ → ℕ → ℕ → ℕ → Option (ℕ × ℕ)
outcome text i v most = bounded (value_from v (digits_at_front (drop i text))) (i + length (digits_at_front (drop i text))) most

module _ (text : List ℕ) (i v most : ℕ) where
  -- no digit is left
  pub outcome_ended : digits_at_front (drop i text) ≡ [] → v ≤ most → outcome text i v most ≡ Some (v, i)
  outcome_ended e h = rw (e, le-leb v most h, add-zero)

  pub outcome_more : i < length text → code "0" ≤ get_or text i 0 → get_or text i 0 ≤ code "9"
      → outcome text i v most ≡ outcome text (i + 1) (v * 10 + (get_or text i 0 - code "0")) most
  outcome_more h low high =
      let e : i + suc (length (digits_at_front (drop (i + 1) text))) ≡ (i + 1) + length (digits_at_front (drop (i + 1) text)) = omega arith in
      rw (digits_more text i h (is_digit_lem (get_or text i 0) low high), e)

  -- a number that passes the bound stays above it
  pub outcome_large : i < length text → code "0" ≤ get_or text i 0 → get_or text i 0 ≤ code "9"
      → most < v * 10 + (get_or text i 0 - code "0") → outcome text i v most ≡ None
  outcome_large h low high large =
      let w : ℕ = v * 10 + (get_or text i 0 - code "0") in
      let ds : List ℕ = digits_at_front (drop (i + 1) text) in
      let above : most < value_from w ds = omega (arith, value_grows w ds) in
      outcome_more h low high ∙ rw (lt-leb (value_from w ds) most above)

module _ (text : List ℕ) (at : ℕ) (there : at < length text) (zero-digit : get_or text at 0 ≡ code "0") where
  zero_first : digits_at_front (drop at text) ≡ code "0" ∷ digits_at_front (drop (at + 1) text)
  zero_first =
      digits_more text at there (is_digit_lem (get_or text at 0) (omega arith) (omega arith))
      ∙ ap (λ (b : ℕ). b ∷ digits_at_front (drop (at + 1) text)) zero-digit

  -- a zero and no digit behind it
  pub zero_then_none : digits_at_front (drop (at + 1) text) ≡ [] → number_of (digits_at_front (drop at text)) at 0 ≡ Some (0, at + 1)
  zero_then_none e = rw (zero_first, e)

  -- a zero before another digit
  pub zero_then_digit : at + 1 < length text → code "0" ≤ get_or text (at + 1) 0 → get_or text (at + 1) 0 ≤ code "9"
      → number_of (digits_at_front (drop at text)) at 0 ≡ None
  zero_then_digit h low high = rw (zero_first, digits_more text (at + 1) h (is_digit_lem (get_or text (at + 1) 0) low high))

  -- a zero is small enough for any bound
  pub zero_any : (most : ℕ) → number_of (digits_at_front (drop at text)) at most ≡ number_of (digits_at_front (drop at text)) at 0
  zero_any most = rw zero_first (zero_number (digits_at_front (drop (at + 1) text)) at most)

-- a run that begins with another digit than zero is the number that it spells
pub run_number : (text : List ℕ) (at most : ℕ) → at < length text → code "1" ≤ get_or text at 0 → get_or text at 0 ≤ code "9"
    → number_of (digits_at_front (drop at text)) at most ≡ outcome text at 0 most
run_number text at most h low high =
    let first : digits_at_front (drop at text) ≡ get_or text at 0 ∷ digits_at_front (drop (at + 1) text) =
    digits_more text at h (is_digit_lem (get_or text at 0) (omega arith) high) in
    let above : code "0" < get_or (digits_at_front (drop at text)) 0 0 = rw first (omega arith) in
    plain_number (digits_at_front (drop at text)) at most above

-- ════ Counting ════

pub one_digit : (k n : ℕ) → n < 10 → length (digits_within (suc k) n) ≡ 1
one_digit k n h = rw (lt-ltb n 10 h)

pub one_digit_more : (k n : ℕ) → 10 ≤ n → length (digits_within (suc k) n) ≡ length (digits_within k (n / 10)) + 1
one_digit_more k n h = rw (le-ltb n 10 h, length-append)

-- room for one digit makes one of any number
pub last_digit : (n : ℕ) → length (digits_within 1 n) ≡ 1
last_digit n = go (ltb n 10)
  where
    go : (b : Bool) → length (cond b ((code "0" + n) ∷ []) ([] ++ ((code "0" + n % 10) ∷ []))) ≡ 1
    go true = refl
    go false = refl

-- ════ Writing ════

-- the last digit is written first, and then the others before it
pub digit_written : (out : List ℕ) (at left n : ℕ) → at + suc left ≤ length out
    → put out at (low_digits (suc left) n) ≡ put (set out (at + left) (code "0" + n % 10)) at (low_digits left (n / 10))
digit_written out at left n h =
    sym (ap (λ (l : List ℕ). put l at (low_digits left (n / 10))) (set_put out (at + left) (code "0" + n % 10) (omega arith))
    ∙ put_under_at out at (low_digits left (n / 10)) ((code "0" + n % 10) ∷ []) left (length_low left (n / 10)) (omega arith))
