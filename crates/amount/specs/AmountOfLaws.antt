-- Laws of `amount_of`: it stands for its integer, and is every amount that does. Assumes nothing.
use Rattle.std.specs.Prelude.{◌≡◌, ℕ, zero, suc, ◌/◌, ◌^◌, ◌<◌, Bool, true, false, length, ℤ, pos, negsuc, slice_index, refl}
use Rattle.std.proofs.Common.{sym, ◌∙◌, ap, div-lt_iff_lt-mul, pow-suc, arith, ne_eqb}
use Rattle.amount.specs.declared.Amount.{Amount}
use Rattle.amount_limbs.specs.Limbs.{digits}
use Rattle.amount.specs.Amount.{limbs, amount_of, signed, value, minus_zero}
use Rattle.amount.specs.Private.{Is}
use Rattle.amount.specs.AmountLaws.{Whole, is_unique, whole_below}

-- the limbs of a number that has room in them spell it
pub digits_limbs : (k n : ℕ) → n < 4294967296 ^ k → digits (limbs k n) ≡ n
digits_limbs zero n h = omega arith
digits_limbs (suc k) n h =
    let rest : digits (limbs k (n / 4294967296)) ≡ n / 4294967296 =
    digits_limbs k (n / 4294967296) ((div-lt_iff_lt-mul (omega arith)).1 (rw pow-suc at h))
    in
    omega arith

pub length_limbs : (k n : ℕ) → length (limbs k n) ≡ k
length_limbs zero n = refl
length_limbs (suc k) n = ap suc (length_limbs k (n / 4294967296))

pub limbs_fit : (k n i : ℕ) → slice_index (limbs k n) i < 4294967296
limbs_fit zero n i = omega arith
limbs_fit (suc k) n zero = omega arith
limbs_fit (suc k) n (suc i) = limbs_fit k (n / 4294967296) i

-- the number of an integer without its sign
abbrev pub magnitude : ℤ → ℕ
magnitude (pos n) = n
magnitude (negsuc n) = suc n

-- four limbs, each below 2^32
pub amount_of_whole : (z : ℤ) → Whole (amount_of z)
unfolding amount_of
amount_of_whole (pos n) = record { four = length_limbs 4 n; fit = λ i. record { fits = limbs_fit 4 n i } }
amount_of_whole (negsuc n) = record { four = length_limbs 4 (suc n); fit = λ i. record { fits = limbs_fit 4 (suc n) i } }

-- an integer of up to 128 bits is what its amount stands for, and that is no minus zero
pub amount_of_is : (z : ℤ) → magnitude z < 2 ^ 128 → Is (amount_of z) z
unfolding amount_of value minus_zero
amount_of_is (pos n) h = record { stands = ap pos (digits_limbs 4 n h); plain = refl }
amount_of_is (negsuc n) h = let e = digits_limbs 4 (suc n) h in record { stands = rw e; plain = rw e (ne_eqb (suc n) 0 (λ q. omega arith)) }

pub value_amount_of : (z : ℤ) → magnitude z < 2 ^ 128 → value (amount_of z) ≡ z
value_amount_of z h = (amount_of_is z h).stands

-- what an amount stands for has its digits
magnitude_of : (s : Bool) (n : ℕ) → magnitude (signed s n) ≡ n
magnitude_of false n = refl
magnitude_of true zero = refl
magnitude_of true (suc n) = refl

magnitude_below : {a : Amount} {z : ℤ} → Whole a → Is a z → magnitude z < 2 ^ 128
unfolding value
magnitude_below {a} {z} w h =
    let e : magnitude z ≡ digits a.limbs =
    ap magnitude (sym h.stands) ∙ magnitude_of a.negative (digits a.limbs)
    in
    rw e (whole_below w)

-- an amount that a program holds and that stands for an integer is the one of that integer
pub is_amount_of : {a : Amount} {z : ℤ} → Whole a → Is a z → a ≡ amount_of z
is_amount_of {a} {z} w h = is_unique w (amount_of_whole z) h (amount_of_is z (magnitude_below w h))
