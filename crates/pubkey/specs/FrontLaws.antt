-- Fronts, the n bytes at a place as one number, the first the highest, decide a comparison, or what stands behind them
-- does. One law for every width; the code takes eight bytes at a time. Assumes nothing.
use Rattle.std.proofs.Common.{⊎_elim, sym, ap, ◌∙◌, add-zero, add_assoc, add-one, arith}
use Rattle.std.specs.Prelude.{◌≡◌, ℕ, zero, suc, ◌+◌, ◌*◌, ◌<◌, ◌≤◌, List, length, drop, slice_index_or}
use Rattle.lent_bytes.specs.LentBytes.{part, Bytes}
use Rattle.lent_bytes.specs.Private.{front}
use Rattle.lent_bytes.specs.LentBytesLaws.{length_part, Bytes_part}
use Rattle.lent_bytes.specs.FrontLaws.{front_part}
use Rattle.pubkey.specs.Order.{◌then◌, compare_numbers, compare_bytes}
use Rattle.pubkey.specs.OrderLaws.{then_assoc, numbers_less, numbers_equal, numbers_greater, numbers_cases, compare_from}
use Rattle.std.specs.declared.cmp.Ordering.{Ordering}
use Rattle.std.specs.declared.cmp.Ordering.TheVariants.{Less, Greater}

-- ════ Numbers of two digits ════

-- numbers that are ordered as two others compare as they do
numbers_alike : (c d p q : ℕ) → (c < d → p < q) → (c ≡ d → p ≡ q) → (d < c → q < p) → compare_numbers c d ≡ compare_numbers p q
numbers_alike c d p q less equal greater =
    ⊎_elim (λ h. numbers_less h ∙ sym (numbers_less (less h)))
    (⊎_elim (λ h. numbers_equal h ∙ sym (numbers_equal (equal h))) (λ h. numbers_greater h ∙ sym (numbers_greater (greater h))))
    (numbers_cases c d)

-- the higher digits decide, or the lower ones do
compare_digits : (x y c d : ℕ) → c < 256 → d < 256
    → compare_numbers x y then compare_numbers c d ≡ compare_numbers (256 * x + c) (256 * y + d)
compare_digits x y c d fc fd =
    let p : ℕ = 256 * x + c in
    let q : ℕ = 256 * y + d in
    let lower : Ordering → Ordering = λ o. o then compare_numbers c d in
    ⊎_elim (λ h. ap lower (numbers_less h) ∙ sym (numbers_less {x = p} {y = q} (omega arith)))
    (⊎_elim (λ h. ap lower (numbers_equal h) ∙ numbers_alike c d p q (λ l. omega arith) (λ l. omega arith) (λ l. omega arith))
    (λ h. ap lower (numbers_greater h) ∙ sym (numbers_greater {x = p} {y = q} (omega arith))))
    (numbers_cases x y)

-- ════ Fronts ════

-- the fronts of two lists decide at a place, or what stands behind them does
pub compare_fronts : (n : ℕ) (a b : List ℕ) (i : ℕ) → Bytes a → Bytes b → i + n ≤ length a → i + n ≤ length b
    → compare_bytes (drop i a) (drop i b)
    ≡ compare_numbers (front n a i) (front n b i) then compare_bytes (drop (i + n) a) (drop (i + n) b)
unfolding front
compare_fronts zero a b i fa fb ha hb = rw add-zero
compare_fronts (suc n) a b i fa fb ha hb =
    let x = front n a i in
    let y = front n b i in
    let c = slice_index_or a (i + n) 0 in
    let d = slice_index_or b (i + n) 0 in
    let behind = compare_bytes (drop (i + n + 1) a) (drop (i + n + 1) b) in
    compare_fronts n a b i fa fb (omega arith) (omega arith)
    ∙ ap (λ (o : Ordering). compare_numbers x y then o) (compare_from a b (i + n) (omega arith) (omega arith))
    ∙ sym (then_assoc (compare_numbers x y) (compare_numbers c d) behind)
    ∙ ap (λ (o : Ordering). o then behind) (compare_digits x y c d (fa (i + n)) (fb (i + n)))
    ∙ ap (λ (j : ℕ). compare_numbers (256 * x + c) (256 * y + d) then compare_bytes (drop j a) (drop j b)) (add_assoc i n 1 ∙ ap (λ (m : ℕ). i + m) (add-one n))

-- ════ One turn of a loop over both ════

module _ (n : ℕ) (a b : List ℕ) (i : ℕ) (fa : Bytes a) (fb : Bytes b) (ha : i + n ≤ length a) (hb : i + n ≤ length b) where
  -- by an answer of the fronts
  by_fronts : {o : Ordering} → compare_numbers (front n a i) (front n b i) ≡ o
      → compare_bytes (drop i a) (drop i b) ≡ o then compare_bytes (drop (i + n) a) (drop (i + n) b)
  by_fronts h =
      compare_fronts n a b i fa fb ha hb ∙ ap (λ (o : Ordering). o then compare_bytes (drop (i + n) a) (drop (i + n) b)) h

  pub fronts_less : front n a i < front n b i → compare_bytes (drop i a) (drop i b) ≡ Less
  fronts_less h = by_fronts (numbers_less h)

  pub fronts_greater : front n b i < front n a i → compare_bytes (drop i a) (drop i b) ≡ Greater
  fronts_greater h = by_fronts (numbers_greater h)

  pub fronts_equal : front n a i ≡ front n b i → compare_bytes (drop i a) (drop i b) ≡ compare_bytes (drop (i + n) a) (drop (i + n) b)
  fronts_equal h = by_fronts (numbers_equal h)

-- ════ Parts of one width ════

module _ (n k : ℕ) (s : List ℕ) (i : ℕ) (t : List ℕ) (j : ℕ) (narrow : n ≤ k) (fs : Bytes s) (ft : Bytes t) (hs : i + k ≤ length s) (ht : j + k ≤ length t) where
  -- the part with the smaller front comes first
  pub front_less : front n s i < front n t j → compare_bytes (part s i k) (part t j k) ≡ Less
  front_less less =
      let a : List ℕ = part s i k in
      let b : List ℕ = part t j k in
      let fewer : front n a 0 < front n b 0 = omega (arith, front_part n s i k narrow, front_part n t j k narrow) in
      fronts_less n a b 0 (Bytes_part s i k fs) (Bytes_part t j k ft) (omega (arith, length_part s i k hs)) (omega (arith, length_part t j k ht)) fewer
