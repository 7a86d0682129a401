-- Laws of fronts: the n bytes at a place as one number, the first the highest. One law for every width. Assumes nothing.
use Rattle.std.specs.Prelude.{◌≡◌, refl, List, ℕ, zero, suc, ◌+◌, ◌*◌, ◌^◌, ◌≤◌, get_or}
use Rattle.std.proofs.Common.{sym, ap, ◌∙◌, zero-add, add-zero, add-suc, add_assoc, mul_assoc, arith}
use Rattle.std.proofs.Math.Nat.{pow-succ'}
use Rattle.lent_bytes.specs.LentBytes.{part}
use Rattle.lent_bytes.specs.Private.{front}
use Rattle.lent_bytes.specs.LentBytesLaws.{get_d_part}

-- the front of n + m bytes is that of the first n and, m bytes lower, that of the m behind them
pub front_append : (n m : ℕ) (s : List ℕ) (at : ℕ) → front (n + m) s at ≡ 256 ^ m * front n s at + front m s (at + n)
unfolding front
front_append n zero s at =
    let same : front (n + 0) s at ≡ front n s at = ap (λ (k : ℕ). front k s at) (add-zero n) in
    omega arith
front_append n (suc m) s at =
    let first : ℕ = front n s at in
    let higher : 256 ^ suc m * first ≡ 256 * (256 ^ m * first) = ap (λ (p : ℕ). p * first) (pow-succ' 256 m) ∙ mul_assoc 256 (256 ^ m) first in
    let last : get_or s (at + (n + m)) 0 ≡ get_or s (at + n + m) 0 = ap (λ (i : ℕ). get_or s i 0) (sym (add_assoc at n m)) in
    ap (λ (k : ℕ). front k s at) (add-suc n m) ∙ omega (arith, front_append n m s at)

-- a single byte
pub front_one : (s : List ℕ) (at : ℕ) → front 1 s at ≡ get_or s at 0
unfolding front
front_one s at =
    let same : get_or s (at + 0) 0 ≡ get_or s at 0 = ap (λ (i : ℕ). get_or s i 0) (add-zero at) in
    omega arith

-- the front of a part is that at the part's place
pub front_part : (n : ℕ) (s : List ℕ) (at k : ℕ) → n ≤ k → front n (part s at k) 0 ≡ front n s at
unfolding front
front_part zero s at k h = refl
front_part (suc n) s at k h =
    let byte : get_or (part s at k) (0 + n) 0 ≡ get_or s (at + n) 0 =
    ap (λ (i : ℕ). get_or (part s at k) i 0) (zero-add n) ∙ get_d_part s at k n (omega arith) in
    omega (arith, front_part n s at k (omega arith))
