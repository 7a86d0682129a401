-- Laws of writing into a list of bytes that the laws of a table's memory cite, beside those of `LentBytesLaws`: a write says the
-- same where it also writes back what stands before it or behind it. Assumes nothing.
use Rattle.std.specs.Prelude.{◌≡◌, List, [], ◌∷◌, ◌++◌, ℕ, zero, suc, ◌+◌, ◌-◌, ◌≤◌, length, take, drop}
use Rattle.std.proofs.Common.{sym, ap, ◌∙◌, append_assoc, suc-add, zero-add, arith, length-append, take-append-drop, take-add, drop-drop}
use Rattle.std.proofs.Math.Nat.{sub-zero, zero-sub}
use Rattle.std.proofs.lemmas.List.{replicate-append-replicate}
use Rattle.std.proofs.Math.Seq.{take-nil}
use Rattle.lent_bytes.specs.LentBytes.{part, put, zeros}
use Rattle.lent_bytes.specs.LentBytesLaws.{length_part}

-- a write that begins earlier, with what stands there
pub put_earlier : (s : List ℕ) (at n : ℕ) (b : List ℕ) → at + n ≤ length s → put s (at + n) b ≡ put s at (part s at n ++ b)
unfolding put part
put_earlier s at n b h =
    let e : at + n + length b ≡ at + length (take n (drop at s) ++ b) = omega (arith, length-append (take n (drop at s)) b, length_part s at n h) in
    ap (λ (l : List ℕ). l ++ (b ++ drop (at + n + length b) s)) (take-add at n s)
    ∙ append_assoc (take at s) (take n (drop at s)) (b ++ drop (at + n + length b) s)
    ∙ ap (λ (l : List ℕ). take at s ++ l) (sym (append_assoc (take n (drop at s)) b (drop (at + n + length b) s)))
    ∙ ap (λ (m : ℕ). take at s ++ (take n (drop at s) ++ b ++ drop m s)) e

-- a write that ends later, with what stands there
pub put_later : (s : List ℕ) (at : ℕ) (b : List ℕ) (n : ℕ) → at + length b + n ≤ length s → put s at b ≡ put s at (b ++ part s (at + length b) n)
unfolding put part
put_later s at b n h =
    let end : ℕ = at + length b in
    let e : end + n ≡ at + length (b ++ take n (drop end s)) = omega (arith, length-append b (take n (drop end s)), length_part s end n h) in
    ap (λ (l : List ℕ). take at s ++ (b ++ l)) (sym (take-append-drop n (drop end s)) ∙ ap (λ (l : List ℕ). take n (drop end s) ++ l) (drop-drop n end s))
    ∙ ap (λ (l : List ℕ). take at s ++ l) (sym (append_assoc b (take n (drop end s)) (drop (end + n) s)))
    ∙ ap (λ (m : ℕ). take at s ++ (b ++ take n (drop end s) ++ drop m s)) e

-- a write from the beginning on
pub put_front : (s : List ℕ) (b : List ℕ) → put s 0 b ≡ b ++ drop (length b) s
unfolding put
put_front s b = ap (λ (m : ℕ). b ++ drop m s) (zero-add (length b))

-- a write, with all that stands before it
pub put_whole : (s : List ℕ) (at : ℕ) (b : List ℕ) → at ≤ length s → put s at b ≡ put s 0 (take at s ++ b)
unfolding part
put_whole s at b h = ap (λ (m : ℕ). put s m b) (sym (zero-add at)) ∙ put_earlier s 0 at b (omega arith)

-- what is left of a front is the part behind what was taken off it
pub drop_take : (m n : ℕ) (s : List ℕ) → drop m (take (m + n) s) ≡ take n (drop m s)
drop_take zero n s = ap (λ (k : ℕ). take k s) (zero-add n)
drop_take (suc m) n [] = ap (λ (l : List ℕ). drop (suc m) l) (take-nil (suc m + n)) ∙ sym (take-nil n)
drop_take (suc m) n (x ∷ s) = ap (λ (k : ℕ). drop (suc m) (take k (x ∷ s))) (suc-add m n) ∙ drop_take m n s

-- two runs of zeros are one
pub zeros_append : (n m : ℕ) → zeros n ++ zeros m ≡ zeros (n + m)
zeros_append n m = replicate-append-replicate n m 0

-- what is left of a run of zeros, and then of what stands behind it
pub drop_zeros : (k n : ℕ) (s : List ℕ) → drop k (zeros n ++ s) ≡ zeros (n - k) ++ drop (k - n) s
drop_zeros k zero s = rw (zero-sub, sub-zero)
drop_zeros zero (suc n) s = rw (sub-zero, zero-sub)
drop_zeros (suc k) (suc n) s =
    let e : suc n - suc k ≡ n - k = omega arith in
    let f : suc k - suc n ≡ k - n = omega arith in
    drop_zeros k n s ∙ rw (e, f)
