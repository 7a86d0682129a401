-- What the ways of writing a run of bytes leave is a `put`: a write into a part of a slice, a copy within a slice, and one turn of a loop
-- that copies byte by byte, where what was copied so far is a `put`, and the turn's store makes it the `put` of one byte more. Assumes
-- nothing.
use Rattle.std.proofs.Common.{rules, ◌≡◌, ◌∙◌, ap, sym, subst, List, [], ◌∷◌, ◌++◌, ℕ, ◌+◌, ◌-◌, ◌≤◌, ◌<◌, length, take, drop, get_or, set, add-one, append_assoc, arith}
use Rattle.std.proofs.lemmas.Slice.{overwrites}
use Rattle.std.specs.List.{copy_within}
use borrow.Rule.Slice.PartMut.{put_mid}
use Rattle.lent_bytes.specs.LentBytes.{part, put}
use Rattle.lent_bytes.specs.LentBytesLaws.{length_part, part_snoc, put_snoc}

-- the bytes of a part, written anew
pub written : (s : List ℕ) (at n : ℕ) (b : List ℕ) → length b ≡ n → put_mid at (at + n - at) s b ≡ put s at b
unfolding put
written s at n b e = search (rules, overwrites, e)

-- the count bytes at a place, copied to another
pub copied : (s : List ℕ) (at count to : ℕ) → at + count ≤ length s → copy_within s at (at + count) to ≡ put s to (part s at count)
unfolding put part
copied s at count to h =
    let n : at + count - at ≡ count = omega arith in
    let m : length (part s at count) ≡ count = length_part s at count h in
    ap (λ (k : ℕ). take to s ++ take k (drop at s) ++ drop (to + k) s) n
    ∙ append_assoc (take to s) (take count (drop at s)) (drop (to + count) s)
    ∙ ap (λ (k : ℕ). take to s ++ (take count (drop at s) ++ drop (to + k) s)) (sym m)

-- a store right behind a written run of i bytes
put_next : (s : List ℕ) (at : ℕ) (b : List ℕ) (i a : ℕ) → length b ≡ i → at + i < length s → set (put s at b) (at + i) a ≡ put s at (b ++ (a ∷ []))
put_next s at b i a e h =
    ap (λ (n : ℕ). set (put s at b) (at + n) a) (sym e) ∙ put_snoc s at b a (subst (λ (n : ℕ). at + n < length s) (sym e) h)

-- the next byte of src is copied behind the i that were
pub copied_next : (s : List ℕ) (to : ℕ) (src : List ℕ) (from i : ℕ) → to + i < length s → from + i < length src → set (put s to (part src from i)) (to + i) (get_or src (from + i) 0) ≡ put s to (part src from (i + 1))
copied_next s to src from i h k =
    put_next s to (part src from i) i (get_or src (from + i) 0) (length_part src from i (omega arith)) h
    ∙ ap (λ (l : List ℕ). put s to l) (sym (part_snoc src from i k)) ∙ ap (λ (n : ℕ). put s to (part src from n)) (sym (add-one i))
