-- Laws of `LentBytes`, which the proofs of callers cite. Nobody needs to believe these: they are proved. Assumes nothing.
--
-- In order: lengths; what stands before, at and behind a written run; two writes; parts of parts; one byte more (how a loop's
-- invariant grows); numbers and their bytes; bytes stay bytes; what is written reads back.
use Rattle.std.specs.Prelude.{◌≡◌, refl, List, [], ◌∷◌, ◌++◌, ℕ, zero, suc, ◌+◌, ◌-◌, ◌*◌, ◌/◌, ◌%◌, ◌^◌, ◌≤◌, ◌<◌, length, take, drop, get_or, set}
use Rattle.std.proofs.Common.{sym, ap, ◌∙◌, subst, append_assoc, add-zero, zero-add, suc-add, add_assoc, add-sub_of_le, le-add_right, le_refl, pow-suc, lit<, add-one, arith, length-append, length-take, length-drop, take-append-drop, length-take-le, drop_at, take-take, drop-drop, take-add, take-suc, drop-cons, get_or-take, get_or-drop}
use Rattle.std.proofs.Math.Nat.{pow-succ', div-div-eq-div-mul, one-le-pow}
use Rattle.std.proofs.Math.Arith.{mod-mul}
use Rattle.std.proofs.lemmas.List.{length-replicate, replicate-append-replicate, take-append-le, set_split}
use Rattle.std.proofs.Math.Seq.{take-append_seam, take-length, take-nil}
use Rattle.lent_bytes.specs.LentBytes.{part, put, le, bytes, zeros, Bytes}

-- ════ Lengths ════

-- a write that fits leaves the length as it was
pub length_put : (s : List ℕ) (at : ℕ) (b : List ℕ) → at + length b ≤ length s → length (put s at b) ≡ length s
unfolding put
length_put s at b h = simp (length-append, length-take, length-drop) (omega arith)

-- a part that lies within s has the length that was asked for
pub length_part : (s : List ℕ) (at n : ℕ) → at + n ≤ length s → length (part s at n) ≡ n
unfolding part
length_part s at n h = simp (length-take, length-drop) (omega arith)

-- n bytes of a number are n
pub length_bytes : (n v : ℕ) → length (bytes n v) ≡ n
length_bytes zero v = refl
length_bytes (suc n) v = ap suc (length_bytes n (v / 256))

-- n zero bytes are n
pub length_zeros : (n : ℕ) → length (zeros n) ≡ n
length_zeros n = length-replicate n 0

-- ════ What stands before, at and behind a written run ════

-- a part is what is left of a front: the other way round of writing it
part_of_take : (s : List ℕ) (at n : ℕ) → part s at n ≡ drop at (take (at + n) s)
unfolding part
part_of_take s zero n = ap (λ (k : ℕ). take k s) (sym (zero-add n))
part_of_take [] (suc at) n = take-nil n ∙ sym (ap (λ (l : List ℕ). drop (suc at) l) (take-nil (suc at + n)))
part_of_take (x ∷ s) (suc at) n = part_of_take s at n ∙ ap (λ (k : ℕ). drop (suc at) (take k (x ∷ s))) (sym (suc-add at n))

-- what stands before the written run is as it was
pub take_put : (s : List ℕ) (at : ℕ) (b : List ℕ) (n : ℕ) → n ≤ at → at ≤ length s → take n (put s at b) ≡ take n s
unfolding put
take_put s at b n h k =
    take-append-le n (take at s) _ (subst (λ (m : ℕ). n ≤ m) (sym (length-take-le at s k)) h) ∙ take-take n at s h

-- the written run is what stands at its place, before what stood behind it
pub drop_put_run : (s : List ℕ) (at : ℕ) (b : List ℕ) → at ≤ length s → drop at (put s at b) ≡ b ++ drop (at + length b) s
unfolding put
drop_put_run s at b k = drop_at (take at s) _ at (length-take-le at s k)

-- what stands behind the written run is as it was
pub drop_put : (s : List ℕ) (at : ℕ) (b : List ℕ) (n : ℕ) → at + length b ≤ n → at ≤ length s → drop n (put s at b) ≡ drop n s
drop_put s at b n h k =
    let e : (at + length b) + (n - (at + length b)) ≡ n = add-sub_of_le h in
    let f : drop (at + length b) (put s at b) ≡ drop (at + length b) s =
    sym (drop-drop (length b) at (put s at b)) ∙ ap (λ (l : List ℕ). drop (length b) l) (drop_put_run s at b k)
    ∙ drop_at b (drop (at + length b) s) (length b) refl in
    ap (λ (m : ℕ). drop m (put s at b)) (sym e) ∙ sym (drop-drop (n - (at + length b)) (at + length b) (put s at b))
    ∙ ap (λ (l : List ℕ). drop (n - (at + length b)) l) f
    ∙ drop-drop (n - (at + length b)) (at + length b) s ∙ ap (λ (m : ℕ). drop m s) e

-- the front up to the end of the written run is what stood before it, and the run
pub take_put_end : (s : List ℕ) (at : ℕ) (b : List ℕ) → at ≤ length s → take (at + length b) (put s at b) ≡ take at s ++ b
take_put_end s at b k =
    take-add at (length b) (put s at b)
    ∙ ap (λ (l : List ℕ). l ++ take (length b) (drop at (put s at b))) (take_put s at b at (le_refl at) k)
    ∙ ap (λ (l : List ℕ). take at s ++ take (length b) l) (drop_put_run s at b k)
    ∙ ap (λ (l : List ℕ). take at s ++ l) (take-append_seam b (drop (at + length b) s))

-- the part that was written reads back
pub part_put : (s : List ℕ) (at : ℕ) (b : List ℕ) → at ≤ length s → part (put s at b) at (length b) ≡ b
unfolding part
part_put s at b k =
    ap (λ (l : List ℕ). take (length b) l) (drop_put_run s at b k) ∙ take-append_seam b (drop (at + length b) s)

-- the same, where the run's length is known by an equation
pub part_put_at : (s : List ℕ) (at : ℕ) (b : List ℕ) (n : ℕ) → length b ≡ n → at ≤ length s → part (put s at b) at n ≡ b
part_put_at s at b n e k = ap (λ (m : ℕ). part (put s at b) at m) (sym e) ∙ part_put s at b k

-- a part wholly before the written run is as it was
pub part_put_before : (s : List ℕ) (at : ℕ) (b : List ℕ) (i n : ℕ) → i + n ≤ at → at ≤ length s → part (put s at b) i n ≡ part s i n
part_put_before s at b i n h k =
    part_of_take (put s at b) i n ∙ ap (λ (l : List ℕ). drop i l) (take_put s at b (i + n) h k) ∙ sym (part_of_take s i n)

-- a part wholly behind the written run is as it was
pub part_put_after : (s : List ℕ) (at : ℕ) (b : List ℕ) (i n : ℕ) → at + length b ≤ i → at ≤ length s → part (put s at b) i n ≡ part s i n
unfolding part
part_put_after s at b i n h k = ap (λ (l : List ℕ). take n l) (drop_put s at b i h k)

-- ════ Two writes ════

-- a write, and one right behind it, are one write
pub put_put : (s : List ℕ) (at : ℕ) (b c : List ℕ) → at ≤ length s → put (put s at b) (at + length b) c ≡ put s at (b ++ c)
unfolding put
put_put s at b c k =
    let e : at + length b + length c ≡ at + length (b ++ c) = omega (arith, length-append b c) in
    ap (λ (l : List ℕ). l ++ (c ++ drop (at + length b + length c) (put s at b))) (take_put_end s at b k)
    ∙ ap (λ (l : List ℕ). take at s ++ b ++ (c ++ l)) (drop_put s at b (at + length b + length c) (le-add_right _ _) k)
    ∙ append_assoc (take at s) b (c ++ drop (at + length b + length c) s)
    ∙ ap (λ (l : List ℕ). take at s ++ l) (sym (append_assoc b c (drop (at + length b + length c) s)))
    ∙ ap (λ (m : ℕ). take at s ++ (b ++ c ++ drop m s)) e

-- the same, where the first run's length is known by an equation
pub put_put_at : (s : List ℕ) (at : ℕ) (b c : List ℕ) (n : ℕ) → length b ≡ n → at ≤ length s → put (put s at b) (at + n) c ≡ put s at (b ++ c)
put_put_at s at b c n e k = ap (λ (m : ℕ). put (put s at b) (at + m) c) (sym e) ∙ put_put s at b c k

-- a write, and one right in front of it, are one write
pub put_under : (s : List ℕ) (at : ℕ) (b c : List ℕ) → at + length b ≤ length s → put (put s (at + length b) c) at b ≡ put s at (b ++ c)
unfolding put
put_under s at b c k =
    let e : at + length b + length c ≡ at + length (b ++ c) = omega (arith, length-append b c) in
    ap (λ (l : List ℕ). l ++ (b ++ drop (at + length b) (put s (at + length b) c))) (take_put s (at + length b) c at (le-add_right at (length b)) k)
    ∙ ap (λ (l : List ℕ). take at s ++ (b ++ l)) (drop_put_run s (at + length b) c k)
    ∙ ap (λ (l : List ℕ). take at s ++ l) (sym (append_assoc b c (drop (at + length b + length c) s)))
    ∙ ap (λ (m : ℕ). take at s ++ (b ++ c ++ drop m s)) e

-- the same, where the front run's length is known by an equation
pub put_under_at : (s : List ℕ) (at : ℕ) (b c : List ℕ) (n : ℕ) → length b ≡ n → at + n ≤ length s → put (put s (at + n) c) at b ≡ put s at (b ++ c)
put_under_at s at b c n e k =
    ap (λ (m : ℕ). put (put s (at + m) c) at b) (sym e)
    ∙ put_under s at b c (subst (λ (m : ℕ). at + m ≤ length s) (sym e) k)

-- a second write that covers the first replaces it
pub put_over : (s : List ℕ) (at : ℕ) (b c : List ℕ) → length b ≤ length c → at ≤ length s → put (put s at b) at c ≡ put s at c
unfolding put
put_over s at b c h k =
    ap (λ (l : List ℕ). l ++ (c ++ drop (at + length c) (put s at b))) (take_put s at b at (le_refl at) k)
    ∙ ap (λ (l : List ℕ). take at s ++ (c ++ l)) (drop_put s at b (at + length c) (omega arith) k)

-- writing nothing changes nothing
pub put_nil : (s : List ℕ) (at : ℕ) → put s at [] ≡ s
unfolding put
put_nil s at = ap (λ (n : ℕ). take at s ++ drop n s) (add-zero at) ∙ take-append-drop at s

-- writing back what stands there changes nothing
pub put_part : (s : List ℕ) (at n : ℕ) → at + n ≤ length s → put s at (part s at n) ≡ s
unfolding put part
put_part s at n h =
    let e : length (take n (drop at s)) ≡ n = length_part s at n h in
    ap (λ (m : ℕ). take at s ++ (take n (drop at s) ++ drop (at + m) s)) e
    ∙ ap (λ (l : List ℕ). take at s ++ (take n (drop at s) ++ l)) (sym (drop-drop n at s))
    ∙ ap (λ (l : List ℕ). take at s ++ l) (take-append-drop n (drop at s)) ∙ take-append-drop at s

-- ════ Parts of parts ════

-- a part of no bytes is empty
pub part_zero : (s : List ℕ) (at : ℕ) → part s at 0 ≡ []
unfolding part
part_zero s at = refl

-- the part of all bytes is the whole
pub part_all : (s : List ℕ) → part s 0 (length s) ≡ s
unfolding part
part_all s = take-length s

-- a part of n + m bytes is the n bytes and the m behind them
pub part_append : (s : List ℕ) (at n m : ℕ) → part s at (n + m) ≡ part s at n ++ part s (at + n) m
unfolding part
part_append s at n m =
    take-add n m (drop at s) ∙ ap (λ (l : List ℕ). take n (drop at s) ++ take m l) (drop-drop n at s)

-- a part of a part is a part
pub part_part : (s : List ℕ) (at n i m : ℕ) → i + m ≤ n → part (part s at n) i m ≡ part s (at + i) m
unfolding part
part_part s at n i m h =
    part_of_take (take n (drop at s)) i m ∙ ap (λ (l : List ℕ). drop i l) (take-take (i + m) n (drop at s) h)
    ∙ sym (part_of_take (drop at s) i m) ∙ ap (λ (l : List ℕ). take m l) (drop-drop i at s)

-- a front of a part is a part
pub take_part : (s : List ℕ) (at n i : ℕ) → i ≤ n → take i (part s at n) ≡ part s at i
unfolding part
take_part s at n i h = take-take i n (drop at s) h

-- the rest of a part is a part
pub drop_part : (s : List ℕ) (at n i : ℕ) → i ≤ n → drop i (part s at n) ≡ part s (at + i) (n - i)
unfolding part
drop_part s at n i h =
    ap (λ (m : ℕ). drop i (take m (drop at s))) (sym (add-sub_of_le h)) ∙ sym (part_of_take (drop at s) i (n - i))
    ∙ ap (λ (l : List ℕ). take (n - i) l) (drop-drop i at s)

-- a part that lies within a written run is a part of what was written
pub part_put_within : (s : List ℕ) (at : ℕ) (b : List ℕ) (i n : ℕ) → i + n ≤ length b → at ≤ length s → part (put s at b) (at + i) n ≡ part b i n
part_put_within s at b i n h k =
    sym (part_part (put s at b) at (length b) i n h) ∙ ap (λ (l : List ℕ). part l i n) (part_put s at b k)

-- a part around the written run is the part with the run written into it
pub part_put_around : (s : List ℕ) (at n i : ℕ) (b : List ℕ) → i + length b ≤ n → at + n ≤ length s → part (put s (at + i) b) at n ≡ put (part s at n) i b
unfolding put
part_put_around s at n i b h k =
    let j : ℕ = i + length b in
    let e : j + (n - j) ≡ n = add-sub_of_le h in
    let x : List ℕ = put s (at + i) b in
    let behind : at + i + length b ≡ at + j = add_assoc at i (length b) in
    let front : part x at i ≡ take i (part s at n) =
    part_put_before s (at + i) b at i (le_refl (at + i)) (omega arith) ∙ sym (take_part s at n i (omega arith)) in
    let run : part x (at + i) (length b) ≡ b = part_put s (at + i) b (omega arith) in
    let rest : part x (at + j) (n - j) ≡ drop j (part s at n) =
    part_put_after s (at + i) b (at + j) (n - j) (omega arith) (omega arith) ∙ sym (drop_part s at n j h) in
    ap (λ (m : ℕ). part x at m) (sym e) ∙ part_append x at j (n - j)
    ∙ ap (λ (l : List ℕ). l ++ part x (at + j) (n - j)) (part_append x at i (length b))
    ∙ append_assoc (part x at i) (part x (at + i) (length b)) (part x (at + j) (n - j))
    ∙ (λ d. front d ++ (run d ++ rest d))

-- ════ One byte more: how the invariant of a loop that writes bytes grows ════

-- a part's first byte
pub part_cons : (s : List ℕ) (at n : ℕ) → at < length s → part s at (suc n) ≡ get_or s at 0 ∷ part s (suc at) n
unfolding part
part_cons s at n h = ap (λ (l : List ℕ). take (suc n) l) (drop-cons s at 0 h)

-- a part's last byte
pub part_snoc : (s : List ℕ) (at n : ℕ) → at + n < length s → part s at (suc n) ≡ part s at n ++ (get_or s (at + n) 0 ∷ [])
unfolding part
part_snoc s at n h =
    take-suc (drop at s) n 0 (rw length-drop (omega arith))
    ∙ ap (λ (b : ℕ). take n (drop at s) ++ (b ∷ [])) (get_or-drop at s n 0)

-- an element of a part
pub get_d_part : (s : List ℕ) (at n i : ℕ) → i < n → get_or (part s at n) i 0 ≡ get_or s (at + i) 0
unfolding part
get_d_part s at n i h = get_or-take n (drop at s) i 0 h ∙ get_or-drop at s i 0

-- a byte before the written run is as it was
pub get_or_put_before : (s : List ℕ) (at : ℕ) (b : List ℕ) (i : ℕ) → i < at → at ≤ length s → get_or (put s at b) i 0 ≡ get_or s i 0
get_or_put_before s at b i h k =
    sym (get_or-take at (put s at b) i 0 h) ∙ ap (λ (l : List ℕ). get_or l i 0) (take_put s at b at (le_refl at) k) ∙ get_or-take at s i 0 h

-- a byte behind the written run is as it was
pub get_or_put_after : (s : List ℕ) (at : ℕ) (b : List ℕ) (i : ℕ) → at + length b ≤ i → at ≤ length s → get_or (put s at b) i 0 ≡ get_or s i 0
get_or_put_after s at b i h k =
    ap (λ (m : ℕ). get_or (put s at b) m 0) (sym (add-zero i)) ∙ sym (get_or-drop i (put s at b) 0 0)
    ∙ ap (λ (l : List ℕ). get_or l 0 0) (drop_put s at b i h k) ∙ get_or-drop i s 0 0 ∙ ap (λ (m : ℕ). get_or s m 0) (add-zero i)

-- a store of one byte is a write of it
pub set_put : (s : List ℕ) (at a : ℕ) → at < length s → set s at a ≡ put s at (a ∷ [])
unfolding put
set_put s at a h = set_split s at a h ∙ ap (λ (m : ℕ). take at s ++ a ∷ drop m s) (sym (add-one at))

-- a store right behind a written run makes the run one longer
pub put_snoc : (s : List ℕ) (at : ℕ) (b : List ℕ) (a : ℕ) → at + length b < length s → set (put s at b) (at + length b) a ≡ put s at (b ++ (a ∷ []))
put_snoc s at b a h =
    set_put (put s at b) (at + length b) a (rw (length_put s at b (omega arith)) h) ∙ put_put s at b (a ∷ []) (omega arith)

-- a store right in front of a written run makes the run one longer
pub put_cons : (s : List ℕ) (at : ℕ) (b : List ℕ) (a : ℕ) → suc at + length b ≤ length s → set (put s (suc at) b) at a ≡ put s at (a ∷ b)
put_cons s at b a h =
    set_put (put s (suc at) b) at a (rw (length_put s (suc at) b h) (omega arith))
    ∙ ap (λ (m : ℕ). put (put s m b) at (a ∷ [])) (sym (add-one at)) ∙ put_under s at (a ∷ []) b (omega arith)

-- ════ Numbers and their bytes ════

-- the number of a longer run is that of its front and, as many bytes higher, that of its rest
pub le_append : (a b : List ℕ) → le (a ++ b) ≡ le a + 256 ^ length a * le b
le_append [] b = omega arith
le_append (x ∷ a) b =
    let e : le (a ++ b) ≡ le a + 256 ^ length a * le b = le_append a b in
    let p : 256 ^ suc (length a) * le b ≡ 256 * (256 ^ length a * le b) = rw pow-suc (omega arith) in
    omega arith

-- the bytes of a number are those of its low part and then those of its high part
pub bytes_append : (n m v : ℕ) → bytes (n + m) v ≡ bytes n v ++ bytes m (v / 256 ^ n)
bytes_append zero m v = ap (λ (k : ℕ). bytes k v) (zero-add m) ∙ ap (λ (x : ℕ). bytes m x) (omega arith)
bytes_append (suc n) m v =
    ap (λ (k : ℕ). bytes k v) (suc-add n m)
    ∙ ap (λ (l : List ℕ). v % 256 ∷ l) (bytes_append n m (v / 256)
    ∙ ap (λ (x : ℕ). bytes n (v / 256) ++ bytes m x) (div-div-eq-div-mul v 256 (256 ^ n) ∙ ap (λ (k : ℕ). v / k) (sym (pow-succ' 256 n))))

-- bytes spell a number below as many powers of 256
pub le_lt : (s : List ℕ) → Bytes s → le s < 256 ^ length s
le_lt [] h = omega arith
le_lt (b ∷ s) h =
    let r : le s < 256 ^ length s = le_lt s (λ i. h (suc i)) in
    let f : b < 256 = h zero in
    let p : 256 ^ suc (length s) ≡ 256 ^ length s * 256 = pow-suc 256 (length s) in
    omega arith

-- the bytes of a number that n bytes can hold spell it
pub le_bytes : (n v : ℕ) → v < 256 ^ n → le (bytes n v) ≡ v
le_bytes zero v h = omega arith
le_bytes (suc n) v h =
    let p : 256 ^ suc n ≡ 256 ^ n * 256 = pow-suc 256 n in
    let r : le (bytes n (v / 256)) ≡ v / 256 = le_bytes n (v / 256) (omega arith) in
    omega arith

-- the same for a u16
pub le_bytes_2 : (v : ℕ) → v < 2 ^ 16 → le (bytes 2 v) ≡ v
le_bytes_2 v h = le_bytes 2 v h

-- the same for a u32
pub le_bytes_4 : (v : ℕ) → v < 2 ^ 32 → le (bytes 4 v) ≡ v
le_bytes_4 v h = le_bytes 4 v h

-- the same for a u64
pub le_bytes_8 : (v : ℕ) → v < 2 ^ 64 → le (bytes 8 v) ≡ v
le_bytes_8 v h = le_bytes 8 v h

-- the bytes of the number that bytes spell are those bytes
pub bytes_le : (s : List ℕ) → Bytes s → bytes (length s) (le s) ≡ s
bytes_le [] h = refl
bytes_le (b ∷ s) h =
    let f : b < 256 = h zero in
    let low : (b + 256 * le s) % 256 ≡ b = omega arith in
    let high : (b + 256 * le s) / 256 ≡ le s = omega arith in
    ap (λ (x : ℕ). x ∷ bytes (length s) ((b + 256 * le s) / 256)) low
    ∙ ap (λ (x : ℕ). b ∷ bytes (length s) x) high ∙ ap (λ (l : List ℕ). b ∷ l) (bytes_le s (λ i. h (suc i)))

-- the low bytes of a number are those of what is left of it by as many powers of 256
pub bytes_mod : (n v : ℕ) → bytes n (v % 256 ^ n) ≡ bytes n v
bytes_mod zero v = refl
bytes_mod (suc n) v =
    let e : v % 256 ^ suc n ≡ (v / 256 % 256 ^ n) * 256 + v % 256 = rw pow-suc (mod-mul v (one-le-pow n 256 (lit< tt)) (lit< tt)) in
    let low : v % 256 ^ suc n % 256 ≡ v % 256 = omega arith in
    let high : v % 256 ^ suc n / 256 ≡ v / 256 % 256 ^ n = omega arith in
    ap (λ (x : ℕ). x ∷ bytes n (v % 256 ^ suc n / 256)) low
    ∙ ap (λ (x : ℕ). v % 256 ∷ bytes n x) high ∙ ap (λ (l : List ℕ). v % 256 ∷ l) (bytes_mod n (v / 256))

-- one byte spells itself
pub le_part_one : (s : List ℕ) (at : ℕ) → at < length s → le (part s at 1) ≡ get_or s at 0
unfolding part
le_part_one s at h = ap le (part_cons s at 0 h) ∙ omega arith

-- a number is read by its low part and its high part
pub le_part_append : (s : List ℕ) (at n m : ℕ) → at + n ≤ length s → le (part s at (n + m)) ≡ le (part s at n) + 256 ^ n * le (part s (at + n) m)
le_part_append s at n m h =
    ap le (part_append s at n m) ∙ le_append (part s at n) (part s (at + n) m)
    ∙ ap (λ (k : ℕ). le (part s at n) + 256 ^ k * le (part s (at + n) m)) (length_part s at n h)

-- a number is written by its low part and then its high part
pub put_bytes_append : (s : List ℕ) (at n m v : ℕ) → at ≤ length s → put (put s at (bytes n (v % 256 ^ n))) (at + n) (bytes m (v / 256 ^ n)) ≡ put s at (bytes (n + m) v)
put_bytes_append s at n m v h =
    let low : List ℕ = bytes n v in
    let high : List ℕ = bytes m (v / 256 ^ n) in
    ap (λ (l : List ℕ). put (put s at l) (at + n) high) (bytes_mod n v)
    ∙ put_put_at s at low high n (length_bytes n v) h ∙ ap (λ (l : List ℕ). put s at l) (sym (bytes_append n m v))

-- zero bytes spell zero
pub le_zeros : (n : ℕ) → le (zeros n) ≡ 0
le_zeros zero = refl
le_zeros (suc n) = let e : le (zeros n) ≡ 0 = le_zeros n in omega arith

-- the bytes of zero are zeros
pub bytes_zero : (n : ℕ) → bytes n 0 ≡ zeros n
bytes_zero zero = refl
bytes_zero (suc n) = ap (λ (l : List ℕ). 0 ∷ l) (bytes_zero n)

-- more zeros behind zeros
pub zeros_append : (n m : ℕ) → zeros (n + m) ≡ zeros n ++ zeros m
zeros_append n m = sym (replicate-append-replicate n m 0)

-- ════ Bytes stay bytes ════

-- no bytes are bytes
pub Bytes_nil : Bytes []
Bytes_nil i = omega arith

-- one byte more
pub Bytes_cons : (b : ℕ) (s : List ℕ) → b < 256 → Bytes s → Bytes (b ∷ s)
Bytes_cons b s h k zero = h
Bytes_cons b s h k (suc i) = k i

-- two runs of bytes, one behind the other
pub Bytes_append : (a b : List ℕ) → Bytes a → Bytes b → Bytes (a ++ b)
Bytes_append [] b h k = k
Bytes_append (x ∷ a) b h k = Bytes_cons x (a ++ b) (h zero) (Bytes_append a b (λ i. h (suc i)) k)

-- a front of bytes
pub Bytes_take : (n : ℕ) (s : List ℕ) → Bytes s → Bytes (take n s)
Bytes_take zero s h = Bytes_nil
Bytes_take (suc n) [] h = Bytes_nil
Bytes_take (suc n) (x ∷ s) h = Bytes_cons x (take n s) (h zero) (Bytes_take n s (λ i. h (suc i)))

-- the rest of bytes
pub Bytes_drop : (n : ℕ) (s : List ℕ) → Bytes s → Bytes (drop n s)
Bytes_drop n s h i = rw get_or-drop (h (n + i))

-- a part of bytes
pub Bytes_part : (s : List ℕ) (at n : ℕ) → Bytes s → Bytes (part s at n)
unfolding part
Bytes_part s at n h = Bytes_take n (drop at s) (Bytes_drop at s h)

-- bytes with bytes written over them
pub Bytes_put : (s : List ℕ) (at : ℕ) (b : List ℕ) → Bytes s → Bytes b → Bytes (put s at b)
unfolding put
Bytes_put s at b h k =
    Bytes_append (take at s) (b ++ drop (at + length b) s) (Bytes_take at s h)
    (Bytes_append b (drop (at + length b) s) k (Bytes_drop (at + length b) s h))

-- zero bytes
pub Bytes_zeros : (n : ℕ) → Bytes (zeros n)
Bytes_zeros zero = Bytes_nil
Bytes_zeros (suc n) = Bytes_cons 0 (zeros n) (omega arith) (Bytes_zeros n)

-- the bytes of a number
pub Bytes_bytes : (n v : ℕ) → Bytes (bytes n v)
Bytes_bytes zero v = Bytes_nil
Bytes_bytes (suc n) v = Bytes_cons (v % 256) (bytes n (v / 256)) (omega arith) (Bytes_bytes n (v / 256))

-- ════ What is written reads back ════

-- a number that was written reads back
pub written_reads_back : (s : List ℕ) (at n v : ℕ) → at + n ≤ length s → v < 256 ^ n → le (part (put s at (bytes n v)) at n) ≡ v
written_reads_back s at n v h f =
    ap le (part_put_at s at (bytes n v) n (length_bytes n v) (omega arith)) ∙ le_bytes n v f

-- writing back the number that was read changes nothing
pub read_writes_back : (s : List ℕ) (at n : ℕ) → Bytes s → at + n ≤ length s → put s at (bytes n (le (part s at n))) ≡ s
read_writes_back s at n f h =
    ap (λ (m : ℕ). put s at (bytes m (le (part s at n)))) (sym (length_part s at n h))
    ∙ ap (λ (l : List ℕ). put s at l) (bytes_le (part s at n) (Bytes_part s at n f)) ∙ put_part s at n h

-- a number that is read fits its bytes
pub le_part_lt : (s : List ℕ) (at n : ℕ) → Bytes s → at + n ≤ length s → le (part s at n) < 256 ^ n
le_part_lt s at n f h =
    subst (λ (m : ℕ). le (part s at n) < 256 ^ m) (length_part s at n h) (le_lt (part s at n) (Bytes_part s at n f))
