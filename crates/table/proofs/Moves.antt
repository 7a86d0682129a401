-- The writes of `rows`, over plain lists and numbers: what the calls of `lent_bytes` leave is one `put`. Assumes nothing.
use mathlib.Core.Path.{◌≡◌, sym, ap, ◌∙◌}
use mathlib.Core.List.{List, [], ◌∷◌, ◌++◌, append-nil}
use Prim.Native.Nat.{ℕ, ◌+◌, ◌-◌, ◌*◌, ◌<◌, ◌≤◌}
use native.Mathlib.Nat.{mul-add, add-sub_of_le}
use native.Mathlib.Numerals.{add-one}
use native.Mathlib.Omega.{arith}
use lib.ListN.{length, take, get_or, length-append}
use lib.Seq.{length-take-le, take-suc}
use Rattle.lent_bytes.specs.LentBytes.{put, part, bytes, zeros}
use Rattle.lent_bytes.specs.LentBytesLaws.{length_part, length_put, put_put, put_under}
use Rattle.table.specs.Memory.{word_bytes}
use Rattle.table.specs.MemoryLaws.{length_word_bytes, word_bytes_append}

-- the place behind the i-th of n
pub next_place : (w i : ℕ) → w * (i + 1) ≡ w * i + w
next_place w i = omega (arith, mul-add w i 1)

-- i places and the rest of them are n places
pub places : (w n i : ℕ) → i ≤ n → w * i + w * (n - i) ≡ w * n
places w n i h = sym (mul-add w i (n - i)) ∙ ap (λ (k : ℕ). w * k) (add-sub_of_le h)

-- i places, m more, and the rest of them are n places
pub places_around : (w n i m : ℕ) → i + m ≤ n → w * i + w * m + w * (n - (i + m)) ≡ w * n
places_around w n i m h = omega (arith, mul-add w i m, places w n (i + m) h)

-- i places, the rest of n, and one more are n + 1 places
pub places_gap : (w n i : ℕ) → i ≤ n → w * i + w * (n - i) + w ≡ w * (n + 1)
places_gap w n i h = omega (arith, next_place w n, places w n i h)

-- one number more is written behind those before it
pub words_more : (s : List ℕ) (at : ℕ) (vs : List ℕ) (i : ℕ) → i < length vs → at ≤ length s
    → put (put s at (word_bytes (take i vs))) (at + 8 * i) (bytes 8 (get_or vs i 0)) ≡ put s at (word_bytes (take (i + 1) vs))
unfolding word_bytes
words_more s at vs i h k =
    let e : 8 * i ≡ length (word_bytes (take i vs)) = omega (arith, length_word_bytes (take i vs), length-take-le i vs (omega arith)) in
    ap (λ (m : ℕ). put (put s at (word_bytes (take i vs))) (at + m) (bytes 8 (get_or vs i 0))) e
    ∙ put_put s at (word_bytes (take i vs)) (bytes 8 (get_or vs i 0)) k
    ∙ ap (λ (l : List ℕ). put s at (word_bytes (take i vs) ++ l)) (sym (append-nil (bytes 8 (get_or vs i 0))))
    ∙ ap (λ (l : List ℕ). put s at l) (sym (word_bytes_append (take i vs) (get_or vs i 0 ∷ [])))
    ∙ ap (λ (l : List ℕ). put s at (word_bytes l)) (sym (ap (λ (m : ℕ). take m vs) (add-one i) ∙ take-suc vs i 0 h))

-- the rows behind move up, and the key and the numbers are written into the gap
pub inserted : (s : List ℕ) (w n i : ℕ) (key numbers : List ℕ) → i ≤ n → w * (n + 1) ≤ length s → length key + length numbers ≡ w
    → put (put (put s (w * i + w) (part s (w * i) (w * (n - i)))) (w * i) key) (w * i + length key) numbers
    ≡ put s (w * i) ((key ++ numbers) ++ part s (w * i) (w * (n - i)))
inserted s w n i key numbers h k e =
    let behind : List ℕ = part s (w * i) (w * (n - i)) in
    let p : w * i + w * (n - i) + w ≡ w * (n + 1) = places_gap w n i h in
    let l : length behind ≡ w * (n - i) = length_part s (w * i) (w * (n - i)) (omega arith) in
    let row : length (key ++ numbers) ≡ w = length-append key numbers ∙ e in
    let m : w * i ≤ length (put s (w * i + w) behind) = rw (length_put s (w * i + w) behind (omega arith)) (omega arith) in
    put_put (put s (w * i + w) behind) (w * i) key numbers m
    ∙ ap (λ (r : ℕ). put (put s (w * i + r) behind) (w * i) (key ++ numbers)) (sym row)
    ∙ put_under s (w * i) (key ++ numbers) behind (omega arith)

-- the rows behind move down, and zeros are written behind them
pub removed : (s : List ℕ) (w n i m : ℕ) → i + m ≤ n → w * n ≤ length s
    → put (put s (w * (i + m) - w * m) (part s (w * (i + m)) (w * (n - (i + m))))) (w * i + w * (n - (i + m))) (zeros (w * m))
    ≡ put s (w * i) (part s (w * (i + m)) (w * (n - (i + m))) ++ zeros (w * m))
removed s w n i m h k =
    let behind : List ℕ = part s (w * (i + m)) (w * (n - (i + m))) in
    let p : w * (i + m) - w * m ≡ w * i = omega (arith, mul-add w i m) in
    let q : w * (i + m) + w * (n - (i + m)) ≡ w * n = places w n (i + m) h in
    let l : w * (n - (i + m)) ≡ length behind = sym (length_part s (w * (i + m)) (w * (n - (i + m))) (omega arith)) in
    ap (λ (j : ℕ). put (put s j behind) (w * i + w * (n - (i + m))) (zeros (w * m))) p
    ∙ ap (λ (j : ℕ). put (put s (w * i) behind) (w * i + j) (zeros (w * m))) l
    ∙ put_put s (w * i) behind (zeros (w * m)) (omega (arith, mul-add w i m))

-- from one place down by as many places as lie between is the other place
pub down : (w from to : ℕ) → to ≤ from → w * from - w * (from - to) ≡ w * to
down w from to h = omega (arith, places w from to h)
