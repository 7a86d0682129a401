-- Laws of `Memory`, which the proofs of callers cite. Nobody needs to believe these: they are proved. Assumes nothing.
--
-- In order: numbers and their eight bytes; what a layout must satisfy; rows; rows that fit their layout; the bytes of rows;
-- memory after a call, `laid`; from a write, `put`, to `laid`. The width of a row is `L.width` throughout.
use Rattle.std.specs.Prelude.{Bool, ◌≡◌, get_or}
use Rattle.std.proofs.Math.Path.{refl, sym, ap, subst}
use Rattle.std.proofs.Common.{◌∙◌, zero-add, suc-add, add-sub_of_le, mul-one, le_of_suc-le-suc, length-take, take_all, drop-drop}
use mathlib.Core.List.{List, [], ◌∷◌, ◌++◌, append_assoc, append-nil}
use Prim.Native.Nat.{ℕ, zero, suc, ◌+◌, ◌-◌, ◌*◌, ◌^◌, ◌≤◌, ◌<◌, max}
use Rattle.std.proofs.Math.Nat.{mul-zero, mul-suc, mul-add, mul-sub, sub-zero, mul-le-mul_left}
use native.Mathlib.Omega.{arith}
use Rattle.std.proofs.Math.ListN.{length, take, drop, length-append, length-drop, take-append-drop}
use Rattle.std.proofs.Math.Seq.{length-take-le, take_at, drop_at, take-take, take-add}
use Rattle.lent_bytes.specs.LentBytes.{part, put, le, bytes, zeros, Bytes}
use Rattle.lent_bytes.specs.LentBytesLaws.{length_part, length_bytes, length_zeros, length_put, le_bytes, bytes_le, le_lt, part_append, part_put_after}
use Rattle.lent_bytes.specs.LentBytesLaws.{Bytes_nil, Bytes_append, Bytes_take, Bytes_drop, Bytes_part, Bytes_zeros, Bytes_bytes, put_put}
use Rattle.std.specs.declared.cmp.Ordering.{Ordering}
use Rattle.std.specs.declared.cmp.Ordering.TheVariants.{Less, Equal, Greater}
use Rattle.pubkey.specs.Order.{compare_bytes}
use Rattle.table.specs.Table.{Row, by_order, store, erase, remove_at, retain}
use Rattle.table.specs.Private.{insert_at, remove_run}
use Rattle.table.specs.TableLaws.{Sub, done, keep, leave, sub_erase, sub_retain}
use Rattle.table.specs.Memory.{Layout, word_bytes, word_of, words, row_bytes, table_bytes, row_of, rows, laid, Holds}
use Rattle.table.specs.PutLaws.{put_earlier, put_later, put_front, put_whole, drop_take, zeros_append, drop_zeros}

-- ════ Numbers and their eight bytes ════

-- every number fits eight bytes: this is what a slice of 64-bit numbers offers of the list that stands in it
abbrev pub Words : List ℕ → Type 0
Words vs = (i : ℕ) → get_or vs i 0 < 2 ^ 64

-- eight bytes for each number
pub length_word_bytes : (vs : List ℕ) → length (word_bytes vs) ≡ 8 * length vs
unfolding word_bytes
length_word_bytes [] = refl
length_word_bytes (v ∷ vs) = omega (arith, length-append (bytes 8 v) (word_bytes vs), length_bytes 8 v, length_word_bytes vs)

-- the bytes of numbers behind numbers
pub word_bytes_append : (us vs : List ℕ) → word_bytes (us ++ vs) ≡ word_bytes us ++ word_bytes vs
unfolding word_bytes
word_bytes_append [] vs = refl
word_bytes_append (u ∷ us) vs =
    ap (λ (l : List ℕ). bytes 8 u ++ l) (word_bytes_append us vs) ∙ sym (append_assoc (bytes 8 u) (word_bytes us) (word_bytes vs))

-- the bytes of numbers are bytes
pub Bytes_word_bytes : (vs : List ℕ) → Bytes (word_bytes vs)
unfolding word_bytes
Bytes_word_bytes [] = Bytes_nil
Bytes_word_bytes (v ∷ vs) = Bytes_append (bytes 8 v) (word_bytes vs) (Bytes_bytes 8 v) (Bytes_word_bytes vs)

-- the number in front reads back
word_of_first : (v : ℕ) (rest : List ℕ) → v < 2 ^ 64 → word_of (bytes 8 v ++ rest) 0 ≡ v
unfolding part
word_of_first v rest h = ap le (take_at (bytes 8 v) rest 8 (length_bytes 8 v)) ∙ le_bytes 8 v h

-- the numbers behind the first eight bytes
word_of_later : (b rest : List ℕ) (i : ℕ) → length b ≡ 8 → word_of (b ++ rest) (suc i) ≡ word_of rest i
unfolding part
word_of_later b rest i h =
    let e : 8 * suc i ≡ 8 + 8 * i = omega arith in
    ap (λ (m : ℕ). le (take 8 (drop m (b ++ rest)))) e ∙ ap (λ (l : List ℕ). le (take 8 l)) (sym (drop-drop (8 * i) 8 (b ++ rest)))
    ∙ ap (λ (l : List ℕ). le (take 8 (drop (8 * i) l))) (drop_at b rest 8 h)

-- a number that was written reads back, with anything behind the numbers
pub word_of_word_bytes_append : (vs rest : List ℕ) (i : ℕ) → Words vs → i < length vs → word_of (word_bytes vs ++ rest) i ≡ get_or vs i 0
unfolding word_bytes
word_of_word_bytes_append [] rest i f h = absurd (omega arith)
word_of_word_bytes_append (v ∷ vs) rest zero f h =
    ap (λ (l : List ℕ). word_of l 0) (append_assoc (bytes 8 v) (word_bytes vs) rest) ∙ word_of_first v (word_bytes vs ++ rest) (f 0)
word_of_word_bytes_append (v ∷ vs) rest (suc i) f h =
    ap (λ (l : List ℕ). word_of l (suc i)) (append_assoc (bytes 8 v) (word_bytes vs) rest)
    ∙ word_of_later (bytes 8 v) (word_bytes vs ++ rest) i (length_bytes 8 v)
    ∙ word_of_word_bytes_append vs rest i (λ j. f (suc j)) (le_of_suc-le-suc h)

-- a number that was written reads back
pub word_of_word_bytes : (vs : List ℕ) (i : ℕ) → Words vs → i < length vs → word_of (word_bytes vs) i ≡ get_or vs i 0
word_of_word_bytes vs i f h = ap (λ (l : List ℕ). word_of l i) (sym (append-nil (word_bytes vs))) ∙ word_of_word_bytes_append vs [] i f h

-- numbers that were read are written as they stood
pub word_bytes_words : (s : List ℕ) (i k : ℕ) → Bytes s → 8 * (i + k) ≤ length s → word_bytes (words i k s) ≡ part s (8 * i) (8 * k)
unfolding word_bytes part
word_bytes_words s i zero f h = refl
word_bytes_words s i (suc k) f h =
    let e : 8 * suc k ≡ 8 + 8 * k = omega arith in
    let g : 8 * i + 8 ≡ 8 * suc i = omega arith in
    let n : length (part s (8 * i) 8) ≡ 8 = length_part s (8 * i) 8 (omega arith) in
    let first : bytes 8 (le (part s (8 * i) 8)) ≡ part s (8 * i) 8 =
    ap (λ (m : ℕ). bytes m (le (part s (8 * i) 8))) (sym n) ∙ bytes_le (part s (8 * i) 8) (Bytes_part s (8 * i) 8 f) in
    ap (λ (l : List ℕ). l ++ word_bytes (words (suc i) k s)) first
    ∙ ap (λ (l : List ℕ). part s (8 * i) 8 ++ l) (word_bytes_words s (suc i) k f (omega arith))
    ∙ ap (λ (m : ℕ). part s (8 * i) 8 ++ part s m (8 * k)) (sym g) ∙ sym (part_append s (8 * i) 8 (8 * k))
    ∙ ap (λ (m : ℕ). part s (8 * i) m) (sym e)

-- all the numbers of a list of bytes are written as it stood
pub word_bytes_all : (s : List ℕ) (k : ℕ) → Bytes s → length s ≡ 8 * k → word_bytes (words 0 k s) ≡ s
unfolding part
word_bytes_all s k f h =
    let e : 8 * (0 + k) ≤ length s = omega arith in
    let g : length s ≤ 8 * k = omega arith in
    word_bytes_words s 0 k f e ∙ take_all (8 * k) s g

-- what a word reads fits eight bytes
pub word_of_lt : (s : List ℕ) (i : ℕ) → Bytes s → 8 * (i + 1) ≤ length s → word_of s i < 2 ^ 64
word_of_lt s i f h =
    let n : length (part s (8 * i) 8) ≡ 8 = length_part s (8 * i) 8 (omega arith) in
    subst (λ (m : ℕ). word_of s i < 256 ^ m) n (le_lt (part s (8 * i) 8) (Bytes_part s (8 * i) 8 f))

-- ════ What a layout must satisfy ════

-- the key fits the row, an entry takes the rest of it, and entries and their bytes are read back from one another. `Good` says
-- which entries a row can hold
pub record Faithful {A : Type 0} (L : Layout A) (Good : A → Type 0) : Type 0 where
  pub wide : 0 < L.width
  pub key_fits : L.key_width ≤ L.width
  pub length_encode : (e : A) → length (L.encode e) ≡ L.width - L.key_width
  pub encode_decode : (s : List ℕ) → Bytes s → length s ≡ L.width - L.key_width → L.encode (L.decode s) ≡ s
  pub decode_good : (s : List ℕ) → Bytes s → length s ≡ L.width - L.key_width → Good (L.decode s)
  pub decode_encode : (e : A) → Good e → L.decode (L.encode e) ≡ e
  pub encode_bytes : (e : A) → Good e → Bytes (L.encode e)

-- ════ Rows ════

module _ {A : Type 0} (L : Layout A) where
  -- one row more is one width more
  width_suc : (n : ℕ) → L.width * suc n ≡ L.width + L.width * n
  width_suc n = omega (arith, mul-suc L.width n)

  -- as many rows are read as were asked for
  pub length_rows : (s : List ℕ) (n : ℕ) → length (rows L s n) ≡ n
  unfolding rows
  length_rows s zero = refl
  length_rows s (suc n) = ap suc (length_rows (drop L.width s) n)

  -- n + m rows are the n rows in front and the m behind them
  pub rows_append : (s : List ℕ) (n m : ℕ) → rows L s (n + m) ≡ rows L s n ++ rows L (drop (L.width * n) s) m
  unfolding rows
  rows_append s zero m = rw (zero-add, mul-zero)
  rows_append s (suc n) m =
      ap (λ (k : ℕ). rows L s k) (suc-add n m)
      ∙ ap (λ (l : List (Row A)). row_of L (take L.width s) ∷ l) (rows_append (drop L.width s) n m
      ∙ ap (λ (l : List ℕ). rows L (drop L.width s) n ++ rows L l m) (drop-drop (L.width * n) L.width s
      ∙ ap (λ (k : ℕ). drop k s) (sym (width_suc n))))

  -- n rows are i rows and the rest of them
  rows_split : (s : List ℕ) (n i : ℕ) → i ≤ n → rows L s n ≡ rows L s i ++ rows L (drop (L.width * i) s) (n - i)
  rows_split s n i h = ap (λ (k : ℕ). rows L s k) (sym (add-sub_of_le h)) ∙ rows_append s i (n - i)

  -- the first i of n rows
  pub take_rows : (s : List ℕ) (n i : ℕ) → i ≤ n → take i (rows L s n) ≡ rows L s i
  take_rows s n i h =
      ap (λ (l : List (Row A)). take i l) (rows_split s n i h)
      ∙ take_at (rows L s i) (rows L (drop (L.width * i) s) (n - i)) i (length_rows s i)

  -- all but the first i of n rows
  pub drop_rows : (s : List ℕ) (n i : ℕ) → i ≤ n → drop i (rows L s n) ≡ rows L (drop (L.width * i) s) (n - i)
  drop_rows s n i h =
      ap (λ (l : List (Row A)). drop i l) (rows_split s n i h)
      ∙ drop_at (rows L s i) (rows L (drop (L.width * i) s) (n - i)) i (length_rows s i)

  -- the i-th of n rows stands in the i-th place
  pub get_d_rows : (s : List ℕ) (n i : ℕ) (d : Row A) → i < n → get_or (rows L s n) i d ≡ row_of L (part s (L.width * i) L.width)
  unfolding rows part
  get_d_rows s zero i d h = absurd (omega arith)
  get_d_rows s (suc n) zero d h = rw mul-zero
  get_d_rows s (suc n) (suc i) d h =
      get_d_rows (drop L.width s) n i d (le_of_suc-le-suc h)
      ∙ ap (λ (l : List ℕ). row_of L (take L.width l)) (drop-drop (L.width * i) L.width s
      ∙ ap (λ (k : ℕ). drop k s) (sym (width_suc i)))

  -- the rest of the rows from the i-th on begins with the i-th
  pub rows_cons : (s : List ℕ) (n i : ℕ) → i < n → drop i (rows L s n) ≡ row_of L (part s (L.width * i) L.width) ∷ drop (i + 1) (rows L s n)
  unfolding rows part
  rows_cons s n i h =
      let e : n - i ≡ suc (n - (i + 1)) = omega arith in
      let f : L.width * i + L.width ≡ L.width * (i + 1) = omega (arith, mul-add L.width i 1) in
      drop_rows s n i (omega arith) ∙ ap (λ (k : ℕ). rows L (drop (L.width * i) s) k) e
      ∙ ap (λ (l : List ℕ). row_of L (part s (L.width * i) L.width) ∷ rows L l (n - (i + 1))) (drop-drop L.width (L.width * i) s
      ∙ ap (λ (k : ℕ). drop k s) f)
      ∙ ap (λ (l : List (Row A)). row_of L (part s (L.width * i) L.width) ∷ l) (sym (drop_rows s n (i + 1) (omega arith)))

  -- bytes after the rows' own do not change them
  pub rows_front : (s : List ℕ) (n : ℕ) → rows L (take (L.width * n) s) n ≡ rows L s n
  unfolding rows
  rows_front s zero = refl
  rows_front s (suc n) =
      let w : ℕ = L.width in
      ap (λ (k : ℕ). row_of L (take w (take k s)) ∷ rows L (drop w (take k s)) n) (width_suc n)
      ∙ ap (λ (l : List ℕ). row_of L l ∷ rows L (drop w (take (w + w * n) s)) n) (take-take w (w + w * n) s (omega arith))
      ∙ ap (λ (l : List ℕ). row_of L (take w s) ∷ rows L l n) (drop_take w (w * n) s)
      ∙ ap (λ (l : List (Row A)). row_of L (take w s) ∷ l) (rows_front (drop w s) n)

  -- the bytes of rows behind rows
  pub table_bytes_append : (rs qs : List (Row A)) → table_bytes L (rs ++ qs) ≡ table_bytes L rs ++ table_bytes L qs
  unfolding table_bytes
  table_bytes_append [] qs = refl
  table_bytes_append (r ∷ rs) qs =
      ap (λ (l : List ℕ). row_bytes L r ++ l) (table_bytes_append rs qs) ∙ sym (append_assoc (row_bytes L r) (table_bytes L rs) (table_bytes L qs))

-- the places that two calls free, of a table of n rows, then r, then q
places_freed : (n r q : ℕ) → r ≤ max n q → (r - q) + ((n - r) - (q - r)) ≡ n - q
places_freed n r q h = omega arith

-- the places that two calls use or free
places_used : (n r q : ℕ) → r ≤ max n q → max n r + ((q - r) - (n - r)) ≡ max n q
places_used n r q h = omega arith

-- the bytes of the places that n rows and then r have used: those of the n, and of what r has beyond them
pub bytes_used : (w n r : ℕ) → w * max n r ≡ w * n + w * (r - n)
bytes_used w n r =
    let e : max n r ≡ n + (r - n) = omega arith in
    ap (λ (m : ℕ). w * m) e ∙ mul-add w n (r - n)

-- ════ Rows that fit their layout ════

module _ {A : Type 0} (L : Layout A) (Good : A → Type 0) where
  -- a row that can stand in a table: its key has the key's width and is bytes, and its entry is one that a row can hold
  pub record Fit (r : Row A) : Type 0 where
    pub key_length : length r.key ≡ L.key_width
    pub key_bytes_lem : Bytes r.key
    pub entry_good : Good r.entry

  -- every row can stand in a table
  abbrev pub AllFit : List (Row A) → Type 0
  AllFit [] = Unit
  AllFit (r ∷ rs) = Fit r × AllFit rs

module _ {A : Type 0} {L : Layout A} {Good : A → Type 0} (ok : Faithful L Good) where
  -- rows behind rows
  pub fit_append : (rs qs : List (Row A)) → AllFit L Good rs → AllFit L Good qs → AllFit L Good (rs ++ qs)
  fit_append [] qs f g = g
  fit_append (r ∷ rs) qs f g = (f.0, fit_append rs qs f.1 g)

  -- the first rows of some
  pub fit_take : (i : ℕ) (rs : List (Row A)) → AllFit L Good rs → AllFit L Good (take i rs)
  fit_take zero rs f = tt
  fit_take (suc i) [] f = tt
  fit_take (suc i) (r ∷ rs) f = (f.0, fit_take i rs f.1)

  -- the last rows of some
  pub fit_drop : (i : ℕ) (rs : List (Row A)) → AllFit L Good rs → AllFit L Good (drop i rs)
  fit_drop zero rs f = f
  fit_drop (suc i) [] f = tt
  fit_drop (suc i) (r ∷ rs) f = fit_drop i rs f.1

  -- rows with one more
  pub fit_insert_at : (i : ℕ) (r : Row A) (rs : List (Row A)) → Fit L Good r → AllFit L Good rs → AllFit L Good (insert_at i r rs)
  unfolding insert_at
  fit_insert_at i r rs g f = fit_append (take i rs) (r ∷ drop i rs) (fit_take i rs f) (g, fit_drop i rs f)

  -- rows left
  pub sub_fit : {xs ys : List (Row A)} → Sub xs ys → AllFit L Good ys → AllFit L Good xs
  sub_fit done f = f
  sub_fit (keep s) f = (f.0, sub_fit s f.1)
  sub_fit (leave s) f = sub_fit s f.1

  -- the rows that a test keeps
  pub fit_retain : (test : Row A → Bool) (rs : List (Row A)) → AllFit L Good rs → AllFit L Good (retain test rs)
  fit_retain test rs = sub_fit (sub_retain test rs)

  -- rows with a row stored
  pub fit_store : (k : List ℕ) (e : A) (rs : List (Row A)) → Fit L Good (record { key = k; entry = e }) → AllFit L Good rs → AllFit L Good (store k e rs)
  unfolding store
  fit_store k e [] g f = (g, tt)
  fit_store k e (r ∷ rs) g f = stored (compare_bytes k r.key) (store k e rs) (fit_store k e rs g f.1)
    where
      stored : (o : Ordering) (rest : List (Row A)) → AllFit L Good rest
          → AllFit L Good (by_order o (record { key = k; entry = e } ∷ r ∷ rs) (record { key = k; entry = e } ∷ rs) (r ∷ rest))
      stored Less rest more = (g, f)
      stored Equal rest more = (g, f.1)
      stored Greater rest more = (f.0, more)

  -- rows with a row erased
  pub fit_erase : (k : List ℕ) (rs : List (Row A)) → AllFit L Good rs → AllFit L Good (erase k rs)
  fit_erase k rs = sub_fit (sub_erase k rs)

  -- ════ The bytes of rows ════

  -- a row takes its width
  pub length_row_bytes : (r : Row A) → Fit L Good r → length (row_bytes L r) ≡ L.width
  unfolding row_bytes
  length_row_bytes r f =
      omega (arith, length-append r.key (L.encode r.entry), f.key_length, ok.length_encode r.entry, ok.key_fits)

  -- a row's bytes are bytes
  pub Bytes_row_bytes : (r : Row A) → Fit L Good r → Bytes (row_bytes L r)
  unfolding row_bytes
  Bytes_row_bytes r f = Bytes_append r.key (L.encode r.entry) f.key_bytes_lem (ok.encode_bytes r.entry f.entry_good)

  -- a row's bytes spell it
  pub row_of_row_bytes : (r : Row A) → Fit L Good r → row_of L (row_bytes L r) ≡ r
  unfolding row_of row_bytes
  row_of_row_bytes r f =
      rw (
        take_at r.key (L.encode r.entry) L.key_width f.key_length,
        drop_at r.key (L.encode r.entry) L.key_width f.key_length,
        ok.decode_encode r.entry f.entry_good,
      )

  -- what stands behind the key has the width of an entry
  length_behind : (s : List ℕ) → length s ≡ L.width → length (drop L.key_width s) ≡ L.width - L.key_width
  length_behind s n = length-drop L.key_width s ∙ ap (λ (k : ℕ). k - L.key_width) n

  -- the row that bytes spell has those bytes
  pub row_bytes_row_of : (s : List ℕ) → Bytes s → length s ≡ L.width → row_bytes L (row_of L s) ≡ s
  unfolding row_of row_bytes
  row_bytes_row_of s f n =
      ap (λ (l : List ℕ). take L.key_width s ++ l)
      (ok.encode_decode (drop L.key_width s) (Bytes_drop L.key_width s f) (length_behind s n))
      ∙ take-append-drop L.key_width s

  -- the row that bytes spell can stand in a table
  pub fit_row_of : (s : List ℕ) → Bytes s → length s ≡ L.width → Fit L Good (row_of L s)
  unfolding row_of
  fit_row_of s f n =
      record {
        key_length = length-take-le L.key_width s (omega (arith, ok.key_fits));
        key_bytes_lem = Bytes_take L.key_width s f;
        entry_good = ok.decode_good (drop L.key_width s) (Bytes_drop L.key_width s f) (length_behind s n);
      }

  -- the key of the row that bytes spell
  pub key_row_of : (s : List ℕ) (at : ℕ) → (row_of L (part s at L.width)).key ≡ part s at L.key_width
  unfolding row_of part
  key_row_of s at = take-take L.key_width L.width (drop at s) ok.key_fits

  -- rows take their width each
  pub length_table_bytes : (rs : List (Row A)) → AllFit L Good rs → length (table_bytes L rs) ≡ L.width * length rs
  unfolding table_bytes
  length_table_bytes [] f = sym (mul-zero L.width)
  length_table_bytes (r ∷ rs) f =
      length-append (row_bytes L r) (table_bytes L rs)
      ∙ omega (arith, length_row_bytes r f.0, length_table_bytes rs f.1, width_suc L (length rs))

  -- the bytes of rows are bytes
  pub Bytes_table_bytes : (rs : List (Row A)) → AllFit L Good rs → Bytes (table_bytes L rs)
  unfolding table_bytes
  Bytes_table_bytes [] f = Bytes_nil
  Bytes_table_bytes (r ∷ rs) f = Bytes_append (row_bytes L r) (table_bytes L rs) (Bytes_row_bytes r f.0) (Bytes_table_bytes rs f.1)

  -- rows that were read have the bytes that they were read from
  pub table_bytes_rows : (s : List ℕ) (n : ℕ) → Bytes s → L.width * n ≤ length s → table_bytes L (rows L s n) ≡ take (L.width * n) s
  unfolding table_bytes rows
  table_bytes_rows s zero f h = sym (ap (λ (k : ℕ). take k s) (mul-zero L.width))
  table_bytes_rows s (suc n) f h =
      let w : ℕ = L.width in
      let e : w * suc n ≡ w + w * n = width_suc L n in
      let rest : w * n ≤ length (drop w s) = rw length-drop (omega arith) in
      ap (λ (l : List ℕ). l ++ table_bytes L (rows L (drop w s) n)) (row_bytes_row_of (take w s) (Bytes_take w s f) (length-take-le w s (omega arith)))
      ∙ ap (λ (l : List ℕ). take w s ++ l) (table_bytes_rows (drop w s) n (Bytes_drop w s f) rest)
      ∙ sym (ap (λ (k : ℕ). take k s) e ∙ take-add w (w * n) s)

  -- rows that were written read back, whatever stands behind them
  pub rows_table_bytes : (rs : List (Row A)) (rest : List ℕ) → AllFit L Good rs → rows L (table_bytes L rs ++ rest) (length rs) ≡ rs
  unfolding table_bytes rows
  rows_table_bytes [] rest f = refl
  rows_table_bytes (r ∷ rs) rest f =
      let w : ℕ = L.width in
      let n : length (row_bytes L r) ≡ w = length_row_bytes r f.0 in
      let more : List ℕ = table_bytes L rs ++ rest in
      ap (λ (l : List ℕ). row_of L (take w l) ∷ rows L (drop w l) (length rs)) (append_assoc (row_bytes L r) (table_bytes L rs) rest)
      ∙ ap (λ (l : List ℕ). row_of L l ∷ rows L (drop w (row_bytes L r ++ more)) (length rs)) (take_at (row_bytes L r) more w n)
      ∙ ap (λ (q : Row A). q ∷ rows L (drop w (row_bytes L r ++ more)) (length rs)) (row_of_row_bytes r f.0)
      ∙ ap (λ (l : List ℕ). r ∷ rows L l (length rs)) (drop_at (row_bytes L r) more w n)
      ∙ ap (λ (l : List (Row A)). r ∷ l) (rows_table_bytes rs rest f.1)

  -- rows of bytes can stand in a table
  pub fit_rows : (s : List ℕ) (n : ℕ) → Bytes s → L.width * n ≤ length s → AllFit L Good (rows L s n)
  unfolding rows
  fit_rows s zero f h = tt
  fit_rows s (suc n) f h =
      let w : ℕ = L.width in
      let e : w * suc n ≡ w + w * n = width_suc L n in
      let rest : w * n ≤ length (drop w s) = rw length-drop (omega arith) in
      (fit_row_of (take w s) (Bytes_take w s f) (length-take-le w s (omega arith)), fit_rows (drop w s) n (Bytes_drop w s f) rest)

  -- ════ Memory after a call ════

  -- memory with these rows is one write: their bytes, and zeros in the places freed
  pub laid_put : (s : List ℕ) (n : ℕ) (rs : List (Row A)) → AllFit L Good rs → laid L s n rs ≡ put s 0 (table_bytes L rs ++ zeros (L.width * (n - length rs)))
  unfolding laid
  laid_put s n rs f =
      let w : ℕ = L.width in
      let freed : List ℕ = zeros (w * (n - length rs)) in
      let e : length (table_bytes L rs ++ freed) ≡ w * max n (length rs) =
      length-append (table_bytes L rs) freed
      ∙ omega (
        arith,
        length_table_bytes rs f,
        length_zeros (w * (n - length rs)),
        bytes_used w n (length rs),
        mul-sub w n (length rs),
        mul-sub w (length rs) n,
      ) in
      sym (put_front s (table_bytes L rs ++ freed) ∙ ap (λ (k : ℕ). table_bytes L rs ++ freed ++ drop k s) e
      ∙ append_assoc (table_bytes L rs) freed (drop (w * max n (length rs)) s))

  -- the length of what is written
  length_written : (n : ℕ) (rs : List (Row A)) → AllFit L Good rs
      → length (table_bytes L rs ++ zeros (L.width * (n - length rs))) ≡ L.width * length rs + (L.width * n - L.width * length rs)
  length_written n rs f =
      length-append (table_bytes L rs) (zeros (L.width * (n - length rs)))
      ∙ omega (arith, length_table_bytes rs f, length_zeros (L.width * (n - length rs)), mul-sub L.width n (length rs))

  -- memory keeps its length, where the rows before and the rows after fit it
  pub length_laid : (s : List ℕ) (n : ℕ) (rs : List (Row A)) → AllFit L Good rs → L.width * n ≤ length s → L.width * length rs ≤ length s → length (laid L s n rs) ≡ length s
  length_laid s n rs f h k =
      ap length (laid_put s n rs f)
      ∙ length_put s 0 (table_bytes L rs ++ zeros (L.width * (n - length rs))) (omega (arith, length_written n rs f))

  -- memory stays bytes
  pub Bytes_laid : (s : List ℕ) (n : ℕ) (rs : List (Row A)) → AllFit L Good rs → Bytes s → Bytes (laid L s n rs)
  unfolding laid
  Bytes_laid s n rs f b =
      let freed : List ℕ = zeros (L.width * (n - length rs)) in
      let behind : List ℕ = drop (L.width * max n (length rs)) s in
      Bytes_append (table_bytes L rs) (freed ++ behind) (Bytes_table_bytes rs f)
      (Bytes_append freed behind (Bytes_zeros (L.width * (n - length rs))) (Bytes_drop (L.width * max n (length rs)) s b))

  -- the rows that memory holds read back
  pub rows_laid : (s : List ℕ) (n : ℕ) (rs : List (Row A)) → AllFit L Good rs → rows L (laid L s n rs) (length rs) ≡ rs
  unfolding laid
  rows_laid s n rs f = rows_table_bytes rs (zeros (L.width * (n - length rs)) ++ drop (L.width * max n (length rs)) s) f

  -- memory that is laid holds its rows
  pub holds : (before after : List ℕ) (n : ℕ) (rs : List (Row A)) → AllFit L Good rs → after ≡ laid L before n rs → Holds L before after n rs
  holds before after n rs f e =
      record { memory = e; reads = ap (λ (l : List ℕ). rows L l (length rs)) e ∙ rows_laid before n rs f }

  -- memory with the rows that it has is memory as it was
  pub laid_rows : (s : List ℕ) (n : ℕ) → Bytes s → L.width * n ≤ length s → laid L s n (rows L s n) ≡ s
  unfolding laid
  laid_rows s n b h =
      let w : ℕ = L.width in
      let none : w * (n - n) ≡ 0 = omega (arith, mul-sub w n n) in
      let all : w * max n n ≡ w * n = ap (λ (m : ℕ). w * m) (omega arith) in
      rw (length_rows L s n, none, all, table_bytes_rows s n b h, take-append-drop (w * n) s)

  -- of two calls the second decides, where it wipes or covers what the first wrote behind the n rows
  pub laid_laid : (s : List ℕ) (n : ℕ) (rs qs : List (Row A)) → AllFit L Good rs → length rs ≤ max n (length qs) → laid L (laid L s n rs) (length rs) qs ≡ laid L s n qs
  unfolding laid
  laid_laid s n rs qs f h =
      let w : ℕ = L.width in
      let r : ℕ = length rs in
      let q : ℕ = length qs in
      let behind : List ℕ = drop (w * max n r) s in
      let place : w * max r q ≡ w * r + w * (q - r) = bytes_used w r q in
      let freed : w * (n - r) - w * (q - r) ≡ w * ((n - r) - (q - r)) = sym (mul-sub w (n - r) (q - r)) in
      let passed : w * (q - r) - w * (n - r) ≡ w * ((q - r) - (n - r)) = sym (mul-sub w (q - r) (n - r)) in
      let zeroed : w * (r - q) + w * ((n - r) - (q - r)) ≡ w * (n - q) =
      sym (mul-add w (r - q) ((n - r) - (q - r))) ∙ ap (λ (k : ℕ). w * k) (places_freed n r q h) in
      let left : w * max n r + w * ((q - r) - (n - r)) ≡ w * max n q =
      sym (mul-add w (max n r) ((q - r) - (n - r))) ∙ ap (λ (k : ℕ). w * k) (places_used n r q h) in
      let rest : drop (w * max r q) (table_bytes L rs ++ (zeros (w * (n - r)) ++ behind))
      ≡ zeros (w * ((n - r) - (q - r))) ++ drop (w * max n q) s =
      ap (λ (k : ℕ). drop k (table_bytes L rs ++ (zeros (w * (n - r)) ++ behind))) place
      ∙ sym (drop-drop (w * (q - r)) (w * r) (table_bytes L rs ++ (zeros (w * (n - r)) ++ behind)))
      ∙ ap (λ (l : List ℕ). drop (w * (q - r)) l) (drop_at (table_bytes L rs) (zeros (w * (n - r)) ++ behind) (w * r) (length_table_bytes rs f))
      ∙ drop_zeros (w * (q - r)) (w * (n - r)) behind
      ∙ ap (λ (k : ℕ). zeros k ++ drop (w * (q - r) - w * (n - r)) behind) freed
      ∙ ap (λ (k : ℕ). zeros (w * ((n - r) - (q - r))) ++ drop k behind) passed
      ∙ ap (λ (l : List ℕ). zeros (w * ((n - r) - (q - r))) ++ l) (drop-drop (w * ((q - r) - (n - r))) (w * max n r) s)
      ∙ ap (λ (k : ℕ). zeros (w * ((n - r) - (q - r))) ++ drop k s) left in
      ap (λ (l : List ℕ). table_bytes L qs ++ (zeros (w * (r - q)) ++ l)) rest
      ∙ ap (λ (l : List ℕ). table_bytes L qs ++ l)
      (sym (append_assoc (zeros (w * (r - q))) (zeros (w * ((n - r) - (q - r)))) (drop (w * max n q) s))
      ∙ ap (λ (l : List ℕ). l ++ drop (w * max n q) s) (zeros_append (w * (r - q)) (w * ((n - r) - (q - r)))
      ∙ ap zeros zeroed))

  -- ════ From a write to memory after a call ════

  -- a write that leaves these rows' bytes, and zeros in the places freed
  put_laid : (s : List ℕ) (n at : ℕ) (b : List ℕ) (rs : List (Row A)) → AllFit L Good rs → at ≤ length s
      → take at s ++ b ≡ table_bytes L rs ++ zeros (L.width * (n - length rs)) → put s at b ≡ laid L s n rs
  put_laid s n at b rs f h e = put_whole s at b h ∙ ap (λ (l : List ℕ). put s 0 l) e ∙ sym (laid_put s n rs f)

  -- the bytes of the first i rows
  table_bytes_take : (s : List ℕ) (n i : ℕ) → Bytes s → L.width * n ≤ length s → i ≤ n → table_bytes L (take i (rows L s n)) ≡ take (L.width * i) s
  table_bytes_take s n i b h k =
      ap (table_bytes L) (take_rows L s n i k) ∙ table_bytes_rows s i b (omega (arith, mul-le-mul_left L.width k))

  -- the bytes of the rows from the j-th on
  table_bytes_drop : (s : List ℕ) (n j : ℕ) → Bytes s → L.width * n ≤ length s → j ≤ n → table_bytes L (drop j (rows L s n)) ≡ part s (L.width * j) (L.width * (n - j))
  unfolding part
  table_bytes_drop s n j b h k =
      let w : ℕ = L.width in
      let rest : w * (n - j) ≤ length (drop (w * j) s) = rw length-drop (omega (arith, mul-sub w n j)) in
      ap (table_bytes L) (drop_rows L s n j k) ∙ table_bytes_rows (drop (w * j) s) (n - j) (Bytes_drop (w * j) s b) rest

  -- rows written behind the first i, then the rows from the j-th on, then zeros in the places freed
  pub put_rows : (s : List ℕ) (n i j : ℕ) (qs : List (Row A)) → Bytes s → L.width * n ≤ length s → i ≤ n → j ≤ n → AllFit L Good qs
      → put s (L.width * i) (table_bytes L qs ++ (part s (L.width * j) (L.width * (n - j)) ++ zeros (L.width * (n - (i + (length qs + (n - j)))))))
      ≡ laid L s n (take i (rows L s n) ++ (qs ++ drop j (rows L s n)))
  put_rows s n i j qs b h k l f =
      let w : ℕ = L.width in
      let all : List (Row A) = rows L s n in
      let rs : List (Row A) = take i all ++ (qs ++ drop j all) in
      let g : AllFit L Good all = fit_rows s n b h in
      let fits : AllFit L Good rs = fit_append (take i all) (qs ++ drop j all) (fit_take i all g) (fit_append qs (drop j all) f (fit_drop j all g)) in
      let count : length rs ≡ i + (length qs + (n - j)) =
      simp (length-append, length-take, length-drop) (omega (arith, length_rows L s n)) in
      put_laid s n (w * i) _ rs fits (omega (arith, mul-le-mul_left w k))
      (rw (
        table_bytes_append L (take i all) (qs ++ drop j all),
        table_bytes_append L qs (drop j all),
        table_bytes_take s n i b h k,
        table_bytes_drop s n j b h l,
        count,
      ) (simp append_assoc))

  -- a row put in at an index
  pub put_insert : (s : List ℕ) (n i : ℕ) (r : Row A) → Bytes s → L.width * n ≤ length s → i ≤ n → Fit L Good r
      → put s (L.width * i) (row_bytes L r ++ part s (L.width * i) (L.width * (n - i))) ≡ laid L s n (insert_at i r (rows L s n))
  unfolding insert_at table_bytes
  put_insert s n i r b h k f =
      let w : ℕ = L.width in
      let none : w * (n - (i + (1 + (n - i)))) ≡ 0 = ap (λ (m : ℕ). w * m) (omega arith) ∙ mul-zero w in
      ap (λ (l : List ℕ). put s (w * i) l)
      (sym (rw (none, append-nil (row_bytes L r), append-nil (part s (w * i) (w * (n - i))))))
      ∙ put_rows s n i i (r ∷ []) b h k k (f, tt)

  -- m neighbouring rows taken out, and zeros in the places freed
  pub put_remove_run : (s : List ℕ) (n i m : ℕ) → Bytes s → L.width * n ≤ length s → i + m ≤ n
      → put s (L.width * i) (part s (L.width * (i + m)) (L.width * (n - (i + m))) ++ zeros (L.width * m)) ≡ laid L s n (remove_run i m (rows L s n))
  unfolding remove_run table_bytes
  put_remove_run s n i m b h k =
      let w : ℕ = L.width in
      let freed : w * (n - (i + (0 + (n - (i + m))))) ≡ w * m = ap (λ (j : ℕ). w * j) (omega arith) in
      ap (λ (j : ℕ). put s (w * i) (part s (w * (i + m)) (w * (n - (i + m))) ++ zeros j)) (sym freed)
      ∙ put_rows s n i (i + m) [] b h (omega arith) (omega arith) tt

  -- the row at an index taken out, and zeros in the place freed
  pub put_remove : (s : List ℕ) (n i : ℕ) → Bytes s → L.width * n ≤ length s → i < n
      → put s (L.width * i) (part s (L.width * (i + 1)) (L.width * (n - (i + 1))) ++ zeros L.width) ≡ laid L s n (remove_at i (rows L s n))
  unfolding remove_at remove_run
  put_remove s n i b h k =
      let w : ℕ = L.width in
      ap (λ (m : ℕ). put s (w * i) (part s (w * (i + 1)) (w * (n - (i + 1))) ++ zeros m)) (sym (mul-one w))
      ∙ put_remove_run s n i 1 b h (omega arith)

  -- the row at an index overwritten
  pub put_row : (s : List ℕ) (n i : ℕ) (r : Row A) → Bytes s → L.width * n ≤ length s → i < n → Fit L Good r
      → put s (L.width * i) (row_bytes L r) ≡ laid L s n (take i (rows L s n) ++ (r ∷ drop (i + 1) (rows L s n)))
  unfolding table_bytes
  put_row s n i r b h k f =
      let w : ℕ = L.width in
      let behind : ℕ = w * (n - (i + 1)) in
      let next : w * i + length (row_bytes L r) ≡ w * (i + 1) = omega (arith, length_row_bytes r f, mul-add w i 1) in
      let fits : w * i + length (row_bytes L r) + behind ≤ length s = omega (arith, mul-add w i 1, mul-le-mul_left w k, mul-suc w i, mul-sub w n (i + 1)) in
      let none : w * (n - (i + (1 + (n - (i + 1))))) ≡ 0 = ap (λ (m : ℕ). w * m) (omega arith) ∙ mul-zero w in
      put_later s (w * i) (row_bytes L r) behind fits
      ∙ ap (λ (m : ℕ). put s (w * i) (row_bytes L r ++ part s m behind)) next
      ∙ ap (λ (l : List ℕ). put s (w * i) l) (sym (rw (none, append-nil (row_bytes L r), append-nil (part s (w * (i + 1)) behind))))
      ∙ put_rows s n i (i + 1) (r ∷ []) b h (omega arith) (omega arith) (f, tt)

  -- the entry of the row at an index overwritten: the row keeps its key
  pub put_entry : (s : List ℕ) (n i : ℕ) (r : Row A) → Bytes s → L.width * n ≤ length s → i < n → r.key ≡ part s (L.width * i) L.key_width → Good r.entry
      → put s (L.width * i + L.key_width) (L.encode r.entry) ≡ laid L s n (take i (rows L s n) ++ (r ∷ drop (i + 1) (rows L s n)))
  unfolding row_bytes
  put_entry s n i r b h k e g =
      let w : ℕ = L.width in
      let fits : w * i + L.key_width ≤ length s = omega (arith, mul-le-mul_left w k, mul-suc w i, ok.key_fits) in
      let f : Fit L Good r =
      record {
        key_length = ap length e ∙ length_part s (w * i) L.key_width fits;
        key_bytes_lem = subst Bytes (sym e) (Bytes_part s (w * i) L.key_width b);
        entry_good = g;
      } in
      put_earlier s (w * i) L.key_width (L.encode r.entry) fits
      ∙ ap (λ (l : List ℕ). put s (w * i) (l ++ L.encode r.entry)) (sym e) ∙ put_row s n i r b h k f

  -- the key of the row at an index
  pub key_rows : (s : List ℕ) (n i : ℕ) (d : Row A) → i < n → (get_or (rows L s n) i d).key ≡ part s (L.width * i) L.key_width
  key_rows s n i d h = ap (λ (r : Row A). r.key) (get_d_rows L s n i d h) ∙ key_row_of s (L.width * i)

  -- a walk that keeps some rows leaves those that it has not come to as they were
  pub part_kept : (s : List ℕ) (i : ℕ) (kept : List (Row A)) → AllFit L Good kept → length kept ≤ i
      → part (put s 0 (table_bytes L kept)) (L.width * i) L.width ≡ part s (L.width * i) L.width
  part_kept s i kept f h =
      part_put_after s 0 (table_bytes L kept) (L.width * i) L.width
      (omega (arith, length_table_bytes kept f, mul-le-mul_left L.width h)) (omega arith)

  -- a walk that keeps some rows keeps one more
  pub put_kept : (s : List ℕ) (i : ℕ) (kept : List (Row A)) → Bytes s → L.width * (i + 1) ≤ length s → AllFit L Good kept → length kept ≤ i
      → put (put s 0 (table_bytes L kept)) (L.width * length kept) (part (put s 0 (table_bytes L kept)) (L.width * i) L.width)
      ≡ put s 0 (table_bytes L (kept ++ (row_of L (part s (L.width * i) L.width) ∷ [])))
  unfolding table_bytes
  put_kept s i kept b h f k =
      let w : ℕ = L.width in
      let p : List ℕ = part s (w * i) w in
      let t : List ℕ = put s 0 (table_bytes L kept) in
      let place : w * length kept ≡ 0 + length (table_bytes L kept) = omega (arith, length_table_bytes kept f) in
      let n : length p ≡ w = length_part s (w * i) w (omega (arith, mul-add w i 1)) in
      ap (λ (l : List ℕ). put t (w * length kept) l) (part_kept s i kept f k) ∙ ap (λ (m : ℕ). put t m p) place
      ∙ put_put s 0 (table_bytes L kept) p (omega arith)
      ∙ ap (λ (l : List ℕ). put s 0 (table_bytes L kept ++ l)) (sym (append-nil (row_bytes L (row_of L p)) ∙ row_bytes_row_of p (Bytes_part s (w * i) w b) n))
      ∙ ap (λ (l : List ℕ). put s 0 l) (sym (table_bytes_append L kept (row_of L p ∷ [])))

  -- the rows kept, and zeros in the places freed
  pub put_retained : (s : List ℕ) (n : ℕ) (kept : List (Row A)) → AllFit L Good kept
      → put (put s 0 (table_bytes L kept)) (L.width * length kept) (zeros (L.width * (n - length kept))) ≡ laid L s n kept
  put_retained s n kept f =
      let freed : List ℕ = zeros (L.width * (n - length kept)) in
      let place : L.width * length kept ≡ 0 + length (table_bytes L kept) = omega (arith, length_table_bytes kept f) in
      ap (λ (m : ℕ). put (put s 0 (table_bytes L kept)) m freed) place ∙ put_put s 0 (table_bytes L kept) freed (omega arith)
      ∙ sym (laid_put s n kept f)

  -- no rows, and zeros in the places of the m that stood there
  pub put_clear : (s : List ℕ) (m : ℕ) → put s 0 (zeros (L.width * m)) ≡ laid L s m []
  unfolding table_bytes
  put_clear s m = sym (laid_put s m [] tt ∙ ap (λ (k : ℕ). put s 0 (zeros (L.width * k))) (sub-zero m))
