-- Laws of raw rows, and of rows with other entries under the same keys: what holds by keys alone holds in every layout of the same
-- widths. In order: other entries; the raw layout; from raw rows to those of any layout. Assumes nothing.
use Rattle.std.specs.Prelude.{Bool, true, ◌&&◌, ◌≡◌, take, drop}
use Rattle.std.proofs.Math.Bool.{cond}
use Rattle.std.proofs.Math.Path.{refl, sym, ap, subst}
use Rattle.std.proofs.Common.{◌∙◌, arith, length-append, length-take-le, take_at}
use mathlib.Core.List.{List, [], ◌∷◌, ◌++◌}
use Prim.Native.Nat.{ℕ, zero, suc, ◌+◌, ◌-◌, ◌*◌, ◌<◌, ◌≤◌}
use Rattle.std.proofs.Math.ListN.{length}
use Rattle.lent_bytes.specs.LentBytes.{zeros, Bytes}
use Rattle.lent_bytes.specs.LentBytesLaws.{length_zeros}
use Rattle.pubkey.specs.Order.{compare_bytes}
use Rattle.table.specs.declared.seek.Seek.{Seek}
use Rattle.table.specs.declared.seek.Seek.TheVariants.{Unsound}
use Rattle.table.specs.Table.{Row, below, ascending, every, store, erase}
use Rattle.table.specs.Private.{place_from, seek}
use Rattle.table.specs.Memory.{Layout, row_bytes, table_bytes, row_of, rows, laid, Holds}
use Rattle.table.specs.TableLaws.{by_answer}
use Rattle.table.specs.MemoryLaws.{Faithful, AllFit, fit_rows}
use Rattle.table_laws.specs.Raw.{raw_layout, map_entries, any_row}

-- ════ Other entries under the same keys ════

module _ {A B : Type 0} (f : A → B) where
  -- as many rows
  pub length_map : (rs : List (Row A)) → length (map_entries f rs) ≡ length rs
  unfolding map_entries
  length_map [] = refl
  length_map (r ∷ rs) = ap suc (length_map rs)

  -- the rows from an index on
  pub drop_map : (i : ℕ) (rs : List (Row A)) → drop i (map_entries f rs) ≡ map_entries f (drop i rs)
  unfolding map_entries
  drop_map zero rs = refl
  drop_map (suc i) [] = refl
  drop_map (suc i) (r ∷ rs) = drop_map i rs

  -- a key is below the same rows
  below_map : (k : List ℕ) (rs : List (Row A)) → below k (map_entries f rs) ≡ below k rs
  unfolding map_entries
  below_map k [] = refl
  below_map k (r ∷ rs) = refl

  -- the rows ascend as they did
  pub ascending_map : (rs : List (Row A)) → ascending (map_entries f rs) ≡ ascending rs
  unfolding map_entries ascending
  ascending_map [] = refl
  ascending_map (r ∷ rs) = rw (below_map r.key rs, ascending_map rs)

  -- a key has the same place
  pub place_map : (i : ℕ) (k : List ℕ) (rs : List (Row A)) → place_from i k (map_entries f rs) ≡ place_from i k rs
  unfolding map_entries place_from
  place_map i k [] = refl
  place_map i k (r ∷ rs) = rw (place_map (i + 1) k rs)

  -- a stored entry is stored as the other
  pub store_map : (k : List ℕ) (e : A) (rs : List (Row A)) → store k (f e) (map_entries f rs) ≡ map_entries f (store k e rs)
  unfolding map_entries store
  store_map k e [] = refl
  store_map k e (r ∷ rs) =
      let rest : store k (f e) (map_entries f rs) ≡ map_entries f (store k e rs) = store_map k e rs in
      by_answer (compare_bytes k r.key) (λ o. rw o) (λ o. rw o) (λ o. rw (o, rest))

  -- an erased row is erased
  pub erase_map : (k : List ℕ) (rs : List (Row A)) → erase k (map_entries f rs) ≡ map_entries f (erase k rs)
  unfolding map_entries erase
  erase_map k [] = refl
  erase_map k (r ∷ rs) =
      let rest : erase k (map_entries f rs) ≡ map_entries f (erase k rs) = erase_map k rs in
      by_answer (compare_bytes k r.key) (λ o. rw o) (λ o. rw o) (λ o. rw (o, rest))

-- ════ The raw layout ════

-- the bytes that an entry of a raw row can be: as many as stand behind the key
pub record RawFits (k w : ℕ) (b : List ℕ) : Type 0 where
  pub bytes : Bytes b
  pub size : length b ≡ w - k

module _ (k w : ℕ) where
  -- as many bytes as stand behind the key are written as they are
  pub raw_encode : (b : List ℕ) → length b ≡ w - k → take (w - k) (b ++ zeros (w - k)) ≡ b
  raw_encode b h = take_at b (zeros (w - k)) (w - k) h

  -- raw entries stand in their rows and are read back
  pub raw_faithful : 0 < w → k ≤ w → Faithful (raw_layout k w) (RawFits k w)
  raw_faithful wide fits =
      record {
        wide = wide;
        key_fits = fits;
        length_encode = λ b. length-take-le (w - k) (b ++ zeros (w - k)) (omega (arith, length-append b (zeros (w - k)), length_zeros (w - k)));
        encode_decode = λ b f h. raw_encode b h;
        decode_good = λ b f h. record { bytes = f; size = h };
        decode_encode = λ b g. raw_encode b g.size;
        encode_bytes = λ b g. subst Bytes (sym (raw_encode b g.size)) g.bytes;
      }

-- ════ From raw rows to those of any layout ════

-- any rows keep the rule of any row
pub every_any : {A : Type 0} (rs : List (Row A)) → every any_row rs ≡ true
unfolding every
every_any [] = refl
every_any (r ∷ rs) = every_any rs

module _ {A : Type 0} (L : Layout A) where
  -- the raw rows of the same widths
  abbrev pub raw_rows : List ℕ → ℕ → List (Row (List ℕ))
  raw_rows s n = rows (raw_layout L.key_width L.width) s n

  -- the rows of a layout are the raw ones, decoded
  pub rows_raw : (s : List ℕ) (n : ℕ) → rows L s n ≡ map_entries L.decode (raw_rows s n)
  unfolding rows row_of map_entries
  rows_raw s zero = refl
  rows_raw s (suc n) = ap (λ (rs : List (Row A)). row_of L (take L.width s) ∷ rs) (rows_raw (drop L.width s) n)

  module _ (s : List ℕ) (n : ℕ) where
    -- the rows ascend where the raw ones do
    pub ascending_raw : ascending (rows L s n) ≡ ascending (raw_rows s n)
    ascending_raw = ap ascending (rows_raw s n) ∙ ascending_map L.decode (raw_rows s n)

    -- a key has its place among the raw rows
    place_rows : (i j : ℕ) (k : List ℕ) → place_from i k (drop j (rows L s n)) ≡ place_from i k (drop j (raw_rows s n))
    place_rows i j k =
        ap (λ (rs : List (Row A)). place_from i k (drop j rs)) (rows_raw s n)
        ∙ ap (place_from i k) (drop_map L.decode j (raw_rows s n))
        ∙ place_map L.decode i k (drop j (raw_rows s n))

    module _ {r : Seek} (k : List ℕ) (size : length k ≡ L.key_width) where
      -- a place among the raw rows from the j-th on, the first of which counts as the i-th, is that among the rows
      pub place_raw : (i j : ℕ) → r ≡ place_from i k (drop j (rows (raw_layout (length k) L.width) s n))
          → r ≡ place_from i k (drop j (rows L s n))
      place_raw i j found =
          found ∙ ap (λ (w : ℕ). place_from i k (drop j (rows (raw_layout w L.width) s n))) size ∙ sym (place_rows i j k)

      -- what is found in raw rows is found in the rows, where these keep their rule
      pub seek_raw : (rule : Row A → Bool) → r ≡ seek any_row k (rows (raw_layout (length k) L.width) s n)
          → every rule (rows L s n) ≡ true → r ≡ seek rule k (rows L s n)
      unfolding seek
      seek_raw rule found rules =
          let raw : List (Row (List ℕ)) = raw_rows s n in
          found ∙ ap (λ (w : ℕ). seek any_row k (rows (raw_layout w L.width) s n)) size
          ∙ ap (λ (b : Bool). cond (b && ascending raw) (place_from 0 k raw) Unsound) (every_any raw)
          ∙ sym (ap (λ (b : Bool). cond (b && ascending (rows L s n)) (place_from 0 k (rows L s n)) Unsound) rules
          ∙ ap (λ (b : Bool). cond b (place_from 0 k (rows L s n)) Unsound) ascending_raw
          ∙ ap (λ (p : Seek). cond (ascending raw) p Unsound) (place_rows 0 0 k))

module _ {A : Type 0} {L : Layout A} {Good : A → Type 0} (ok : Faithful L Good) where
  -- decoded rows have the bytes of the raw ones
  table_bytes_raw : (rs : List (Row (List ℕ))) → AllFit (raw_layout L.key_width L.width) (RawFits L.key_width L.width) rs
      → table_bytes L (map_entries L.decode rs) ≡ table_bytes (raw_layout L.key_width L.width) rs
  unfolding table_bytes row_bytes map_entries
  table_bytes_raw [] f = refl
  table_bytes_raw (r ∷ rs) f =
      let good : RawFits L.key_width L.width r.entry = f.0.entry_good in
      rw (
        ok.encode_decode r.entry good.bytes good.size,
        raw_encode L.key_width L.width r.entry good.size,
        table_bytes_raw rs f.1,
      )

  -- memory that holds raw rows holds them decoded
  pub holds_raw : (s t : List ℕ) (n : ℕ) (rs : List (Row (List ℕ))) → Bytes t → L.width * length rs ≤ length t
      → Holds (raw_layout L.key_width L.width) s t n rs → Holds L s t n (map_entries L.decode rs)
  unfolding laid
  holds_raw s t n rs b room held =
      let raw : Layout (List ℕ) = raw_layout L.key_width L.width in
      let same : length (map_entries L.decode rs) ≡ length rs = length_map L.decode rs in
      let fit : AllFit raw (RawFits L.key_width L.width) rs =
      subst (AllFit raw (RawFits L.key_width L.width)) held.reads
      (fit_rows (raw_faithful L.key_width L.width ok.wide ok.key_fits) t (length rs) b room) in
      record {
        memory = held.memory ∙ sym (rw (same, table_bytes_raw rs fit));
        reads = ap (rows L t) same ∙ rows_raw L t (length rs) ∙ ap (map_entries L.decode) held.reads;
      }
