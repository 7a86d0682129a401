-- Soundness kept, for any layout, row rule and limit: rows taken out of rows that hold, and a row stored among them, hold; and memory
-- after a change to rows that hold is sound again, of the same length, and bytes. In order: keys; the bytes of keyed rows; rows that
-- hold; memory that holds; a change kept. Assumes nothing.
use Rattle.std.specs.Prelude.{◌≡◌, Bool, true, take}
use Rattle.std.proofs.Math.Path.{sym}
use Rattle.std.proofs.Common.{ap, ◌∙◌, subst, mul-zero, mul-le-mul_left, le-leb}
use mathlib.Core.List.{List, [], ◌∷◌, ◌++◌}
use Prim.Native.Nat.{ℕ, zero, suc, ◌+◌, ◌-◌, ◌*◌, ◌≤◌, max}
use Rattle.std.proofs.Math.Nat.{mul-suc, mul-sub}
use native.Mathlib.Omega.{arith}
use Rattle.std.proofs.Math.ListN.{length, drop, length-append, length-drop}
use Rattle.std.proofs.Math.Seq.{length-take-le}
use Rattle.truths.specs.TruthLaws.{both}
use Rattle.lent_bytes.specs.LentBytes.{Bytes, zeros}
use Rattle.lent_bytes.specs.LentBytesLaws.{length_zeros, Bytes_nil, Bytes_append, Bytes_take, Bytes_drop, Bytes_zeros}
use Rattle.pubkey.specs.Order.{compare_bytes}
use Rattle.table.specs.Table.{Row, row_under, every, ascending, store}
use Rattle.table.specs.Memory.{Layout, row_of, rows, row_bytes, table_bytes, laid}
use Rattle.table.specs.Outcome.{Change, same, become, Memory, changed_rows, count_after}
use Rattle.table.specs.TableLaws.{by_answer, every_store, ascending_store, Sub, done, keep, leave, sub_every, sub_ascending, sub_length}
use Rattle.table.specs.MemoryLaws.{length_rows, bytes_used}
use Rattle.table_laws.specs.Words.{Numbers}
use Rattle.table_laws.specs.WordsLaws.{OfNumbers, length_encode, encode_bytes}
use Rattle.table_laws.specs.Lent.{lent_sound}
use Rattle.table_laws.specs.LentLaws.{limit_fits, rules_kept, order_kept}
use Rattle.table_laws.specs.Kept.{Key, Keyed, Encodes, RowsHold, ChangeHolds, LentHolds, LentKept}

-- ════ Keys ════

module _ {A : Type 0} (L : Layout A) where
  -- rows that stand in memory
  pub keyed_rows : L.key_width ≤ L.width → (s : List ℕ) (n : ℕ) → Bytes s → L.width * n ≤ length s → Keyed L (rows L s n)
  unfolding rows row_of
  keyed_rows narrow s zero b h = tt
  keyed_rows narrow s (suc n) b h =
      let w : ℕ = L.width in
      let more : w * suc n ≡ w * n + w = mul-suc w n in
      let row : length (take w s) ≡ w = length-take-le w s (omega arith) in (
        (length-take-le L.key_width (take w s) (omega arith), Bytes_take L.key_width (take w s) (Bytes_take w s b)),
        keyed_rows narrow (drop w s) n (Bytes_drop w s b) (omega (arith, length-drop w s)),
      )

  -- rows left
  pub keyed_sub : {xs ys : List (Row A)} → Sub xs ys → Keyed L ys → Keyed L xs
  keyed_sub done keys = tt
  keyed_sub (keep s) keys = (keys.0, keyed_sub s keys.1)
  keyed_sub (leave s) keys = keyed_sub s keys.1

  -- rows after a store
  pub keyed_store : (k : List ℕ) (e : A) (rs : List (Row A)) → Key L k → Keyed L rs → Keyed L (store k e rs)
  unfolding store
  keyed_store k e [] key keys = (key, tt)
  keyed_store k e (r ∷ rs) key keys =
      let rest : Keyed L (store k e rs) = keyed_store k e rs key keys.1 in
      by_answer (compare_bytes k r.key) (λ o. rw o (key, keys)) (λ o. rw o (key, keys.1)) (λ o. rw o (keys.0, rest))

-- ════ The bytes of keyed rows, whatever their entries are ════

-- entries that are numbers
pub numbers_encode : {A : Type 0} {L : Layout A} {N : Numbers A} → OfNumbers L N → Encodes L
numbers_encode num = record { key_fits = omega (arith, num.widths); length_encode = length_encode num; encode_bytes = encode_bytes num }

module _ {A : Type 0} {L : Layout A} (enc : Encodes L) where
  length_keyed : (rs : List (Row A)) → Keyed L rs → length (table_bytes L rs) ≡ L.width * length rs
  unfolding table_bytes row_bytes
  length_keyed [] keys = sym (mul-zero L.width)
  length_keyed (r ∷ rs) keys =
      omega (
        arith,
        length-append (row_bytes L r) (table_bytes L rs),
        length-append r.key (L.encode r.entry),
        enc.length_encode r.entry,
        enc.key_fits,
        keys.0.0,
        length_keyed rs keys.1,
        mul-suc L.width (length rs),
      )

  bytes_keyed : (rs : List (Row A)) → Keyed L rs → Bytes (table_bytes L rs)
  unfolding table_bytes row_bytes
  bytes_keyed [] keys = Bytes_nil
  bytes_keyed (r ∷ rs) keys =
      Bytes_append (row_bytes L r) (table_bytes L rs) (Bytes_append r.key (L.encode r.entry) keys.0.1 (enc.encode_bytes r.entry))
      (bytes_keyed rs keys.1)

  module _ (s : List ℕ) (n : ℕ) (rs : List (Row A)) (keys : Keyed L rs) where
    -- memory keeps its length
    pub length_laid_keyed : L.width * n ≤ length s → L.width * length rs ≤ length s → length (laid L s n rs) ≡ length s
    unfolding laid
    length_laid_keyed h k =
        let w : ℕ = L.width in
        let freed : List ℕ = zeros (w * (n - length rs)) in
        let behind : List ℕ = drop (w * max n (length rs)) s in
        omega (
          arith,
          length-append (table_bytes L rs) (freed ++ behind),
          length-append freed behind,
          length_keyed rs keys,
          length_zeros (w * (n - length rs)),
          length-drop (w * max n (length rs)) s,
          bytes_used w n (length rs),
          mul-sub w n (length rs),
          mul-sub w (length rs) n,
        )

    -- memory holds bytes
    pub bytes_laid_keyed : Bytes s → Bytes (laid L s n rs)
    unfolding laid
    bytes_laid_keyed b =
        let w : ℕ = L.width in
        let freed : List ℕ = zeros (w * (n - length rs)) in
        let behind : List ℕ = drop (w * max n (length rs)) s in
        Bytes_append (table_bytes L rs) (freed ++ behind) (bytes_keyed rs keys)
        (Bytes_append freed behind (Bytes_zeros (w * (n - length rs))) (Bytes_drop (w * max n (length rs)) s b))

-- ════ Rows that hold ════

module _ {A : Type 0} (L : Layout A) (rule : Row A → Bool) (limit : ℕ) where
  -- rows left
  pub sub_hold : {xs ys : List (Row A)} → Sub xs ys → RowsHold L rule limit ys → RowsHold L rule limit xs
  sub_hold s h =
      record {
        few = omega (arith, sub_length s, h.few);
        rules = sub_every rule s h.rules;
        order = sub_ascending s h.order;
        keyed = keyed_sub L s h.keyed;
      }

  -- a row that keeps its rule stored under a key of the right width, if there is room for it
  pub store_hold : (k : List ℕ) (e : A) (rs : List (Row A)) → Key L k → rule (row_under k e) ≡ true → RowsHold L rule limit rs
      → length (store k e rs) ≤ limit → RowsHold L rule limit (store k e rs)
  store_hold k e rs key kept h room =
      record {
        few = room;
        rules = every_store k e rule rs kept h.rules;
        order = ascending_store k e rs h.order;
        keyed = keyed_store L k e rs key h.keyed;
      }

  -- ════ Memory that holds ════

  module _ (s : List ℕ) (n : ℕ) where
    -- sound memory holds its rows as it should, where they are no more than the limit
    pub lent_holds : (own : Bool) → n ≤ limit → lent_sound L rule own limit s n ≡ true → LentHolds L rule limit s n
    lent_holds own few h =
        record {
          few = few;
          long = limit_fits L rule own limit s n h;
          rules = rules_kept L rule own limit s n h;
          order = order_kept L rule own limit s n h;
        }

    -- memory that does is sound, with a record that keeps its own rules
    pub holds_lent : {own : Bool} → own ≡ true → LentHolds L rule limit s n → lent_sound L rule own limit s n ≡ true
    unfolding lent_sound
    holds_lent own h = both own (both (le-leb (L.width * limit) (length s) h.long) (both h.rules h.order))

    -- the rows that it holds, in bytes
    pub rows_hold : L.key_width ≤ L.width → LentHolds L rule limit s n → Bytes s → RowsHold L rule limit (rows L s n)
    rows_hold narrow h b =
        record {
          few = omega (arith, length_rows L s n, h.few);
          rules = h.rules;
          order = h.order;
          keyed = keyed_rows L narrow s n b (omega (arith, mul-le-mul_left L.width h.few, h.long));
        }

-- ════ A change kept ════

module _ {A : Type 0} {L : Layout A} (enc : Encodes L) (rule : Row A → Bool) (limit : ℕ) (s t : List ℕ) (n : ℕ) where
  -- memory after a change to rows that hold
  pub change_kept : (change : Change A) → LentHolds L rule limit s n → Bytes s → ChangeHolds L rule limit change → Memory L s t n change
      → LentKept L rule limit s t n change
  change_kept same h b rs m = record { holds = subst (λ (x : List ℕ). LentHolds L rule limit x n) (sym m) h; same_length = ap length m; holds_bytes = rw m b }
  change_kept (become rs) h b r m =
      let inside : L.width * n ≤ length s = omega (arith, mul-le-mul_left L.width h.few, h.long) in
      let fits : L.width * length rs ≤ length s = omega (arith, mul-le-mul_left L.width r.few, h.long) in
      let same_length : length t ≡ length s = ap length m.memory ∙ length_laid_keyed enc s n rs r.keyed inside fits in
      record {
        holds =
            record {
              few = r.few;
              long = omega (arith, h.long);
              rules = ap (every rule) m.reads ∙ r.rules;
              order = ap ascending m.reads ∙ r.order;
            };
        same_length = same_length;
        holds_bytes = rw m.memory (bytes_laid_keyed enc s n rs r.keyed b);
      }

-- the rows after a change are what the change says
pub change_rows : {A : Type 0} (L : Layout A) (s t : List ℕ) (n : ℕ) (change : Change A) → Memory L s t n change
    → rows L t (count_after n change) ≡ changed_rows (rows L s n) change
change_rows L s t n same m = ap (λ (x : List ℕ). rows L x n) m
change_rows L s t n (become xs) m = m.reads
