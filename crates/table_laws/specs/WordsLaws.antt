-- Laws of entries that are numbers: they and their bytes are read back from one another, and a row's numbers by their places.
-- Assumes nothing.
use Rattle.std.specs.Prelude.{◌≡◌, refl, List, [], ◌∷◌, ℕ, zero, suc, ◌+◌, ◌-◌, ◌*◌, ◌≤◌, ◌<◌, length, drop, get_or}
use Rattle.std.proofs.Common.{sym, ap, ◌∙◌, subst, arith, drop_of_length-le, drop-cons}
use Rattle.lent_bytes.specs.LentBytes.{part, le, Bytes}
use Rattle.lent_bytes.specs.LentBytesLaws.{drop_part, part_part}
use Rattle.table.specs.Memory.{Layout, word_bytes, word_of, words}
use Rattle.table.specs.MemoryLaws.{Words, Faithful, length_word_bytes, Bytes_word_bytes, word_of_word_bytes, word_bytes_all, word_of_lt}
use Rattle.table_laws.specs.Words.{Numbers, word_layout, EachFits, NumbersFit}

-- ════ Numbers that fit ════

-- each of them is below the limit, at any index
pub each_fits : (vs : List ℕ) → EachFits vs → Words vs
each_fits [] f i = omega arith
each_fits (v ∷ vs) f zero = f.0
each_fits (v ∷ vs) f (suc i) = each_fits vs f.1 i

-- numbers that bytes spell fit
each_words : (s : List ℕ) (i k : ℕ) → Bytes s → 8 * (i + k) ≤ length s → EachFits (words i k s)
each_words s i zero b h = tt
each_words s i (suc k) b h = (word_of_lt s i b (omega arith), each_words s (suc i) k b (omega arith))

-- numbers that were written read back
words_back : (vs : List ℕ) (i k : ℕ) → Words vs → i + k ≡ length vs → words i k (word_bytes vs) ≡ drop i vs
words_back vs i zero f h =
    let most : length vs ≤ i = omega arith in
    sym (drop_of_length-le vs most)
words_back vs i (suc k) f h =
    let inside : i < length vs = omega arith in
    ap (λ (v : ℕ). v ∷ words (suc i) k (word_bytes vs)) (word_of_word_bytes vs i f inside)
    ∙ ap (λ (l : List ℕ). get_or vs i 0 ∷ l) (words_back vs (suc i) k f (omega arith)) ∙ sym (drop-cons vs i 0 inside)

-- ════ Layouts of numbers ════

-- what makes a layout one of an entry's numbers: the widths add up, what stands behind the key are the numbers, and they and the entry
-- make one another
pub record OfNumbers {A : Type 0} (L : Layout A) (N : Numbers A) : Type 0 where
  pub wide : 0 < L.width
  pub widths : L.key_width + 8 * N.count ≡ L.width
  pub encodes : (e : A) → L.encode e ≡ word_bytes (N.words_of e)
  pub decodes : (s : List ℕ) → L.decode s ≡ N.of_words (words 0 N.count s)
  pub length_words : (e : A) → length (N.words_of e) ≡ N.count
  pub of_words_lem : (e : A) → N.of_words (N.words_of e) ≡ e
  pub words_of_lem : (s : List ℕ) → N.words_of (N.of_words (words 0 N.count s)) ≡ words 0 N.count s

module _ {A : Type 0} {L : Layout A} {N : Numbers A} (num : OfNumbers L N) where
  -- an entry takes what its key leaves of the row
  pub length_encode : (e : A) → length (L.encode e) ≡ L.width - L.key_width
  length_encode e =
      ap length (num.encodes e) ∙ omega (arith, length_word_bytes (N.words_of e), num.length_words e, num.widths)

  -- its bytes are bytes, whatever its numbers are
  pub encode_bytes : (e : A) → Bytes (L.encode e)
  encode_bytes e = subst Bytes (sym (num.encodes e)) (Bytes_word_bytes (N.words_of e))

  words_decode : (s : List ℕ) → N.words_of (L.decode s) ≡ words 0 N.count s
  words_decode s = ap N.words_of (num.decodes s) ∙ num.words_of_lem s

  decode_encode : (e : A) → NumbersFit N e → L.decode (L.encode e) ≡ e
  decode_encode e f =
      let vs : List ℕ = N.words_of e in
      let all : 0 + N.count ≡ length vs = omega (arith, num.length_words e) in
      ap L.decode (num.encodes e) ∙ num.decodes (word_bytes vs)
      ∙ ap N.of_words (words_back vs 0 N.count (each_fits vs f) all) ∙ num.of_words_lem e

  -- entries stand in their rows and are read back. `Good` says in its own words that the numbers fit
  pub numbers_faithful : (Good : A → Type 0) → ((e : A) → Good e → NumbersFit N e) → ((e : A) → NumbersFit N e → Good e)
      → Faithful L Good
  numbers_faithful Good fits good =
      record {
        wide = num.wide;
        key_fits = omega (arith, num.widths);
        length_encode = length_encode;
        encode_decode =
            λ s b h.
            num.encodes (L.decode s) ∙ ap word_bytes (words_decode s)
            ∙ word_bytes_all s N.count b (omega (arith, num.widths));
        decode_good =
            λ s b h.
            good (L.decode s)
            (subst EachFits (sym (words_decode s)) (each_words s 0 N.count b (omega (arith, num.widths))));
        decode_encode = λ e f. decode_encode e (fits e f);
        encode_bytes = λ e f. encode_bytes e;
      }

-- a layout made of numbers is one of numbers
pub of_numbers : {A : Type 0} (k w : ℕ) (N : Numbers A) → 0 < w → k + 8 * N.count ≡ w → ((e : A) → length (N.words_of e) ≡ N.count)
    → ((e : A) → N.of_words (N.words_of e) ≡ e) → ((s : List ℕ) → N.words_of (N.of_words (words 0 N.count s)) ≡ words 0 N.count s)
    → OfNumbers (word_layout k w N) N
of_numbers k w N wide widths count back forth =
    record {
      wide = wide;
      widths = widths;
      encodes = λ e. refl;
      decodes = λ s. refl;
      length_words = count;
      of_words_lem = back;
      words_of_lem = forth;
    }

-- entries stand in their rows and are read back: a new entry type's law in a line
pub words_faithful : {A : Type 0} (k w : ℕ) (N : Numbers A) → 0 < w → k + 8 * N.count ≡ w → ((e : A) → length (N.words_of e) ≡ N.count)
    → ((e : A) → N.of_words (N.words_of e) ≡ e) → ((s : List ℕ) → N.words_of (N.of_words (words 0 N.count s)) ≡ words 0 N.count s)
    → Faithful (word_layout k w N) (NumbersFit N)
words_faithful k w N wide widths count back forth =
    numbers_faithful (of_numbers k w N wide widths count back forth) (NumbersFit N) (λ e f. f) (λ e f. f)

-- ════ The numbers of a row by their places ════

-- the i-th number behind a key of k bytes, in the row of w bytes at a place
pub word_place : (s : List ℕ) (at k w i p : ℕ) → k + (8 * i + 8) ≤ w → at + k + 8 * i ≡ p
    → word_of (drop k (part s at w)) i ≡ le (part s p 8)
word_place s at k w i p h e =
    ap (λ (l : List ℕ). word_of l i) (drop_part s at w k (omega arith))
    ∙ ap le (part_part s (at + k) (w - k) (8 * i) 8 (omega arith) ∙ ap (λ (m : ℕ). part s m 8) e)
