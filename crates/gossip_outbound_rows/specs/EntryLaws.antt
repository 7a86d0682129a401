-- Laws of the entries: a bucket and its entry are read back from one another, a row of one value and one time is one row, and what an
-- operation leaves of a bucket that stands in a row stands there again. In order: numbers; there and back; one row; buckets that stand
-- in a row. Assumes nothing.
use Rattle.std.specs.Prelude.{◌≡◌, refl, Bool, true, false, List, [], ◌∷◌, ℕ, zero, suc, ◌+◌, ◌*◌, ◌/◌, ◌%◌, ◌^◌, ◌≤◌, ◌<◌, eqb, leb, pos, length, get_or}
use Rattle.std.proofs.Common.{sym, ap, ◌∙◌, arith}
use borrow.Author.Tests.{leb-true}
use Rattle.truths.specs.TruthLaws.{both, both_parts}
use Rattle.amount.specs.declared.Amount.{Amount}
use Rattle.amount.specs.Amount.{value, minus_zero, is_i128}
use Rattle.amount.specs.AmountLaws.{Whole, one_representation, i128_plain}
use Rattle.amount.specs.AmountOfLaws.{amount_of_whole}
use Rattle.bucket_terms.specs.declared.limit.ByteRateLimitConfig.{ByteRateLimitConfig}
use Rattle.bucket_bytes.specs.declared.bytes.ByteTokenBucket.{ByteTokenBucket}
use Rattle.bucket_bytes.specs.ByteBucket.{byte_sound, byte_level, byte_new}
use Rattle.bucket_bytes.specs.KeptLaws.{Left, as_it_was, level, byte_new_sound}
use Rattle.gossip_outbound_rows.specs.declared.entry.OutboundEntry.{OutboundEntry}
use Rattle.gossip_outbound_rows.specs.Entry.{amount_from, bucket_of, sign_of, entry_of, entry_sound}

-- ════ Numbers ════

joined_back : (n : ℕ) → n % 4294967296 + 4294967296 * (n / 4294967296) ≡ n
joined_back n = omega arith

lower_back : (a b : ℕ) → a < 4294967296 → (a + 4294967296 * b) % 4294967296 ≡ a
lower_back a b h = omega arith

upper_back : (a b : ℕ) → a < 4294967296 → (a + 4294967296 * b) / 4294967296 ≡ b
upper_back a b h = omega arith

sign_back : (n : ℕ) → n ≤ 1 → sign_of (eqb n 1) ≡ n
sign_back zero h = refl
sign_back (suc zero) h = refl
sign_back (suc (suc n)) h = absurd (omega arith)

negative_back : (b : Bool) → eqb (sign_of b) 1 ≡ b
negative_back true = refl
negative_back false = refl

four_back : (xs : List ℕ) → length xs ≡ 4 → get_or xs 0 0 ∷ get_or xs 1 0 ∷ get_or xs 2 0 ∷ get_or xs 3 0 ∷ [] ≡ xs
four_back [] h = absurd (omega arith)
four_back (a ∷ []) h = absurd (omega arith)
four_back (a ∷ b ∷ []) h = absurd (omega arith)
four_back (a ∷ b ∷ c ∷ []) h = absurd (omega arith)
four_back (a ∷ b ∷ c ∷ d ∷ []) h = refl
four_back (a ∷ b ∷ c ∷ d ∷ e ∷ xs) h = absurd (omega arith)

-- ════ There and back ════

-- an entry's bucket has that entry
pub entry_back : (c : ByteRateLimitConfig) (e : OutboundEntry) → e.sign ≤ 1 → entry_of (bucket_of c e) ≡ e
unfolding entry_of amount_from
entry_back c e h = rw (sign_back e.sign h, joined_back e.low, joined_back e.high)

amount_back : (a : Amount) → Whole a
    → amount_from (sign_of a.negative) (get_or a.limbs 0 0 + 4294967296 * get_or a.limbs 1 0) (get_or a.limbs 2 0 + 4294967296 * get_or a.limbs 3 0) ≡ a
unfolding amount_from
amount_back a w =
    let x : List ℕ = a.limbs in
    rw (
      negative_back a.negative,
      lower_back (get_or x 0 0) (get_or x 1 0) (w.fit 0).fits,
      upper_back (get_or x 0 0) (get_or x 1 0) (w.fit 0).fits,
      lower_back (get_or x 2 0) (get_or x 3 0) (w.fit 2).fits,
      upper_back (get_or x 2 0) (get_or x 3 0) (w.fit 2).fits,
      four_back x w.four,
    )

-- a bucket's entry stands for that bucket
pub bucket_back : (b : ByteTokenBucket) → Whole b.available_bytes → bucket_of b.config (entry_of b) ≡ b
unfolding entry_of
bucket_back b w =
    ap (λ (a : Amount). record { config = b.config; available_bytes = a; last_refill_ms = b.last_refill_ms })
    (amount_back b.available_bytes w)

-- ════ One row ════

-- two halves make four limbs
from_whole : (sign low high : ℕ) → low < 2 ^ 64 → high < 2 ^ 64 → Whole (amount_from sign low high)
unfolding amount_from
from_whole sign low high h k =
    record { four = refl; fit = λ i. record { fits = fit i } }
  where
    fit : (i : ℕ) → get_or (low % 4294967296 ∷ low / 4294967296 ∷ high % 4294967296 ∷ high / 4294967296 ∷ []) i 0 < 4294967296
    fit zero = omega arith
    fit (suc zero) = omega arith
    fit (suc (suc zero)) = omega arith
    fit (suc (suc (suc zero))) = omega arith
    fit (suc (suc (suc (suc i)))) = omega arith

-- what the halves of an entry's magnitude are: eight bytes each
pub record Halves (e : OutboundEntry) : Type 0 where
  pub low_fits : e.low < 2 ^ 64
  pub high_fits : e.high < 2 ^ 64

module _ (c : ByteRateLimitConfig) where
  sign_within : (e : OutboundEntry) → entry_sound c e ≡ true → e.sign ≤ 1
  unfolding entry_sound
  sign_within e h = leb-true e.sign 1 (both_parts (leb e.sign 1) _ h).0

  -- the bucket of a sound entry is sound
  pub entry_bucket_sound : (e : OutboundEntry) → entry_sound c e ≡ true → byte_sound (bucket_of c e) ≡ true
  unfolding entry_sound
  entry_bucket_sound e h = (both_parts (leb e.sign 1) _ h).1

  -- the amount of a sound bucket is no minus zero
  plain : (b : ByteTokenBucket) → byte_sound b ≡ true → minus_zero b.available_bytes ≡ false
  unfolding byte_sound
  plain b h = i128_plain b.available_bytes (both_parts (is_i128 b.available_bytes) _ h).0

  -- two sound rows of one value and one time are one row
  pub one_row : (d e : OutboundEntry) → Halves d → Halves e → entry_sound c d ≡ true → entry_sound c e ≡ true
      → value (bucket_of c d).available_bytes ≡ value (bucket_of c e).available_bytes → d.last_refill_ms ≡ e.last_refill_ms → d ≡ e
  one_row d e hd he sd se v t =
      let same : (bucket_of c d).available_bytes ≡ (bucket_of c e).available_bytes =
      one_representation (from_whole d.sign d.low d.high hd.low_fits hd.high_fits)
      (from_whole e.sign e.low e.high he.low_fits he.high_fits)
      (plain (bucket_of c d) (entry_bucket_sound d sd)) (plain (bucket_of c e) (entry_bucket_sound e se)) v in
      sym (entry_back c d (sign_within d sd))
      ∙ ap (λ (a : Amount). entry_of (record { config = c; available_bytes = a; last_refill_ms = d.last_refill_ms })) same
      ∙ ap (λ (n : ℕ). entry_of (record { config = c; available_bytes = (bucket_of c e).available_bytes; last_refill_ms = n })) t
      ∙ entry_back c e (sign_within e se)

  -- ════ Buckets that stand in a row ════

  -- a sound bucket of the peers' settings, for which its entry stands
  pub record Stands (b : ByteTokenBucket) : Type 0 where
    pub settings : b.config ≡ c
    pub sound : byte_sound b ≡ true
    pub back : bucket_of c (entry_of b) ≡ b

  sign_most : (b : Bool) → leb (sign_of b) 1 ≡ true
  sign_most true = refl
  sign_most false = refl

  -- its entry keeps the rule of a row
  pub stands_entry : (b : ByteTokenBucket) → Stands b → entry_sound c (entry_of b) ≡ true
  unfolding entry_sound entry_of
  stands_entry b st = both (sign_most b.available_bytes.negative) (ap byte_sound st.back ∙ st.sound)

  -- the bucket of a row that keeps its rule
  pub known_stands : (e : OutboundEntry) → entry_sound c e ≡ true → Stands (bucket_of c e)
  known_stands e h =
      record { settings = refl; sound = entry_bucket_sound e h; back = ap (bucket_of c) (entry_back c e (sign_within e h)) }

  -- a fresh one
  pub fresh_stands : c.burst_bytes < 2 ^ 64 → Stands (byte_new c)
  fresh_stands h =
      record {
        settings = refl;
        sound = byte_new_sound c h;
        back = bucket_back (byte_new c) (amount_of_whole (pos c.burst_bytes));
      }

  -- what an operation leaves of one
  pub left_stands : {b q : ByteTokenBucket} → Stands b → Left b q → Stands q
  left_stands st (as_it_was e) = rw e st
  left_stands {b} {q} st (level z last e s) =
      let there : ByteTokenBucket = byte_level b.config z last in
      record {
        settings = ap (λ (x : ByteTokenBucket). x.config) e ∙ st.settings;
        sound = s;
        back =
            ap (λ (x : ByteTokenBucket). bucket_of c (entry_of x)) e
            ∙ ap (λ (d : ByteRateLimitConfig). bucket_of d (entry_of there)) (sym st.settings)
            ∙ bucket_back there (amount_of_whole z) ∙ sym e;
      }
