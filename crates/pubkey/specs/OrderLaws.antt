-- Laws of the order of keys: `compare_bytes` is a strict order of lists of any length, and the order of limiter keys is that of
-- their 70 row bytes. 33, 36 and 70 bytes are instances. "a comes before b" is said as `compare_bytes a b ≡ Less`.
-- In order: answers; numbers; lists by their first bytes; lists at an index; the strict order; appended lists; keys with equal
-- bytes; limiter keys; at most one outcome. Assumes nothing.
use Rattle.std.specs.Prelude.{◌≡◌, ℕ, ◌+◌, ◌<◌, ◌≤◌, Bool, true, false, ◌⊎◌, List, [], ◌∷◌, ◌++◌, length, drop, ◌≢◌, nat_lt, slice_index, refl}
use Rattle.std.proofs.Common.{inl, inr, ⊎_elim, sym, ap, ◌∙◌, add-one, arith, ltb-true, ltb-false, lt-ltb, le-ltb, length-append, drop_of_length-le, drop-cons}
use Rattle.refusal.specs.OneOutcomeLaws.{one_outcome}
use Rattle.pubkey.specs.Order.{◌then◌, compare_numbers, compare_bytes, compare_sides, side_byte, limiter_key, compare_limiter_keys, limiter_key_bytes}
use Rattle.std.specs.declared.cmp.Ordering.{Ordering}
use Rattle.std.specs.declared.cmp.Ordering.TheVariants.{Less, Equal, Greater}
use Rattle.pubkey.specs.declared.Pubkey.{Pubkey}
use Rattle.pubkey.specs.declared.OutPoint.{OutPoint}
use Rattle.pubkey.specs.declared.ChannelUpdateLimiterKey.{ChannelUpdateLimiterKey}

-- ════ Answers ════

-- the answer where the two that are compared change places: the Rust's `Ordering::reverse`
abbrev pub flip : Ordering → Ordering
flip Less = Greater
flip Equal = Equal
flip Greater = Less

pub flip_then : (p q : Ordering) → flip (p then q) ≡ flip p then flip q
flip_then Less q = refl
flip_then Equal q = refl
flip_then Greater q = refl

pub then_assoc : (p q r : Ordering) → (p then q) then r ≡ p then (q then r)
then_assoc Less q r = refl
then_assoc Equal q r = refl
then_assoc Greater q r = refl

pub then_equal : (p : Ordering) → p then Equal ≡ p
then_equal Less = refl
then_equal Equal = refl
then_equal Greater = refl

-- no answer is two of the three
pub less_is_not_equal : {o : Ordering} → o ≡ Less → o ≢ Equal
less_is_not_equal h k = let z : ◌≡◌ {A = ℕ} 0 1 = cc in omega arith

pub less_is_not_greater : {o : Ordering} → o ≡ Less → o ≢ Greater
less_is_not_greater h k = let z : ◌≡◌ {A = ℕ} 0 1 = cc in omega arith

pub equal_is_not_greater : {o : Ordering} → o ≡ Equal → o ≢ Greater
equal_is_not_greater h k = let z : ◌≡◌ {A = ℕ} 0 1 = cc in omega arith

-- ════ Numbers ════

pub numbers_less : {x y : ℕ} → x < y → compare_numbers x y ≡ Less
numbers_less {x} {y} h = rw (lt-ltb x y h)

pub numbers_greater : {x y : ℕ} → y < x → compare_numbers x y ≡ Greater
numbers_greater {x} {y} h = let k : y ≤ x = omega arith in rw (le-ltb x y k, lt-ltb y x h)

pub numbers_equal : {x y : ℕ} → x ≡ y → compare_numbers x y ≡ Equal
numbers_equal {x} {y} h =
    let k : y ≤ x = omega arith in
    let l : x ≤ y = omega arith in
    rw (le-ltb x y k, le-ltb y x l)

-- two numbers are in one of three cases
pub numbers_cases : (x y : ℕ) → (x < y) ⊎ ((x ≡ y) ⊎ (y < x))
numbers_cases x y = go (nat_lt x y) (nat_lt y x) refl refl
  where
    go : (below above : Bool) → nat_lt x y ≡ below → nat_lt y x ≡ above → (x < y) ⊎ ((x ≡ y) ⊎ (y < x))
    go true above p q = inl (ltb-true x y p)
    go false true p q = inr (inr (ltb-true y x q))
    go false false p q = inr (inl (omega (arith, ltb-false x y p, ltb-false y x q)))

pub numbers_flip : (x y : ℕ) → compare_numbers y x ≡ flip (compare_numbers x y)
numbers_flip x y =
    ⊎_elim (λ h. numbers_greater h ∙ sym (ap flip (numbers_less h)))
    (⊎_elim (λ h. numbers_equal (sym h) ∙ sym (ap flip (numbers_equal h)))
    (λ h. numbers_less h ∙ sym (ap flip (numbers_greater h))))
    (numbers_cases x y)

-- ════ Lists by their first bytes ════

module _ (x y : ℕ) (a b : List ℕ) where
  pub first_less : x < y → compare_bytes (x ∷ a) (y ∷ b) ≡ Less
  first_less h = rw (numbers_less h)

  pub first_greater : y < x → compare_bytes (x ∷ a) (y ∷ b) ≡ Greater
  first_greater h = rw (numbers_greater h)

  pub first_equal : x ≡ y → compare_bytes (x ∷ a) (y ∷ b) ≡ compare_bytes a b
  first_equal h = rw (numbers_equal h)

  -- a list comes first by its first byte, or by what follows equal first bytes
  pub less_cases : compare_bytes (x ∷ a) (y ∷ b) ≡ Less → (x < y) ⊎ ((x ≡ y) × (compare_bytes a b ≡ Less))
  less_cases less =
      ⊎_elim (λ h. inl h)
      (⊎_elim (λ h. inr (h, sym (first_equal h) ∙ less)) (λ h. absurd (less_is_not_greater less (first_greater h))))
      (numbers_cases x y)

  pub equal_parts : compare_bytes (x ∷ a) (y ∷ b) ≡ Equal → (x ≡ y) × (compare_bytes a b ≡ Equal)
  equal_parts equal =
      ⊎_elim (λ h. absurd (less_is_not_equal (first_less h) equal))
      (⊎_elim (λ h. (h, sym (first_equal h) ∙ equal)) (λ h. absurd (equal_is_not_greater equal (first_greater h))))
      (numbers_cases x y)

-- ════ Lists at an index: one turn of a loop over both ════

module _ (a b : List ℕ) (i : ℕ) where
  -- both have a byte there: it decides, or what follows does
  pub compare_from : i < length a → i < length b
      → compare_bytes (drop i a) (drop i b)
      ≡ compare_numbers (slice_index a i) (slice_index b i) then compare_bytes (drop (i + 1) a) (drop (i + 1) b)
  compare_from h k = rw (add-one, drop-cons a i 0, drop-cons b i 0)

  pub less_from : i < length a → i < length b → slice_index a i < slice_index b i → compare_bytes (drop i a) (drop i b) ≡ Less
  less_from h k l = compare_from h k ∙ rw (numbers_less l)

  pub greater_from : i < length a → i < length b → slice_index b i < slice_index a i → compare_bytes (drop i a) (drop i b) ≡ Greater
  greater_from h k l = compare_from h k ∙ rw (numbers_greater l)

  pub equal_from : i < length a → i < length b → slice_index a i ≡ slice_index b i
      → compare_bytes (drop i a) (drop i b) ≡ compare_bytes (drop (i + 1) a) (drop (i + 1) b)
  equal_from h k l = compare_from h k ∙ rw (numbers_equal l)

  -- one has ended there, or both have
  pub first_ended : length a ≤ i → i < length b → compare_bytes (drop i a) (drop i b) ≡ Less
  first_ended h k = rw (drop_of_length-le a h, drop-cons b i 0)

  pub second_ended : i < length a → length b ≤ i → compare_bytes (drop i a) (drop i b) ≡ Greater
  second_ended h k = rw (drop-cons a i 0, drop_of_length-le b k)

  pub both_ended : length a ≤ i → length b ≤ i → compare_bytes (drop i a) (drop i b) ≡ Equal
  both_ended h k = rw (drop_of_length-le a h, drop_of_length-le b k)

-- ════ The strict order ════

pub compare_self : (a : List ℕ) → compare_bytes a a ≡ Equal
compare_self [] = refl
compare_self (x ∷ a) = first_equal x x a a refl ∙ compare_self a

pub compare_equal : (a b : List ℕ) → compare_bytes a b ≡ Equal → a ≡ b
compare_equal [] [] h = refl
compare_equal [] (y ∷ b) h = absurd (less_is_not_equal refl h)
compare_equal (x ∷ a) [] h = absurd (equal_is_not_greater h refl)
compare_equal (x ∷ a) (y ∷ b) h =
    let p = equal_parts x y a b h in
    let q : a ≡ b = compare_equal a b p.1 in
    rw (p.0, q)

pub compare_flip : (a b : List ℕ) → compare_bytes b a ≡ flip (compare_bytes a b)
compare_flip [] [] = refl
compare_flip [] (y ∷ b) = refl
compare_flip (x ∷ a) [] = refl
compare_flip (x ∷ a) (y ∷ b) = rw (numbers_flip x y, compare_flip a b) (sym (flip_then (compare_numbers x y) (compare_bytes a b)))

pub less_flip : (a b : List ℕ) → compare_bytes a b ≡ Less → compare_bytes b a ≡ Greater
less_flip a b h = compare_flip a b ∙ ap flip h

pub greater_flip : (a b : List ℕ) → compare_bytes a b ≡ Greater → compare_bytes b a ≡ Less
greater_flip a b h = compare_flip a b ∙ ap flip h

pub irreflexive : (a : List ℕ) → compare_bytes a a ≢ Less
irreflexive a h = less_is_not_equal h (compare_self a)

-- nothing comes before the empty list
nothing_before : (a : List ℕ) → compare_bytes a [] ≢ Less
nothing_before [] h = irreflexive [] h
nothing_before (x ∷ a) h = less_is_not_greater h refl

pub transitive : (a b c : List ℕ) → compare_bytes a b ≡ Less → compare_bytes b c ≡ Less → compare_bytes a c ≡ Less
transitive a b [] h k = absurd (nothing_before b k)
transitive [] b (z ∷ c) h k = refl
transitive (x ∷ a) [] (z ∷ c) h k = absurd (nothing_before (x ∷ a) h)
transitive (x ∷ a) (y ∷ b) (z ∷ c) h k =
    ⊎_elim (λ p. ⊎_elim (λ q. first_less x z a c (omega arith)) (λ q. first_less x z a c (omega arith)) (less_cases y z b c k))
    (λ p. ⊎_elim (λ q. first_less x z a c (omega arith))
    (λ q. first_equal x z a c (omega arith) ∙ transitive a b c p.1 q.1)
    (less_cases y z b c k))
    (less_cases x y a b h)

-- exactly one of three: one is the case, and no two of them are
pub record ExactlyOne (A B C : Type 0) : Type 0 where
  pub one : A ⊎ (B ⊎ C)
  pub not_first_and_second : A → B → ⊥
  pub not_first_and_third : A → C → ⊥
  pub not_second_and_third : B → C → ⊥

-- the answers of comparing both ways round, where Equal stands for equality, leave exactly one of three
pub exactly_one : {A : Type 0} {a b : A} (there back : Ordering)
    → (there ≡ Equal → a ≡ b) → (a ≡ b → there ≡ Equal) → back ≡ flip there
    → ExactlyOne (there ≡ Less) (a ≡ b) (back ≡ Less)
exactly_one {A} {a} {b} there back same equal flipped = record {
  one = cases there same flipped;
  not_first_and_second = λ h k. less_is_not_equal h (equal k);
  not_first_and_third = λ h k. less_is_not_greater k (flipped ∙ ap flip h);
  not_second_and_third = λ h k. less_is_not_equal k (flipped ∙ ap flip (equal h));
}
  where
    cases : (o : Ordering) → (o ≡ Equal → a ≡ b) → back ≡ flip o → (o ≡ Less) ⊎ ((a ≡ b) ⊎ (back ≡ Less))
    cases Less s f = inl refl
    cases Equal s f = inr (inl (s refl))
    cases Greater s f = inr (inr f)

-- a comes before b, or they are equal, or b comes before a: exactly one of these
pub trichotomy : (a b : List ℕ) → ExactlyOne (compare_bytes a b ≡ Less) (a ≡ b) (compare_bytes b a ≡ Less)
trichotomy a b =
    exactly_one (compare_bytes a b) (compare_bytes b a) (compare_equal a b) (λ h. rw h (compare_self b)) (compare_flip a b)

-- ════ Appended lists ════

-- where the first parts are of one length, they decide, or the second parts do
pub compare_append : (a b c d : List ℕ) → length a ≡ length b
    → compare_bytes (a ++ c) (b ++ d) ≡ compare_bytes a b then compare_bytes c d
compare_append [] [] c d h = refl
compare_append [] (y ∷ b) c d h = absurd (omega arith)
compare_append (x ∷ a) [] c d h = absurd (omega arith)
compare_append (x ∷ a) (y ∷ b) c d h =
    ap (λ (o : Ordering). compare_numbers x y then o) (compare_append a b c d (omega arith))
    ∙ sym (then_assoc (compare_numbers x y) (compare_bytes a b) (compare_bytes c d))

-- ════ Keys are equal where their bytes are ════

pub pubkey_fields : {a b : Pubkey} → a.bytes ≡ b.bytes → a ≡ b
pubkey_fields h = ap {B = Pubkey} (λ (x : List ℕ). record { bytes = x }) h

pub outpoint_fields : {a b : OutPoint} → a.bytes ≡ b.bytes → a ≡ b
outpoint_fields h = ap {B = OutPoint} (λ (x : List ℕ). record { bytes = x }) h

pub limiter_key_fields : {a b : ChannelUpdateLimiterKey} → a.peer.bytes ≡ b.peer.bytes
    → a.channel_outpoint.bytes ≡ b.channel_outpoint.bytes → a.is_node1 ≡ b.is_node1 → a ≡ b
limiter_key_fields {a} {b} p o s =
    ap (λ (x : Pubkey). limiter_key x a.channel_outpoint a.is_node1) (pubkey_fields p)
    ∙ ap (λ (y : OutPoint). limiter_key b.peer y a.is_node1) (outpoint_fields o)
    ∙ ap (λ (z : Bool). limiter_key b.peer b.channel_outpoint z) s

-- of two peers' keys one comes before the other, or they are equal: exactly one of these
pub pubkey_trichotomy : (a b : Pubkey) → ExactlyOne (compare_bytes a.bytes b.bytes ≡ Less) (a ≡ b) (compare_bytes b.bytes a.bytes ≡ Less)
pubkey_trichotomy a b =
    exactly_one (compare_bytes a.bytes b.bytes) (compare_bytes b.bytes a.bytes)
    (λ h. pubkey_fields (compare_equal a.bytes b.bytes h))
    (λ h. rw h (compare_self b.bytes))
    (compare_flip a.bytes b.bytes)

-- ════ Limiter keys ════

-- the arrays of a limiter key have the lengths that their types say: 33 and 36 bytes
pub record Whole (k : ChannelUpdateLimiterKey) : Type 0 where
  pub peer_length : length k.peer.bytes ≡ 33
  pub outpoint_length : length k.channel_outpoint.bytes ≡ 36

-- a limiter key has 70 row bytes
pub limiter_key_length : {k : ChannelUpdateLimiterKey} → Whole k → length (limiter_key_bytes k) ≡ 70
unfolding limiter_key_bytes
limiter_key_length w = simp length-append (omega arith)

-- the order of limiter keys is the byte order of their 70 row bytes
pub limiter_keys : {a b : ChannelUpdateLimiterKey} → Whole a → Whole b
    → compare_limiter_keys a b ≡ compare_bytes (limiter_key_bytes a) (limiter_key_bytes b)
unfolding compare_limiter_keys limiter_key_bytes
limiter_keys {a} {b} wa wb =
    let by-peer = compare_bytes a.peer.bytes b.peer.bytes in
    let by-outpoint = compare_bytes a.channel_outpoint.bytes b.channel_outpoint.bytes in
    let by_side = compare_sides a.is_node1 b.is_node1 in
    let side : ChannelUpdateLimiterKey → List ℕ = λ k. side_byte k.is_node1 ∷ [] in
    let rest : ChannelUpdateLimiterKey → List ℕ = λ k. k.channel_outpoint.bytes ++ side k in
    sym
    (compare_append a.peer.bytes b.peer.bytes (rest a) (rest b) (omega arith)
    ∙ ap (λ (o : Ordering). by-peer then o)
    (compare_append a.channel_outpoint.bytes b.channel_outpoint.bytes (side a) (side b) (omega arith)
    ∙ ap (λ (o : Ordering). by-outpoint then o) (then_equal by_side)))

-- two sides that compare as equal are equal
sides_equal : (s t : Bool) → compare_sides s t ≡ Equal → s ≡ t
sides_equal false false h = refl
sides_equal false true h = absurd (less_is_not_equal refl h)
sides_equal true false h = absurd (equal_is_not_greater h refl)
sides_equal true true h = refl

then_parts : (p q : Ordering) → p then q ≡ Equal → (p ≡ Equal) × (q ≡ Equal)
then_parts Less q h = absurd (less_is_not_equal refl h)
then_parts Equal q h = (refl, h)
then_parts Greater q h = absurd (equal_is_not_greater h refl)

pub limiter_self : (a : ChannelUpdateLimiterKey) → compare_limiter_keys a a ≡ Equal
unfolding compare_limiter_keys
limiter_self a =
    rw (compare_self a.peer.bytes, compare_self a.channel_outpoint.bytes)
    (numbers_equal {x = side_byte a.is_node1} {y = side_byte a.is_node1} refl)

pub limiter_equal : (a b : ChannelUpdateLimiterKey) → compare_limiter_keys a b ≡ Equal → a ≡ b
unfolding compare_limiter_keys
limiter_equal a b h =
    let by-peer = compare_bytes a.peer.bytes b.peer.bytes in
    let by-outpoint = compare_bytes a.channel_outpoint.bytes b.channel_outpoint.bytes in
    let by_side = compare_sides a.is_node1 b.is_node1 in
    let p = then_parts by-peer (by-outpoint then by_side) h in
    let q = then_parts by-outpoint by_side p.1 in
    limiter_key_fields (compare_equal a.peer.bytes b.peer.bytes p.0)
    (compare_equal a.channel_outpoint.bytes b.channel_outpoint.bytes q.0)
    (sides_equal a.is_node1 b.is_node1 q.1)

-- limiter keys with equal row bytes are equal
pub limiter_key_bytes_injective : {a b : ChannelUpdateLimiterKey} → Whole a → Whole b
    → limiter_key_bytes a ≡ limiter_key_bytes b → a ≡ b
limiter_key_bytes_injective {a} {b} wa wb h =
    limiter_equal a b (limiter_keys wa wb ∙ rw h (compare_self (limiter_key_bytes b)))

pub limiter_irreflexive : (a : ChannelUpdateLimiterKey) → compare_limiter_keys a a ≢ Less
limiter_irreflexive a h = less_is_not_equal h (limiter_self a)

pub limiter_flip : {a b : ChannelUpdateLimiterKey} → Whole a → Whole b → compare_limiter_keys b a ≡ flip (compare_limiter_keys a b)
limiter_flip {a} {b} wa wb =
    rw (limiter_keys wa wb, limiter_keys wb wa) (compare_flip (limiter_key_bytes a) (limiter_key_bytes b))

pub limiter_transitive : {a b c : ChannelUpdateLimiterKey} → Whole a → Whole b → Whole c
    → compare_limiter_keys a b ≡ Less → compare_limiter_keys b c ≡ Less → compare_limiter_keys a c ≡ Less
limiter_transitive {a} {b} {c} wa wb wc h k =
    limiter_keys wa wc
    ∙ transitive (limiter_key_bytes a) (limiter_key_bytes b) (limiter_key_bytes c)
    (sym (limiter_keys wa wb) ∙ h)
    (sym (limiter_keys wb wc) ∙ k)

-- a comes before b, or they are equal, or b comes before a: exactly one of these
pub limiter_trichotomy : {a b : ChannelUpdateLimiterKey} → Whole a → Whole b
    → ExactlyOne (compare_limiter_keys a b ≡ Less) (a ≡ b) (compare_limiter_keys b a ≡ Less)
limiter_trichotomy {a} {b} wa wb =
    exactly_one (compare_limiter_keys a b) (compare_limiter_keys b a)
    (limiter_equal a b)
    (λ h. rw h (limiter_self b))
    (limiter_flip wa wb)

-- ════ At most one outcome ════

pub compare_bytes_outcome : (a b : List ℕ) {r s : Ordering} → r ≡ compare_bytes a b → s ≡ compare_bytes a b → r ≡ s
compare_bytes_outcome a b = one_outcome

pub serialization_len_outcome : {r s : ℕ} → r ≡ 33 → s ≡ 33 → r ≡ s
serialization_len_outcome = one_outcome

pub serialize_outcome : (k : Pubkey) {r s : List ℕ} → r ≡ k.bytes → s ≡ k.bytes → r ≡ s
serialize_outcome k = one_outcome

pub pubkey_compare_outcome : (a b : Pubkey) {r s : Ordering}
    → r ≡ compare_bytes a.bytes b.bytes → s ≡ compare_bytes a.bytes b.bytes → r ≡ s
pubkey_compare_outcome a b = one_outcome

pub outpoint_compare_outcome : (a b : OutPoint) {r s : Ordering}
    → r ≡ compare_bytes a.bytes b.bytes → s ≡ compare_bytes a.bytes b.bytes → r ≡ s
outpoint_compare_outcome a b = one_outcome

pub limiter_key_new_outcome : (p : Pubkey) (o : OutPoint) (side : Bool) {r s : ChannelUpdateLimiterKey}
    → r ≡ limiter_key p o side → s ≡ limiter_key p o side → r ≡ s
limiter_key_new_outcome p o side = one_outcome

pub limiter_key_compare_outcome : (a b : ChannelUpdateLimiterKey) {r s : Ordering}
    → r ≡ compare_limiter_keys a b → s ≡ compare_limiter_keys a b → r ≡ s
limiter_key_compare_outcome a b = one_outcome

pub limiter_key_bytes_outcome : (k : ChannelUpdateLimiterKey) {r s : List ℕ} → r ≡ limiter_key_bytes k → s ≡ limiter_key_bytes k → r ≡ s
limiter_key_bytes_outcome k = one_outcome
