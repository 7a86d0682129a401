-- Measures by several numbers, the first the most important: one number that is ordered as they are, over any base above those that come
-- later. So `minimum_from` serves an order by (banned, score, last used). Assumes nothing.
use Rattle.std.specs.Prelude.{◌&&◌, ◌||◌, ◌≡◌, ℕ, ◌+◌, ◌*◌, ◌≤◌, ◌<◌, ltb, eqb}
use Rattle.std.proofs.Common.{⊎_elim, sym, ap, ◌∙◌, mul-le-mul_right, add-mul, one-mul, arith, lt-ltb, le-ltb, eq-eqb, ne_eqb}
use Rattle.pubkey.specs.OrderLaws.{numbers_cases}

-- a number of two parts, the first the most important
abbrev pub ranked : ℕ → ℕ → ℕ → ℕ
ranked base a b = a * base + b

module _ (base : ℕ) where
  -- a smaller first part is smaller, whatever the second parts are
  rank_first : (a b c d : ℕ) → b < base → a < c → ranked base a b < ranked base c d
  rank_first a b c d h k =
      let next : a + 1 ≤ c = omega arith in
      omega (arith, mul-le-mul_right base next, add-mul a 1 base, one-mul base)

  module _ (a b c d : ℕ) (h : b < base) (k : d < base) where
    -- the first parts decide, and the second where those are equal
    pub ltb_pair : ltb (ranked base a b) (ranked base c d) ≡ (ltb a c || (eqb a c && ltb b d))
    ltb_pair =
        ⊎_elim
        (λ p. lt-ltb (ranked base a b) (ranked base c d) (rank_first a b c d h p) ∙ rw (lt-ltb a c p))
        (⊎_elim
        (λ p. ltb_equal p)
        (λ p. let q : ranked base c d < ranked base a b = rank_first c d a b k p in
        le-ltb (ranked base a b) (ranked base c d) (omega arith) ∙ rw (le-ltb a c (omega arith), ne_eqb a c (λ e. omega arith))))
        (numbers_cases a c)
      where
        ltb_same : (x y z : ℕ) → ltb (x + y) (x + z) ≡ ltb y z
        ltb_same x y z =
            ⊎_elim (λ p. lt-ltb (x + y) (x + z) (omega arith) ∙ sym (lt-ltb y z p))
            (⊎_elim (λ p. le-ltb (x + y) (x + z) (omega arith) ∙ sym (le-ltb y z (omega arith)))
            (λ p. le-ltb (x + y) (x + z) (omega arith) ∙ sym (le-ltb y z (omega arith))))
            (numbers_cases y z)

        ltb_equal : a ≡ c → ltb (ranked base a b) (ranked base c d) ≡ (ltb a c || (eqb a c && ltb b d))
        ltb_equal e =
            ap (λ (x : ℕ). ltb (x * base + b) (c * base + d)) e ∙ ltb_same (c * base) b d
            ∙ sym (rw (le-ltb a c (omega arith), eq-eqb a c e))
