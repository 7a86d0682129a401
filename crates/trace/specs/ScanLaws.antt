-- Laws of `Scan`, which proofs cite: where a line ends. Nobody needs to believe these: they are proved. Assumes nothing.
use Rattle.std.specs.Prelude.{Bool, true, false, cond, ◌≡◌, refl, List, [], ◌∷◌, ℕ, suc, ◌+◌, ◌-◌, ◌≤◌, ◌<◌, eqb, length, get_or, take, drop}
use Rattle.std.proofs.Common.{sym, ap, ◌∙◌, add-zero, add-one, arith, length-drop, drop_of_length-le}
use Rattle.std.specs.Prelude.{Option, Some, None}
use Prim.{Unit, tt}
use borrow.Author.Tests.{eq-eqb, ne_eqb}
use Rattle.std.proofs.Math.Seq.{drop-cons}
use Rattle.decimal.specs.Ascii.{newline}
use Rattle.trace.specs.Scan.{joined, first_line}
use Rattle.trace.specs.Private.{end_from, line_end_of}

-- ════ One byte of the search ════

end_joined : (b i : ℕ) (o : Option (List ℕ)) → end_from i (joined b o) ≡ end_from (suc i) o
end_joined b i None = refl
end_joined b i (Some line) = let e : i + suc (length line) ≡ suc i + length line = omega arith in ap Some e

module _ (s : List ℕ) (i : ℕ) where
  -- no newline stands here: the line ends where it ends from the next place on
  pub end_further : i < length s → (get_or s i 0 ≡ newline → ⊥) → line_end_of s i ≡ line_end_of s (i + 1)
  unfolding line_end_of first_line
  end_further h other =
      rw (add-one, drop-cons s i 0 h, ne_eqb (get_or s i 0) newline other) (end_joined (get_or s i 0) i (first_line (drop (suc i) s)))

  -- a newline stands here
  pub end_here : i < length s → get_or s i 0 ≡ newline → line_end_of s i ≡ Some i
  unfolding line_end_of first_line
  end_here h is_newline = rw (drop-cons s i 0 h, eq-eqb (get_or s i 0) newline is_newline, add-zero)

  -- nothing stands here
  pub end_missing : length s ≤ i → line_end_of s i ≡ None
  unfolding line_end_of first_line
  end_missing h = rw (drop_of_length-le s h)

-- ════ The line that was found ════

-- a first line is a front of the text, and its newline stands behind it
abbrev pub Front : List ℕ → Option (List ℕ) → Type 0
Front text None = Unit
Front text (Some line) = (line ≡ take (length line) text) × (length line < length text)

pub front : (text : List ℕ) → Front text (first_line text)
unfolding first_line
front [] = tt
front (b ∷ more) = go (eqb b newline) (first_line more) (front more)
  where
    go : (c : Bool) (o : Option (List ℕ)) → Front more o → Front (b ∷ more) (cond c (Some []) (joined b o))
    go true o h = (refl, omega arith)
    go false None h = tt
    go false (Some line) h = (ap (λ (l : List ℕ). b ∷ l) h.0, omega arith)

-- the line between a place and the newline that was found from there on
pub record Found (s : List ℕ) (at end : ℕ) : Type 0 where
  pub first : first_line (drop at s) ≡ Some (take (end - at) (drop at s))
  pub behind : at + length (take (end - at) (drop at s)) ≡ end
  pub forward : at ≤ end
  pub inside : end < length s

pub found : (s : List ℕ) (at end : ℕ) → line_end_of s at ≡ Some end → Found s at end
unfolding line_end_of
found s at end h = go (first_line (drop at s)) refl (front (drop at s)) h
  where
    go : (o : Option (List ℕ)) → first_line (drop at s) ≡ o → Front (drop at s) o → end_from at o ≡ Some end → Found s at end
    go None known f e = absurd (let z : ◌≡◌ {A = ℕ} 0 1 = cc in omega arith)
    go (Some line) known f e =
        let ends : at + length line ≡ end = cc in
        let n : length line ≡ end - at = omega arith in
        let taken : line ≡ take (end - at) (drop at s) = f.0 ∙ ap (λ (k : ℕ). take k (drop at s)) n in
        record {
          first = known ∙ ap Some taken;
          behind = ap (λ (l : List ℕ). at + length l) (sym taken) ∙ ends;
          forward = omega arith;
          inside = omega (arith, length-drop at s, f.1);
        }

-- no newline was found
pub not_found : (s : List ℕ) (at : ℕ) → line_end_of s at ≡ None → first_line (drop at s) ≡ None
unfolding line_end_of
not_found s at h = go (first_line (drop at s)) h
  where
    go : (o : Option (List ℕ)) → end_from at o ≡ None → o ≡ None
    go None e = refl
    go (Some line) e = absurd (let z : ◌≡◌ {A = ℕ} 0 1 = cc in omega arith)
