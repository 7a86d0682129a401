-- Laws of `Checksum`: a sum and a memory grow by one byte. Assumes nothing.
use Rattle.std.specs.Prelude.{◌≡◌, refl, List, [], ◌∷◌, ◌++◌, ℕ, ◌+◌, ◌%◌, ◌<◌, length, get_or, take, set}
use Rattle.std.proofs.Common.{sym, ◌∙◌, ap, add-one, take-suc, take-suc-set}
use Rattle.replay.specs.Checksum.{added, all_added, seed_after, made_up}

-- a number added after others
added_last : (sum : ℕ) (ns : List ℕ) (n : ℕ) → all_added sum (ns ++ (n ∷ [])) ≡ added (all_added sum ns) n
unfolding all_added
added_last sum [] n = refl
added_last sum (m ∷ ns) n = added_last (added sum m) ns n

-- a sum of a list's first elements, with one more
pub added_next : (sum all i : ℕ) (s : List ℕ) → i < length s → all ≡ all_added sum (take i s)
    → added all (get_or s i 0) ≡ all_added sum (take (i + 1) s)
added_next sum all i s h e =
    ap (λ (x : ℕ). added x (get_or s i 0)) e
    ∙ sym (added_last sum (take i s) (get_or s i 0))
    ∙ ap (all_added sum) (sym (take-suc s i 0 h) ∙ ap (λ (n : ℕ). take n s) (sym (add-one i)))

-- the seed after one byte more
pub seed_next : (seed i sum : ℕ) → sum ≡ seed_after seed i → added sum 7 ≡ seed_after seed (i + 1)
unfolding seed_after
seed_next seed i sum e = ap (λ (x : ℕ). added x 7) e ∙ ap (seed_after seed) (sym (add-one i))

-- a made-up byte stored after others
pub made_up_next : (seed i sum : ℕ) (s : List ℕ) → i < length s → sum ≡ seed_after seed (i + 1) → take i s ≡ made_up seed i
    → take (i + 1) (set s i (sum % 256)) ≡ made_up seed (i + 1)
unfolding made_up
made_up_next seed i sum s h e k =
    rw (add-one i) (take-suc-set s i (sum % 256) h ∙ rw (k, e, add-one i))
