-- The 70 bytes of a limiter key, as they are written one after another into an array of zeros. Assumes nothing.
use Rattle.std.specs.Prelude.{◌≡◌, ℕ, ◌+◌, ◌≤◌, List, [], ◌∷◌, ◌++◌, length, slice_set}
use Rattle.std.proofs.Common.{ap, ◌∙◌, append-nil, append_assoc, arith, length-append, drop_of_length-le}
use Rattle.lent_bytes.specs.LentBytes.{put}
use Rattle.lent_bytes.specs.LentBytesLaws.{put_put_at, put_snoc}

-- bytes written from the first place on, as many as there are places, are all that stands there
put_all : (s b : List ℕ) → length s ≤ length b → put s 0 b ≡ b
unfolding put
put_all s b h =
    let more : length s ≤ 0 + length b = omega arith in
    ap (λ (l : List ℕ). b ++ l) (drop_of_length-le s more) ∙ append-nil b

-- two runs and a byte behind them, written over s, which is as long as all three
pub put_three : (s p o : List ℕ) (a i j : ℕ) → length p ≡ i → length o + i ≡ j → length s ≡ j + 1
    → slice_set (put (put s 0 p) i o) j a ≡ p ++ (o ++ (a ∷ []))
put_three s p o a i j first second all =
    let e : i ≡ 0 + i = omega arith in
    let place : j ≡ 0 + length (p ++ o) = omega (arith, length-append p o) in
    let full : length s ≤ length ((p ++ o) ++ (a ∷ [])) = omega (arith, length-append (p ++ o) (a ∷ []), length-append p o) in
    ap (λ (m : ℕ). slice_set (put (put s 0 p) m o) j a) e
    ∙ ap (λ (l : List ℕ). slice_set l j a) (put_put_at s 0 p o i first (omega arith))
    ∙ ap (λ (m : ℕ). slice_set (put s 0 (p ++ o)) m a) place
    ∙ put_snoc s 0 (p ++ o) a (omega (arith, length-append p o))
    ∙ put_all s ((p ++ o) ++ (a ∷ [])) full ∙ append_assoc p o (a ∷ [])
