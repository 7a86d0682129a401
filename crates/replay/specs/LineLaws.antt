-- Laws of `Line`: what is added to a line, and the digits of a number. Assumes nothing.
use Rattle.std.specs.Prelude.{◌≡◌, refl, List, [], ◌∷◌, ◌++◌, ℕ, zero, suc, ◌+◌, ◌*◌, ◌/◌, ◌%◌, ◌^◌, ◌<◌, ◌≤◌, length, get_or, take, set}
use Rattle.std.proofs.Common.{sym, ◌∙◌, ap, append_assoc, append-nil, arith, add-one, length-take, length-append, take_all, take-suc, take-suc-set, length-take-le}
use Rattle.std.proofs.lemmas.List.{take-append-le}
use Rattle.amount_limbs.specs.Limbs as limbs
use Rattle.amount.specs.AmountLaws.{digits_four}
use Rattle.lent_bytes.specs.LentBytes.{put}
use Rattle.lent_bytes.specs.LentBytesLaws.{take_put_end}
use Rattle.replay.specs.declared.line.Line.{Line}
use Rattle.replay.specs.Line.{written, line_size, extended}

-- ════ Adding to a line ════

-- cutting a text before another is added changes nothing of what is kept
take_again : (n : ℕ) (xs ys : List ℕ) → take n (take n xs ++ ys) ≡ take n (xs ++ ys)
take_again zero xs ys = refl
take_again (suc n) [] ys = refl
take_again (suc n) (x ∷ xs) ys = ap (λ (r : List ℕ). x ∷ r) (take_again n xs ys)

-- two texts added one after the other are one
pub extended_twice : (w a b : List ℕ) → extended (extended w a) b ≡ extended w (a ++ b)
unfolding extended
extended_twice w a b = take_again line_size (w ++ a) b ∙ ap (take line_size) (append_assoc w a b)

-- so are three
pub extended_thrice : (w a b c : List ℕ) → extended (extended (extended w a) b) c ≡ extended w (a ++ (b ++ c))
extended_thrice w a b c = extended_twice (extended w a) b c ∙ extended_twice w a (b ++ c)

-- a line with nothing added
pub extended_nil : (w : List ℕ) → length w ≤ line_size → w ≡ extended w []
unfolding extended
extended_nil w h = sym (ap (take line_size) (append-nil w) ∙ take_all line_size w h)

-- no line holds more than it has room for
pub written_short : (l : Line) → length l.bytes ≡ line_size → length (written l) ≤ line_size
unfolding written
written_short l h = omega (arith, length-take l.used l.bytes, h)

-- a full line stays as it is
pub byte_full : (xs : List ℕ) (used b : ℕ) → length xs ≡ line_size → line_size ≤ used → take used xs ≡ extended (take used xs) (b ∷ [])
unfolding extended
byte_full xs used b h k =
    rw (take_all used xs (omega arith)) (sym (take-append-le line_size xs (b ∷ []) (omega arith) ∙ take_all line_size xs (omega arith)))

-- a byte stored after what stands there is a byte added
pub byte_added : (xs : List ℕ) (used b : ℕ) → length xs ≡ line_size → used < line_size → take (used + 1) (set xs used b) ≡ extended (take used xs) (b ∷ [])
unfolding extended
byte_added xs used b h k =
    ap (λ (n : ℕ). take n (set xs used b)) (add-one used)
    ∙ take-suc-set xs used b (omega arith)
    ∙ sym (take_all line_size (take used xs ++ (b ∷ [])) (omega (arith, length-append (take used xs) (b ∷ []), length-take-le used xs (omega arith))))

-- a text is added byte by byte
pub text_step : (w s : List ℕ) (i : ℕ) → i < length s → extended (extended w (take i s)) (get_or s i 0 ∷ []) ≡ extended w (take (i + 1) s)
text_step w s i h =
    extended_twice w (take i s) (get_or s i 0 ∷ [])
    ∙ ap (extended w) (sym (take-suc s i 0 h) ∙ ap (λ (n : ℕ). take n s) (sym (add-one i)))

-- ════ The digits of a number ════

-- digits that were written at the beginning are what stands there
pub digits_written : (s ds last : List ℕ) (end : ℕ) → end ≡ 0 + length ds → last ≡ put s 0 ds → take end last ≡ ds
digits_written s ds last end e l = rw (e, l) (take_put_end s 0 ds (omega arith))

-- the halves of four limbs
pub halves : (xs : List ℕ) → length xs ≡ 4 → get_or xs 0 0 < 2 ^ 32 → get_or xs 1 0 < 2 ^ 32
    → (get_or xs 0 0 + 4294967296 * get_or xs 1 0 ≡ limbs.digits xs % 2 ^ 64) × (get_or xs 2 0 + 4294967296 * get_or xs 3 0 ≡ limbs.digits xs / 2 ^ 64)
halves xs h l k = (omega (arith, digits_four xs h), omega (arith, digits_four xs h))
