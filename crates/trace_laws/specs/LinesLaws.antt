-- Laws of an input's lines: they are its first line, and then the lines of what stands behind that; and so at a place of the input.
-- Assumes nothing.
use Rattle.std.specs.Prelude.{◌≡◌, refl, Bool, true, false, cond, List, [], ◌∷◌, ℕ, suc, ◌+◌, ◌≤◌, ◌<◌, eqb, length, drop}
use Rattle.std.proofs.Common.{sym, ap, subst, ◌∙◌, arith, length-drop, drop_of_length-le, drop-drop}
use Rattle.std.specs.Prelude.{Option, Some, None}
use Rattle.decimal.specs.Ascii.{newline}
use Rattle.trace.specs.Scan.{joined, first_line}
use Rattle.trace.specs.ScanLaws.{Front, front}
use Rattle.trace_laws.specs.Trace.{InputLine, whole, unended, before, lines_of}

-- ════ A text ════

-- the lines of a text that is not empty, by its first line
abbrev pub lines_by : List ℕ → Option (List ℕ) → List InputLine
lines_by text None = unended ∷ []
lines_by text (Some line) = whole line ∷ lines_of (drop (suc (length line)) text)

before_joined : (b : ℕ) (more : List ℕ) (first : Option (List ℕ)) → before b (lines_by more first) ≡ lines_by (b ∷ more) (joined b first)
before_joined b more None = refl
before_joined b more (Some line) = refl

pub lines_by_lem : (b : ℕ) (more : List ℕ) → lines_of (b ∷ more) ≡ lines_by (b ∷ more) (first_line (b ∷ more))
unfolding lines_of first_line
lines_by_lem b [] = go (eqb b newline)
  where
    go : (t : Bool) → cond t (whole [] ∷ lines_of []) (before b (lines_of [])) ≡ lines_by (b ∷ []) (cond t (Some []) (joined b (first_line [])))
    go true = refl
    go false = refl
lines_by_lem b (c ∷ more) = go (lines_by_lem c more) (eqb b newline)
  where
    go : lines_of (c ∷ more) ≡ lines_by (c ∷ more) (first_line (c ∷ more)) → (t : Bool)
        → cond t (whole [] ∷ lines_of (c ∷ more)) (before b (lines_of (c ∷ more)))
        ≡ lines_by (b ∷ c ∷ more) (cond t (Some []) (joined b (first_line (c ∷ more))))
    go rest true = refl
    go rest false = ap (before b) rest ∙ before_joined b (c ∷ more) (first_line (c ∷ more))

-- an empty text has no lines
pub lines_none : lines_of [] ≡ []
unfolding lines_of
lines_none = refl

-- a text with no newline is one line that has none
pub lines_unended : (text : List ℕ) → 0 < length text → first_line text ≡ None → lines_of text ≡ unended ∷ []
lines_unended [] h first = absurd (omega arith)
lines_unended (b ∷ more) h first = lines_by_lem b more ∙ ap (lines_by (b ∷ more)) first

first_of_none : first_line [] ≡ None
unfolding first_line
first_of_none = refl

-- a text with a newline is its first line, and then the lines behind that
pub lines_whole : (text line : List ℕ) → first_line text ≡ Some line → lines_of text ≡ whole line ∷ lines_of (drop (suc (length line)) text)
lines_whole [] line first = let same : ◌≡◌ {A = Option (List ℕ)} None (Some line) = sym first_of_none ∙ first in let z : ◌≡◌ {A = ℕ} 0 1 = cc in absurd (omega arith)
lines_whole (b ∷ more) line first = lines_by_lem b more ∙ ap (lines_by (b ∷ more)) first

-- the first line, with its newline, is within the text
pub first_within : (text line : List ℕ) → first_line text ≡ Some line → length line < length text
first_within text line first = (subst (Front text) first (front text)).1

-- ════ A place of an input ════

module _ (input : List ℕ) (at : ℕ) where
  -- at the end there are no lines
  pub lines_at_end : length input ≤ at → lines_of (drop at input) ≡ []
  lines_at_end h = ap lines_of (drop_of_length-le input h) ∙ lines_none

  module _ (h : at < length input) where
    some_left : 0 < length (drop at input)
    some_left = omega (arith, length-drop at input)

    pub lines_at_unended : first_line (drop at input) ≡ None → lines_of (drop at input) ≡ unended ∷ []
    lines_at_unended first = lines_unended (drop at input) some_left first

  module _ (line : List ℕ) (first : first_line (drop at input) ≡ Some line) where
    behind : drop (suc (length line)) (drop at input) ≡ drop (at + length line + 1) input
    behind =
        let e : at + suc (length line) ≡ at + length line + 1 = omega arith in
        drop-drop (suc (length line)) at input ∙ ap (λ n. drop n input) e

    pub lines_at_whole : lines_of (drop at input) ≡ whole line ∷ lines_of (drop (at + length line + 1) input)
    lines_at_whole = lines_whole (drop at input) line first ∙ ap (λ text. whole line ∷ lines_of text) behind

    -- the place behind the line is no further than the end
    pub behind_within : at + length line + 1 ≤ length input
    behind_within = omega (arith, first_within (drop at input) line first, length-drop at input)
