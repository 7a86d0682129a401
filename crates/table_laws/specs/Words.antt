-- Entries that are numbers: how such an entry stands behind its key, eight bytes a number. A table of such entries has its layout in a
-- line, and that the layout is faithful in another (`words_faithful` of `WordsLaws`). Definitions only.
use Rattle.std.specs.Prelude.{List, [], ◌∷◌, ℕ, ◌^◌, ◌<◌}
use Rattle.table.specs.Memory.{Layout, word_bytes, words}

-- an entry as numbers: how many, which, and the entry that they make
pub record Numbers (A : Type 0) : Type 0 where
  pub count : ℕ
  pub words_of : A → List ℕ
  pub of_words : List ℕ → A

-- a key of k bytes, and behind it the numbers of an entry: w bytes in all
abbrev pub word_layout : {A : Type 0} → ℕ → ℕ → Numbers A → Layout A
word_layout k w N =
    record {
      key_width = k;
      width = w;
      encode = λ e. word_bytes (N.words_of e);
      decode = λ s. N.of_words (words 0 N.count s);
    }

-- each of some numbers fits eight bytes
abbrev pub EachFits : List ℕ → Type 0
EachFits [] = Unit {0}
EachFits (v ∷ vs) = (v < 2 ^ 64) × EachFits vs

-- an entry's numbers fit eight bytes each: those of any entry that a program holds do
abbrev pub NumbersFit : {A : Type 0} → Numbers A → A → Type 0
NumbersFit N e = EachFits (N.words_of e)
