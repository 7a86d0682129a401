-- Quoted texts as bytes: a character is its ASCII code. Definitions only.
use Rattle.std.specs.Prelude.{List, [], ◌∷◌, ℕ}
pub use Prim.Native.Char.{code}
use Prim.Native.String.{String, [] as none_left, ◌∷◌ as ◌then◌}

-- the bytes of a text
abbrev pub ascii : String → List ℕ
ascii none_left = []
ascii (c then s) = code c ∷ ascii s

-- what stands between the parts of a line, and what ends it
abbrev pub blank : ℕ
blank = code " "

abbrev pub newline : ℕ
newline = code "\n"
