-- What a call says, and the numbers of the refusals. Definitions only.
use Rattle.std.specs.Prelude.{List, ℕ, codes}
use Rattle.refusal.specs.declared.Refusal.{Refusal}
use Rattle.refusal.specs.declared.Refusal.TheVariants as Refusal

-- what an answer says: the values that it gives, or the number of its refusal
pub data Said : Type 0 where
  gives : List ℕ → Said
  refused : ℕ → Said

-- the lent table is shorter than its limit, or the output shorter than what is written
abbrev pub too_short : ℕ
too_short = 1

-- a table's limit is above 1,024 rows
abbrev pub limit_too_large : ℕ
limit_too_large = 2

-- the lent state is unsound
abbrev pub unsound : ℕ
unsound = 3

-- the message would be admitted, and the numbers in flight have no room for it
abbrev pub overflow : ℕ
overflow = 4

-- the outbound table has no row left
abbrev pub no_row : ℕ
no_row = 5

-- the snapshot's layout is wrong, or it has no such kind
abbrev pub wrong_layout : ℕ
wrong_layout = 6

-- the number of a refusal
abbrev pub number_of : Refusal → ℕ
number_of Refusal.TooShort = too_short
number_of Refusal.LimitTooLarge = limit_too_large
number_of Refusal.Unsound = unsound
number_of Refusal.Overflow = overflow
number_of Refusal.NoRow = no_row
number_of Refusal.WrongLayout = wrong_layout

-- what a refusal is shown as: its number, and what is wrong
abbrev pub text_of : Refusal → List ℕ
text_of Refusal.TooShort = codes "refusal 1: a table or an output is too short"
text_of Refusal.LimitTooLarge = codes "refusal 2: a limit above 1,024 rows"
text_of Refusal.Unsound = codes "refusal 3: an unsound state"
text_of Refusal.Overflow = codes "refusal 4: no room in the numbers of the load in flight"
text_of Refusal.NoRow = codes "refusal 5: no outbound row left: 1,024 peers have one"
text_of Refusal.WrongLayout = codes "refusal 6: a snapshot whose layout is wrong"
