-- The exported calls: the answer that meets the call's contract is what the number and what is left say. Definitions only.
use Rattle.std.specs.Prelude.{◌≡◌, List, [], ◌∷◌, ◌++◌, ℕ, Option}
use Rattle.std.specs.Prelude.{Result, Ok, Err}
use Rattle.refusal.specs.declared.Refusal.{Refusal}
use Rattle.refusal.specs.Refusal.{number_of}
use Rattle.std.specs.declared.option.Option.TheVariants as option
use Rattle.refusal.specs.Some.{Some}
use Rattle.peer_rows.specs.Rows.{entry_words}
use Rattle.c_words.specs.Words.{policy_of, Leaves}
use Rattle.c_words.specs.Answers.{made_numbered}
use Rattle.snapshot.specs.Form.{first}
use Rattle.snapshot.specs.Snapshot.{WriteMeets, ReadMeets, part_place}
use Rattle.snapshot_reader.specs.declared.row.RowStep.{RowStep}
use Rattle.snapshot_reader.specs.Reader.{step_at}

-- ════ A policy written and read ════

-- the snapshot's length is left with 261; on a refusal what stood there stays
abbrev pub LengthLeft : Result ℕ Refusal → ℕ → ℕ → ℕ → Type 0
LengthLeft (Ok n) length r length' = (r ≡ 261) × (length' ≡ n)
LengthLeft (Err n) length r length' = (r ≡ number_of n) × (length' ≡ length)

-- uglezmir_snapshot_write: the words and the table are only read
abbrev pub WriteExported : List ℕ → List ℕ → List ℕ → List ℕ → ℕ → ℕ → List ℕ → ℕ → Type 0
WriteExported longs shorts table before length r after length' =
    Some (λ a. WriteMeets (policy_of longs shorts) table before a after) (λ a. LengthLeft a length r length')

-- uglezmir_snapshot_read: 261 for a policy that was read
abbrev pub ReadExported : List ℕ → List ℕ → List ℕ → List ℕ → ℕ → List ℕ → List ℕ → List ℕ → Type 0
ReadExported longs shorts snapshot before r longs' shorts' after =
    Some (λ a. ReadMeets first snapshot before a after) (λ a. Leaves (made_numbered a) longs shorts r longs' shorts')

-- ════ A snapshot asked for its parts ════

-- where the part begins and ends is left with 261; on a refusal what stood there stays
abbrev pub PlaceLeft : Result (ℕ × ℕ) Refusal → List ℕ → ℕ → List ℕ → Type 0
PlaceLeft (Ok (a, e)) place r place' = (r ≡ 261) × (place' ≡ a ∷ e ∷ [])
PlaceLeft (Err n) place r place' = (r ≡ number_of n) × (place' ≡ place)

-- uglezmir_snapshot_place: a kind may be any number
abbrev pub PlaceExported : List ℕ → ℕ → List ℕ → ℕ → List ℕ → Type 0
PlaceExported snapshot kind place r place' = PlaceLeft (part_place first snapshot kind) place r place'

-- the number of a step: 261 for a row, 259 where all were given, else that of the refusal
abbrev pub step_number : Result (Option RowStep) Refusal → ℕ
step_number (Ok (option.Some step)) = 261
step_number (Ok option.None) = 259
step_number (Err n) = number_of n

-- a row's eleven numbers in the row's order, then the next row's place
abbrev pub step_numbers : RowStep → List ℕ
step_numbers step = entry_words step.row.entry ++ (step.at ∷ [])

-- the key of the row, or the one that stood there
abbrev pub key_left : List ℕ → Result (Option RowStep) Refusal → List ℕ
key_left key (Ok (option.Some step)) = step.row.key.bytes
key_left key (Ok option.None) = key
key_left key (Err n) = key

-- the numbers of the step that gives a row, or those that stood there
abbrev pub numbers_left : List ℕ → Result (Option RowStep) Refusal → List ℕ
numbers_left numbers (Ok (option.Some step)) = step_numbers step
numbers_left numbers (Ok option.None) = numbers
numbers_left numbers (Err n) = numbers

-- the row is left if there is one; else what stood there stays
pub record StepLeft (step : Result (Option RowStep) Refusal) (key numbers : List ℕ) (r : ℕ) (key' numbers' : List ℕ) : Type 0 where
  pub number : r ≡ step_number step
  pub left_key : key' ≡ key_left key step
  pub left_numbers : numbers' ≡ numbers_left numbers step

-- uglezmir_snapshot_row
abbrev pub RowExported : List ℕ → ℕ → List ℕ → List ℕ → ℕ → List ℕ → List ℕ → Type 0
RowExported snapshot at key numbers r key' numbers' = StepLeft (step_at snapshot at) key numbers r key' numbers'
