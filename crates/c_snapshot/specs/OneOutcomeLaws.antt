-- At most one outcome satisfies the contract of each exported call: the same number, the same words, and the same memory where memory is
-- lent. Assumes nothing.
use Rattle.std.specs.Prelude.{◌≡◌, List, ℕ}
use Rattle.std.specs.Prelude.{Result, Ok, Err}
use Rattle.refusal.specs.declared.Refusal.{Refusal}
use Rattle.refusal.specs.OneOutcomeLaws.{one_outcome}
use Rattle.c_terms.specs.SomeLaws.{some_one}
use Rattle.c_words.specs.Words.{policy_of}
use Rattle.c_words.specs.Answers.{made_numbered}
use Rattle.c_words.specs.LeavesLaws.{Alike, leaves_one}
use Rattle.snapshot.specs.Form.{first}
use Rattle.snapshot.specs.Snapshot.{part_place}
use Rattle.snapshot.specs.ReadLaws as Read
use Rattle.snapshot.specs.WriteLaws as Write
use Rattle.c_snapshot.specs.Exported.{LengthLeft, WriteExported, ReadExported, PlaceLeft, PlaceExported, RowExported}

-- ════ A policy written and read ════

length_left : (a : Result ℕ Refusal) (length : ℕ) {r q first second : ℕ} → LengthLeft a length r first → LengthLeft a length q second
    → (r ≡ q) × (first ≡ second)
length_left (Ok n) length h k = (one_outcome h.0 k.0, one_outcome h.1 k.1)
length_left (Err n) length h k = (one_outcome h.0 k.0, one_outcome h.1 k.1)

module _ (longs shorts : List ℕ) {r q : ℕ} where
  pub write_one : (table before : List ℕ) (length : ℕ) {first second : List ℕ} {length' length'' : ℕ}
      → WriteExported longs shorts table before length r first length' → WriteExported longs shorts table before length q second length''
      → ((r ≡ q) × (length' ≡ length'')) × (first ≡ second)
  write_one table before length {first} {second} =
      some_one (λ a b. Write.write_one (policy_of longs shorts) table before {r = a} {q = b} {x = first} {y = second}) (λ a. length_left a length)

  pub read_one : (snapshot before : List ℕ) {longs' longs'' shorts' shorts'' first second : List ℕ}
      → ReadExported longs shorts snapshot before r longs' shorts' first → ReadExported longs shorts snapshot before q longs'' shorts'' second
      → Alike r q longs' longs'' shorts' shorts'' × (first ≡ second)
  read_one snapshot before {first = one} {second = other} =
      some_one (λ a b. Read.read_one first snapshot before {r = a} {q = b} {x = one} {y = other}) (λ a. leaves_one (made_numbered a) longs shorts)

-- ════ A snapshot asked for its parts ════

place_left : (a : Result (ℕ × ℕ) Refusal) (place : List ℕ) {r q : ℕ} {first second : List ℕ} → PlaceLeft a place r first → PlaceLeft a place q second
    → (r ≡ q) × (first ≡ second)
place_left (Ok (a, e)) place h k = (one_outcome h.0 k.0, one_outcome h.1 k.1)
place_left (Err n) place h k = (one_outcome h.0 k.0, one_outcome h.1 k.1)

module _ (snapshot : List ℕ) {r q : ℕ} where
  pub place_one : (kind : ℕ) (place : List ℕ) {first second : List ℕ} → PlaceExported snapshot kind place r first
      → PlaceExported snapshot kind place q second → (r ≡ q) × (first ≡ second)
  place_one kind place = place_left (part_place first snapshot kind) place

  pub row_one : (at : ℕ) (key numbers : List ℕ) {key' key'' numbers' numbers'' : List ℕ} → RowExported snapshot at key numbers r key' numbers'
      → RowExported snapshot at key numbers q key'' numbers'' → (r ≡ q) × (key' ≡ key'') × (numbers' ≡ numbers'')
  row_one at key numbers h k =
      (one_outcome h.number k.number, one_outcome h.left_key k.left_key, one_outcome h.left_numbers k.left_numbers)
