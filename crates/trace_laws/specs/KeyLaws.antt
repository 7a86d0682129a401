-- The key of an event that a line spells has 33 bytes, whatever the line. Assumes nothing.
use Rattle.std.specs.Prelude.{◌≡◌, refl, true, List, [], ◌∷◌, ℕ, zero, suc, ◌+◌, eqb, length, get_or}
use Rattle.std.proofs.Common.{ap, ltb-true}
use Rattle.std.proofs.Math.Bool.{and-eq-true_iff}
use Rattle.truths.specs.TruthLaws.{chosen}
use Rattle.lent_bytes.specs.LentBytes.{Bytes}
use Rattle.lent_bytes.specs.LentBytesLaws.{length_zeros, Bytes_nil, Bytes_cons, Bytes_zeros}
use Rattle.decimal.specs.Ascii.{code, blank}
use Rattle.peer_laws.specs.SoundLaws.{Key}
use Rattle.trace_lines.specs.declared.event.Event.{Event}
use Rattle.trace_lines.specs.declared.event.EventKind.{EventKind}
use Rattle.trace_lines.specs.declared.event.EventKind.TheVariants as kind
use Rattle.trace_lines.specs.declared.event.KeyField.{KeyField}
use Rattle.trace_lines.specs.Lines.{
  largest64,
  blank_then_number,
  field_of,
  ends_line,
  behind_letter,
  key_place,
  key_size,
  hex_bytes,
  all_spelled,
  no_key,
  key_bytes,
  key_spelled,
  step_of,
  key_of,
  admit_of,
  keyed_of,
  release_of,
  event_of,
}

-- ════ A key that is spelled ════

length_spelled : (line : List ℕ) (at step n : ℕ) → length (hex_bytes line at step n) ≡ n
unfolding hex_bytes
length_spelled line at step zero = refl
length_spelled line at step (suc n) = ap suc (length_spelled line (at + step) step n)

bytes_spelled : (bytes : List ℕ) → all_spelled bytes ≡ true → Bytes bytes
unfolding all_spelled
bytes_spelled [] h = Bytes_nil
bytes_spelled (b ∷ more) h =
    let (first, rest) = (and-eq-true_iff _ _).0 h in
    Bytes_cons b more (ltb-true b 256 first) (bytes_spelled more rest)

key_of_none : Key no_key.bytes
key_of_none = (length_zeros key_size, Bytes_zeros key_size)

-- the key of a field
abbrev FieldKey : KeyField → Type 0
FieldKey field = Key field.key.bytes

key_spelled_lem : (line : List ℕ) (step : ℕ) → FieldKey (key_spelled line step)
unfolding key_spelled
key_spelled_lem line step =
    chosen FieldKey (all_spelled (key_bytes line step))
    (λ h. (length_spelled line key_place step key_size, bytes_spelled (key_bytes line step) h))
    (λ h. key_of_none)

key_of_lem : (line : List ℕ) → FieldKey (key_of line)
unfolding key_of
key_of_lem line = chosen FieldKey (eqb (get_or line behind_letter 0) blank) (λ h. key_spelled_lem line (step_of line)) (λ h. key_of_none)

-- ════ An event's key ════

abbrev pub EventKey : Event → Type 0
EventKey e = Key e.key.bytes

admit_key : (line : List ℕ) → EventKey (admit_of line)
unfolding admit_of
admit_key line =
    chosen EventKey (ends_line line (field_of line (field_of line (key_of line).end largest64) largest64)) (λ h. key_of_lem line) (λ h. key_of_none)

keyed_key : (k : EventKind) (line : List ℕ) → EventKey (keyed_of k line)
unfolding keyed_of
keyed_key k line = chosen EventKey (ends_line line (field_of line (key_of line).end largest64)) (λ h. key_of_lem line) (λ h. key_of_none)

release_key : (line : List ℕ) → EventKey (release_of line)
unfolding release_of
release_key line = chosen EventKey (ends_line line (blank_then_number line behind_letter largest64)) (λ h. key_of_none) (λ h. key_of_none)

pub event_key : (line : List ℕ) → EventKey (event_of line)
unfolding event_of
event_key line =
    let letter : ℕ = get_or line 0 0 in
    chosen EventKey (eqb letter (code "a")) (λ h. admit_key line)
    (λ h.
    chosen EventKey (eqb letter (code "i")) (λ h. keyed_key kind.Invalid line)
    (λ h.
    chosen EventKey (eqb letter (code "b")) (λ h. keyed_key kind.BanQuery line)
    (λ h.
    chosen EventKey (eqb letter (code "d")) (λ h. keyed_key kind.Disconnected line)
    (λ h. chosen EventKey (eqb letter (code "r")) (λ h. release_key line) (λ h. key_of_none)))))
