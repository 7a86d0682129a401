-- What the contracts of `standard` say of an input. Definitions only.
use Rattle.std.specs.Prelude.{◌≡◌, ℕ, ◌≤◌, List, length, take}
use Rattle.std.specs.Prelude.{Option, Some, None}

-- `&xs[..n]` is in bounds and has n bytes. The second part follows from the first, and spares a caller's `&buffer[..n]` a proof file.
abbrev pub IsPrefixLen : ℕ → List ℕ → Type 0
IsPrefixLen n xs = (n ≤ length xs) × (n ≡ length (take n xs))

-- as many bytes as were read stand at the start of the buffer
abbrev pub ReadInto : Option ℕ → List ℕ → Type 0
ReadInto (Some n) buffer = IsPrefixLen n buffer
ReadInto None buffer = Unit {0}
