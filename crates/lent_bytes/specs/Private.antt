-- Private: cited by contracts inside the proved code alone; no entry point's contract rests on it. Definitions only.
use Rattle.std.specs.Prelude.{List, ℕ, zero, suc, ◌+◌, ◌*◌, get_or}

-- the n bytes at a place as one number, the first the highest: such numbers are ordered as the lists that have these bytes there
unfoldable pub front : ℕ → List ℕ → ℕ → ℕ
front zero s at = 0
front (suc n) s at = 256 * front n s at + get_or s (at + n) 0
