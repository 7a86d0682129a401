-- Private: cited by contracts inside the proved code alone; no entry point's contract rests on it. Definitions only.
use Rattle.std.specs.Prelude.{◌≡◌, List, ℕ, ◌+◌, length}
use Rattle.lent_bytes.specs.LentBytes.{put}

-- a text was written at a place: what stands there now, and the place behind it
pub record Wrote (before : List ℕ) (at : ℕ) (text : List ℕ) (place : ℕ) (after : List ℕ) : Type 0 where
  pub behind : place ≡ at + length text
  pub leaves : after ≡ put before at text
