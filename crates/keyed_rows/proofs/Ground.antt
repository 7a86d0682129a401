-- The ground of a walk over raw rows whose keys are as long as the key sought. Assumes nothing.
use Rattle.std.proofs.Common.{◌≤◌, ◌*◌, ℕ, List, length, refl}
use Rattle.lent_bytes.specs.LentBytes.{Bytes}
use Rattle.table_laws.specs.Raw.{raw_layout}
use Rattle.table_laws.specs.Walk.{Walkable}

pub ground : (w n : ℕ) (s k : List ℕ) → (8 ≤ length k) × (length k ≤ w) → w * n ≤ length s → Bytes s → Bytes k
    → Walkable (raw_layout (length k) w) 8 s n k
ground w n s k wide fits memory key =
    record {
      key_fits = wide.1;
      front_fits = wide.0;
      rows_fit = fits;
      memory_bytes = memory;
      key_bytes_lem = key;
      key_length = refl;
    }
