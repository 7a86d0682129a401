-- A row stored under its key among raw rows, over plain lists and numbers: by the key's place, a write over its row or a row put in.
-- Assumes nothing.
use mathlib.Core.Path.{◌≡◌, refl, sym}
use mathlib.Core.List.{List, ◌++◌}
use Prim.Native.Nat.{ℕ, ◌+◌, ◌-◌, ◌*◌, ◌≤◌, ◌<◌}
use native.Mathlib.Nat.{mul-add, mul-le-mul_right, one-mul}
use native.Mathlib.Omega.{arith}
use lib.ListN.{length}
use Rattle.lent_bytes.specs.LentBytes.{part, put, Bytes}
use Rattle.table.specs.declared.seek.Seek.TheVariants.{At, Gap}
use Rattle.table.specs.Table.{Row}
use Rattle.table.specs.Private.{place_from}
use Rattle.table.specs.Memory.{rows}
use Rattle.table.specs.MemoryLaws.{Faithful}
use Rattle.table_laws.specs.Raw.{raw_layout}
use Rattle.table_laws.specs.Private.{RawStored}
use Rattle.table_laws.specs.RawLaws.{RawFits, raw_encode, raw_faithful}
use Rattle.table_laws.specs.ChangeLaws.{overwritten, inserted, place_inside, gap_within, stored_at, stored_gap}

-- a row takes a byte at least, so memory of n rows has n bytes at least
pub rows_below : (w n m : ℕ) → 0 < w → w * n ≤ m → n ≤ m
rows_below w n m wide h =
    let one : 1 ≤ w = omega arith in
    omega (arith, mul-le-mul_right n one, one-mul n)

-- one row more is one width more
pub next_row : (w n : ℕ) → w * (n + 1) ≡ w * n + w
next_row w n = omega (arith, mul-add w n 1)

module _ (s t : List ℕ) (w n : ℕ) (k b : List ℕ) (j : ℕ) (wide : 0 < w) (long : length k + length b ≡ w) (bytes : Bytes s) (entry : Bytes b) (fits : w * n ≤ length s) where
  -- the raw rows of keys as long as this one
  abbrev raw : List (Row (List ℕ))
  raw = rows (raw_layout (length k) w) s n

  ok : Faithful (raw_layout (length k) w) (RawFits (length k) w)
  ok = raw_faithful (length k) w wide (omega arith)

  good : RawFits (length k) w b
  good = record { bytes = entry; size = omega arith }

  -- over the row of the key
  pub stored_over : place_from 0 k raw ≡ At j → t ≡ put s (w * j + length k) b
      → RawStored w s t n n k b
  stored_over h e =
      stored_at ok s t n k j b h
      (overwritten ok s t n bytes fits j b b (place_inside (raw_layout (length k) w) s n k j h) good
      (sym (raw_encode (length k) w b good.size)) e)

  -- into a row put in
  pub stored_into : Bytes k → place_from 0 k raw ≡ Gap j → t ≡ put s (w * j) ((k ++ b) ++ part s (w * j) (w * (n - j)))
      → RawStored w s t n (n + 1) k b
  stored_into key h e =
      stored_gap ok s t n k j b h
      (inserted ok s t n bytes fits j k b b (gap_within (raw_layout (length k) w) s n k j h) refl key good
      (sym (raw_encode (length k) w b good.size)) e)
