-- Hex digits by the ranges that a `match` tells, and one turn of the loop that reads a key's bytes. Assumes nothing.
use Rattle.std.specs.Prelude.{Some, None}
use mathlib.Core.Bool.{true, false}
use mathlib.Core.Path.{◌≡◌, refl, sym, ap, ◌∙◌}
use mathlib.Core.List.{List, ◌∷◌}
use Prim.Native.Nat.{ℕ, zero, suc, ◌+◌, ◌-◌, ◌*◌, ◌≤◌, ◌<◌}
use native.Mathlib.Omega.{arith}
use borrow.Author.Tests.{le-leb, lt-leb, lt-ltb, le-ltb}
use lib.ListN.{length, set, replicate, length-replicate}
use Rattle.lent_bytes.specs.LentBytes.{put}
use Rattle.lent_bytes.specs.LentBytesLaws.{put_nil}
use Rattle.decimal.specs.Ascii.{code}
use Rattle.decimal.specs.DecimalLaws.{is_digit_lem, below_digits, above_digits}
use Rattle.trace_lines.specs.Lines.{key_place, behind_pair, key_size, hex_digit, hex_byte, hex_bytes, all_spelled, key_bytes, key_spelled, key_field, no_key}
use Rattle.trace_lines.proofs.Written.{put_head, put_all}

-- ════ A digit ════

module _ (b : ℕ) where
  pub hex_decimal : code "0" ≤ b → b ≤ code "9" → hex_digit b ≡ b - code "0"
  hex_decimal low high = rw (is_digit_lem b low high)

  pub hex_letter : code "a" ≤ b → b ≤ code "f" → hex_digit b ≡ (b - code "a") + 10
  hex_letter low high =
      let q : code "9" < b = omega arith in
      rw (above_digits b q, le-leb (code "a") b low, le-leb b (code "f") high)

  pub hex_below : b < code "0" → hex_digit b ≡ 16
  hex_below h = let p : b < code "a" = omega arith in rw (below_digits b h, lt-leb (code "a") b p)

  pub hex_between : code "9" < b → b < code "a" → hex_digit b ≡ 16
  hex_between low high = rw (above_digits b low, lt-leb (code "a") b high)

  pub hex_above : code "f" < b → hex_digit b ≡ 16
  hex_above h =
      let q : code "9" < b = omega arith in
      let r : code "a" ≤ b = omega arith in
      rw (above_digits b q, le-leb (code "a") b r, lt-leb b (code "f") h)

-- ════ A key's bytes ════

module _ (line : List ℕ) (step : ℕ) where
  -- the bytes from the i-th on
  abbrev pub rest : ℕ → List ℕ
  rest i = hex_bytes line (key_place + step * i) step (key_size - i)

  pub rest_all : rest 0 ≡ key_bytes line step
  rest_all = let e : key_place + step * 0 ≡ key_place = omega arith in rw e

  pub rest_turn : (i : ℕ) → i < key_size → rest i ≡ hex_byte line (key_place + step * i) ∷ rest (i + 1)
  unfolding hex_bytes
  rest_turn i h =
      let e : key_size - i ≡ suc (key_size - (i + 1)) = omega arith in
      let f : key_place + step * i + step ≡ key_place + step * (i + 1) = omega arith in
      rw (e, f)

  pub spelled_turn : (i : ℕ) → i < key_size → hex_byte line (key_place + step * i) < 256 → all_spelled (rest i) ≡ all_spelled (rest (i + 1))
  unfolding all_spelled
  spelled_turn i h small = rw (rest_turn i h, lt-ltb (hex_byte line (key_place + step * i)) 256 small)

  pub spelled_stop : (i : ℕ) → i < key_size → 256 ≤ hex_byte line (key_place + step * i) → all_spelled (rest i) ≡ false
  unfolding all_spelled
  spelled_stop i h large = rw (rest_turn i h, le-ltb (hex_byte line (key_place + step * i)) 256 large)

  pub spelled_end : all_spelled (rest key_size) ≡ true
  unfolding all_spelled hex_bytes
  spelled_end = refl

  length_hex : (at n : ℕ) → length (hex_bytes line at step n) ≡ n
  unfolding hex_bytes
  length_hex at zero = refl
  length_hex at (suc n) = ap suc (length_hex (at + step) n)

  pub written_start : put (replicate key_size 0) 0 (rest 0) ≡ key_bytes line step
  written_start =
      ap (λ (l : List ℕ). put (replicate key_size 0) 0 l) rest_all
      ∙ put_all (replicate key_size 0) (key_bytes line step) (length-replicate {A = ℕ} key_size 0 ∙ sym (length_hex key_place key_size))

  pub written_turn : (bytes : List ℕ) (i : ℕ) → length bytes ≡ key_size → i < key_size
      → put bytes i (rest i) ≡ put (set bytes i (hex_byte line (key_place + step * i))) (i + 1) (rest (i + 1))
  written_turn bytes i l h =
      ap (λ (x : List ℕ). put bytes i x) (rest_turn i h)
      ∙ put_head bytes i (hex_byte line (key_place + step * i)) (rest (i + 1)) (omega arith)

  pub written_end : (bytes : List ℕ) → put bytes key_size (rest key_size) ≡ bytes
  unfolding hex_bytes
  written_end bytes = put_nil bytes key_size

  pub key_bad : all_spelled (key_bytes line step) ≡ false → key_spelled line step ≡ record { key = no_key; end = None }
  unfolding key_spelled
  key_bad h = rw h

  pub key_good : (bytes : List ℕ) → all_spelled (key_bytes line step) ≡ true → bytes ≡ key_bytes line step
      → key_spelled line step ≡ key_field bytes (Some (0, behind_pair + (key_size - 1) * step))
  unfolding key_spelled
  key_good bytes h e = rw (h, e)
