-- Rows whose entries are rewritten under the same keys, for any layout, rule and rewriting: what rewriting keeps of each row, it keeps of
-- them all; and a row moved down in memory with another entry. Assumes nothing.
use Rattle.std.specs.Prelude.{◌≡◌, Bool, true, ℕ, ◌+◌, ◌-◌, ◌*◌, ◌≤◌, length}
use Rattle.std.proofs.Common.{sym, ap, ◌∙◌, arith}
use mathlib.Core.List.{List, [], ◌∷◌, ◌++◌}
use Rattle.lent_bytes.specs.LentBytes.{part, put}
use Rattle.lent_bytes.specs.LentBytesLaws.{length_part, length_put, part_append, put_put, put_over}
use Rattle.table.specs.Table.{Row, every}
use Rattle.table.specs.Memory.{Layout}
use Rattle.table.specs.TableLaws.{every_parts, every_cons}
use Rattle.table.specs.MemoryLaws.{AllFit}
use Rattle.table_laws.specs.Raw.{map_row, map_entries}
use Rattle.table_laws.specs.RawLaws.{length_map, ascending_map}
use Rattle.table_laws.specs.WalkLaws.{row_in}
use Rattle.table_laws.specs.Kept.{Keyed, RowsHold}

module _ {A : Type 0} (f : A → A) where
  -- rows fit where each rewritten entry is one that a row can hold
  pub fit_map : (L : Layout A) (Good : A → Type 0) → ((e : A) → Good e → Good (f e)) → (rs : List (Row A)) → AllFit L Good rs
      → AllFit L Good (map_entries f rs)
  unfolding map_entries
  fit_map L Good good [] fit = tt
  fit_map L Good good (r ∷ rs) fit = (
    record {
      key_length = fit.0.key_length;
      key_bytes_lem = fit.0.key_bytes_lem;
      entry_good = good r.entry fit.0.entry_good;
    },
    fit_map L Good good rs fit.1,
  )

  -- the keys stay
  pub keyed_map : (L : Layout A) (rs : List (Row A)) → Keyed L rs → Keyed L (map_entries f rs)
  unfolding map_entries
  keyed_map L [] keys = tt
  keyed_map L (r ∷ rs) keys = (keys.0, keyed_map L rs keys.1)

  module _ (rule : Row A → Bool) (kept : (r : Row A) → rule r ≡ true → rule (map_row f r) ≡ true) where
    -- a rule is kept by all rows where rewriting keeps it
    pub every_map : (rs : List (Row A)) → every rule rs ≡ true → every rule (map_entries f rs) ≡ true
    unfolding map_entries
    every_map [] h = h
    every_map (r ∷ rs) h =
        let parts = every_parts rule r rs h in
        every_cons rule (map_row f r) (map_entries f rs) (kept r parts.0) (every_map rs parts.1)

    -- rows that may stand in a table may stand there rewritten
    pub map_hold : (L : Layout A) (limit : ℕ) (rs : List (Row A)) → RowsHold L rule limit rs → RowsHold L rule limit (map_entries f rs)
    map_hold L limit rs h =
        record {
          few = omega (arith, length_map f rs, h.few);
          rules = every_map rs h.rules;
          order = ascending_map f rs ∙ h.order;
          keyed = keyed_map L rs h.keyed;
        }

-- of bytes that were written the last are written over
put_tail : (s : List ℕ) (at : ℕ) (a b c : List ℕ) → length b ≤ length c → at + length a ≤ length s
    → put (put s at (a ++ b)) (at + length a) c ≡ put s at (a ++ c)
put_tail s at a b c h k =
    ap (λ (x : List ℕ). put x (at + length a) c) (sym (put_put s at a b (omega arith)))
    ∙ put_over (put s at a) (at + length a) b c h (omega (arith, length_put s at a k)) ∙ put_put s at a c (omega arith)

-- a row of w bytes moves down, and other bytes are written behind its key of k bytes: one write of that key and those bytes
pub moved_with : (w k from to : ℕ) (s t u b : List ℕ) → k ≤ w → to ≤ from → w * (from + 1) ≤ length s → length b ≡ w - k
    → t ≡ put s (w * to) (part s (w * from) w) → u ≡ put t (w * to + k) b → u ≡ put s (w * to) (part s (w * from) k ++ b)
moved_with w k from to s t u b narrow down inside size moved written =
    let high : w * from + w ≤ length s = row_in w from (from + 1) (length s) (omega arith) inside in
    let low : w * to + w ≤ length s = row_in w to (from + 1) (length s) (omega arith) inside in
    let key : List ℕ = part s (w * from) k in
    let rest : List ℕ = part s (w * from + k) (w - k) in
    let long : length key ≡ k = length_part s (w * from) k (omega arith) in
    let behind : length rest ≡ w - k = length_part s (w * from + k) (w - k) (omega arith) in
    let whole : w ≡ k + (w - k) = omega arith in
    let row : part s (w * from) w ≡ key ++ rest = ap (λ (m : ℕ). part s (w * from) m) whole ∙ part_append s (w * from) k (w - k) in
    written ∙ ap (λ (x : List ℕ). put x (w * to + k) b) (moved ∙ ap (λ (l : List ℕ). put s (w * to) l) row)
    ∙ ap (λ (m : ℕ). put (put s (w * to) (key ++ rest)) (w * to + m) b) (sym long)
    ∙ put_tail s (w * to) key rest b (omega arith) (omega arith)
