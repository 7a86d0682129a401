-- A row kept or not, and room made in memory, over plain values. Assumes nothing.
use mathlib.Core.Path.{◌≡◌, refl, sym, ap, ◌∙◌, subst}
use mathlib.Core.Bool.{Bool, true, false}
use mathlib.Core.List.{List, ◌++◌}
use Prim.Native.Nat.{ℕ, ◌+◌, ◌*◌, ◌≤◌, ◌<◌}
use native.Mathlib.Omega.{arith}
use lib.ListN.{length}
use Rattle.lent_bytes.specs.LentBytes.{part, put, Bytes}
use Rattle.table.specs.Memory.{word_bytes, row_bytes, rows}
use Rattle.table.specs.MemoryLaws.{length_rows, key_row_of}
use Rattle.table_laws.specs.ChangeLaws.{unchanged}
use Rattle.table_laws.specs.Walk.{row_at}
use Rattle.table_laws.specs.Private.{Counted, rewritten, RewritingStep}
use Rattle.gossip_settings.specs.declared.channel_update.ChannelUpdateRateLimitConfig.{ChannelUpdateRateLimitConfig}
use Rattle.gossip_limiter_rows.specs.declared.entry.ChannelUpdateLimiterEntry.{ChannelUpdateLimiterEntry}
use Rattle.gossip_limiter_rows.specs.Entry.{refilled, is_full}
use Rattle.gossip_limiter_rows.specs.Rows.{key_width, row_width, Limits, entry_words, limiter_layout}
use Rattle.gossip_limiter_rows.specs.RowsLaws.{limiter_faithful}
use Rattle.gossip_limiter_rows.specs.Prune.{not_full, prune_idle, room_for}
use Rattle.gossip_limiter_rows.specs.PruneLaws.{room_free, room_pruned}

module _ (c : ChannelUpdateRateLimitConfig) (now : ℕ) (s : List ℕ) (from to : ℕ) (found e : ChannelUpdateLimiterEntry) (full : Bool)
    (read : found ≡ (row_at limiter_layout s from).entry) (after : e ≡ refilled c now found) (test : full ≡ is_full c e) where
  same_entry : e ≡ (rewritten limiter_layout (refilled c now) s from).entry
  same_entry = after ∙ ap (refilled c now) read

  tested : is_full c (rewritten limiter_layout (refilled c now) s from).entry ≡ full
  tested = sym (test ∙ ap (is_full c) same_entry)

  -- the row's bytes with the refilled entry
  same_row : part s (row_width * from) key_width ++ word_bytes (entry_words e) ≡ row_bytes limiter_layout (rewritten limiter_layout (refilled c now) s from)
  unfolding row_bytes
  same_row =
      ap (λ (l : List ℕ). l ++ word_bytes (entry_words e)) (sym (key_row_of limiter_faithful s (row_width * from)))
      ∙ ap (λ (x : ChannelUpdateLimiterEntry). (row_at limiter_layout s from).key ++ word_bytes (entry_words x)) same_entry

  -- the bucket is full: the row is not kept
  pub step_full : full ≡ true
      → RewritingStep limiter_layout (not_full c) (refilled c now) s s from to to
  step_full h = rw (tested ∙ h) (refl, refl)

  -- it is not: the row moves down with the refilled entry
  pub step_busy : full ≡ false → (t : List ℕ) → t ≡ put s (row_width * to) (part s (row_width * from) key_width ++ word_bytes (entry_words e))
      → RewritingStep limiter_layout (not_full c) (refilled c now) s t from to (to + 1)
  step_busy h t moved = rw (tested ∙ h) (moved ∙ ap (λ (l : List ℕ). put s (row_width * to) l) same_row, refl)

module _ (limit : ℕ) (c : ChannelUpdateRateLimitConfig) (now : ℕ) (s : List ℕ) (n : ℕ) where
  -- the table is not full
  pub made_free : Bytes s → row_width * n ≤ length s → n < limit → Counted limiter_layout s s n n (room_for limit c now (rows limiter_layout s n))
  made_free b h k =
      let count : length (rows limiter_layout s n) ≡ n = length_rows limiter_layout s n in
      subst (λ (rs : Limits). Counted limiter_layout s s n n rs) (sym (room_free c now limit (rows limiter_layout s n) (omega arith)))
      (unchanged limiter_faithful s s n b h refl, sym count)

  -- it is: the rows were pruned
  pub made_pruned : limit ≤ n → (t : List ℕ) (m : ℕ) → Counted limiter_layout s t n m (prune_idle c now (rows limiter_layout s n))
      → Counted limiter_layout s t n m (room_for limit c now (rows limiter_layout s n))
  made_pruned k t m left =
      let count : length (rows limiter_layout s n) ≡ n = length_rows limiter_layout s n in
      subst (λ (rs : Limits). Counted limiter_layout s t n m rs) (sym (room_pruned c now limit (rows limiter_layout s n) (omega arith))) left
