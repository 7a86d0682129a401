-- Laws of pruning, which callers' proofs cite: when it happens, which rows are left, and that they fit. Assumes nothing.
use Rattle.std.specs.Prelude.{◌≡◌, List, ℕ, ◌*◌, ◌^◌, ◌≤◌, ◌<◌, leb, length}
use Rattle.std.proofs.Common.{sym, subst, arith, leb-true, leb-false, le-leb}
use Rattle.std.proofs.lemmas.Bool.{lt-leb}
use Rattle.truths.specs.TruthLaws.{by_test}
use Rattle.lent_bytes.specs.LentBytes.{Bytes}
use Rattle.table.specs.Memory.{rows}
use Rattle.table.specs.RetainLaws.{length_retain}
use Rattle.table.specs.MemoryLaws.{AllFit, fit_rows, fit_retain}
use Rattle.table_laws.specs.Raw.{map_entries}
use Rattle.table_laws.specs.RawLaws.{length_map}
use Rattle.table_laws.specs.MapLaws.{fit_map}
use Rattle.gossip_settings.specs.declared.channel_update.ChannelUpdateRateLimitConfig.{ChannelUpdateRateLimitConfig}
use Rattle.gossip_limiter_rows.specs.Entry.{refilled}
use Rattle.gossip_limiter_rows.specs.Rows.{row_width, Limits, limiter_layout}
use Rattle.gossip_limiter_rows.specs.RowsLaws.{EntryFits, limiter_faithful, refilled_fits}
use Rattle.gossip_limiter_rows.specs.Prune.{not_full, prune_idle, room_for}

module _ (c : ChannelUpdateRateLimitConfig) (now : ℕ) where
  -- no row is added
  pub length_prune : (rs : Limits) → length (prune_idle c now rs) ≤ length rs
  length_prune rs = omega (arith, length_retain (not_full c) (map_entries (refilled c now) rs), length_map (refilled c now) rs)

  module _ (limit : ℕ) (rs : Limits) where
    -- below the limit the rows are as they were
    pub room_free : length rs < limit → room_for limit c now rs ≡ rs
    unfolding room_for
    room_free h = rw (lt-leb limit (length rs) h)

    -- at the limit they are pruned
    pub room_pruned : limit ≤ length rs → room_for limit c now rs ≡ prune_idle c now rs
    unfolding room_for
    room_pruned h = rw (le-leb limit (length rs) h)

    -- a fact by the two ways
    pub by_room : (B : Limits → Type 0) → B rs → B (prune_idle c now rs) → B (room_for limit c now rs)
    by_room B free pruned =
        by_test (leb limit (length rs))
        (λ t. subst B (sym (room_pruned (leb-true limit (length rs) t))) pruned)
        (λ t. subst B (sym (room_free (leb-false limit (length rs) t))) free)

    -- no row is added
    pub length_room : length (room_for limit c now rs) ≤ length rs
    length_room = by_room (λ (qs : Limits). length qs ≤ length rs) (omega arith) (length_prune rs)

  module _ (s : List ℕ) (n : ℕ) (small : c.burst < 2 ^ 64) (time : now < 2 ^ 64) (b : Bytes s) (h : row_width * n ≤ length s) where
    -- rows of the memory, refilled, fit
    pub refilled_fit : AllFit limiter_layout EntryFits (map_entries (refilled c now) (rows limiter_layout s n))
    refilled_fit =
        fit_map (refilled c now) limiter_layout EntryFits (refilled_fits c now small time) (rows limiter_layout s n) (fit_rows limiter_faithful s n b h)

    -- and so do those that a new key finds
    pub room_fit : (limit : ℕ) → AllFit limiter_layout EntryFits (room_for limit c now (rows limiter_layout s n))
    room_fit limit =
        by_room limit (rows limiter_layout s n) (AllFit limiter_layout EntryFits) (fit_rows limiter_faithful s n b h)
        (fit_retain limiter_faithful (not_full c) (map_entries (refilled c now) (rows limiter_layout s n)) refilled_fit)
