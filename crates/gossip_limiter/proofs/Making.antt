-- A limiter made: its ways out. Over plain values. Assumes nothing.
use Rattle.std.specs.Prelude.{Ok, Err}
use Rattle.refusal.specs.declared.Refusal.TheVariants as Refusal
use mathlib.Core.Path.{◌≡◌, refl, ◌∙◌}
use mathlib.Core.List.{List, []}
use Prim.Native.Nat.{ℕ, ◌*◌, ◌/◌, ◌≤◌, ◌<◌}
use native.Mathlib.Omega.{arith}
use borrow.Author.Tests.{lt-ltb, le-ltb}
use lib.ListN.{length}
use Rattle.lent_bytes.specs.LentBytes.{put, zeros}
use Rattle.table.specs.MemoryLaws.{holds, put_clear}
use Rattle.table_laws.specs.LentLaws.{long_enough_lem, too_short_lem}
use Rattle.gossip_settings.specs.declared.channel_update.ChannelUpdateRateLimitConfig.{ChannelUpdateRateLimitConfig}
use Rattle.gossip_limiter_rows.specs.Rows.{limiter_layout}
use Rattle.gossip_limiter_rows.specs.RowsLaws.{limiter_faithful}
use Rattle.gossip_limiter.specs.Limiter.{limit_of}
use Rattle.gossip_limiter.specs.Calls.{fresh, made_outcome, MadeMeets}

module _ (c : ChannelUpdateRateLimitConfig) (limit : ℕ) (s : List ℕ) where
  pub made_large : 1024 < limit → MadeMeets c limit s (Err Refusal.LimitTooLarge) s
  unfolding MadeMeets made_outcome
  made_large h = rw (lt-ltb 1024 limit h) (record { answers = refl; leaves = refl })

  module _ (h : limit ≤ 1024) where
    pub made_short : length s / 94 < limit_of limit → MadeMeets c limit s (Err Refusal.TooShort) s
    unfolding MadeMeets made_outcome
    made_short l =
        rw (le-ltb 1024 limit h, too_short_lem limiter_layout (limit_of limit) s (omega arith) l) (record { answers = refl; leaves = refl })

    pub made_fresh : limit_of limit ≤ length s / 94 → (t : List ℕ) → t ≡ put s 0 (zeros (94 * limit_of limit)) → MadeMeets c limit s (Ok (fresh c limit)) t
    unfolding MadeMeets made_outcome
    made_fresh l t e =
        rw (le-ltb 1024 limit h, long_enough_lem limiter_layout (limit_of limit) s (omega arith) l)
        (record {
          answers = refl;
          leaves = holds limiter_faithful s t (limit_of limit) [] tt (e ∙ put_clear limiter_faithful s (limit_of limit));
        })
