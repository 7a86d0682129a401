-- At most one outcome satisfies the contract of each call on the channel update limiter: the same answer, and the same memory where memory
-- is lent. Assumes nothing.
use Rattle.std.specs.Prelude.{◌≡◌, List, ℕ, Result}
use Rattle.refusal.specs.declared.Refusal.{Refusal}
use Rattle.pubkey.specs.declared.ChannelUpdateLimiterKey.{ChannelUpdateLimiterKey}
use Rattle.refusal.specs.OneOutcomeLaws.{one_outcome}
use Rattle.table.specs.OutcomeLaws.{one_meets}
use Rattle.gossip_settings.specs.declared.channel_update.ChannelUpdateRateLimitConfig.{ChannelUpdateRateLimitConfig}
use Rattle.gossip_limiter.specs.declared.limiter.ChannelUpdateLimiter.{ChannelUpdateLimiter}
use Rattle.gossip_limiter.specs.Handed.{LimiterTold}
use Rattle.gossip_limiter.specs.Calls.{MadeMeets, TryAcquireMeets, TrackedKeysMeets}

module _ (before : List ℕ) {first second : List ℕ} where
  -- the makers of a limiter share one contract
  pub limiter_made_one : (c : ChannelUpdateRateLimitConfig) (limit : ℕ) {r q : Result ChannelUpdateLimiter Refusal} → MadeMeets c limit before r first
      → MadeMeets c limit before q second → (r ≡ q) × (first ≡ second)
  unfolding MadeMeets
  limiter_made_one c limit m n = one_meets m n

  pub try_acquire_one : (l : ChannelUpdateLimiter) (k : ChannelUpdateLimiterKey) (now : ℕ) {r q : LimiterTold} → TryAcquireMeets l before k now r first
      → TryAcquireMeets l before k now q second → (r ≡ q) × (first ≡ second)
  unfolding TryAcquireMeets
  try_acquire_one l k now m n = one_meets m n

pub tracked_keys_one : (l : ChannelUpdateLimiter) {r q : Result ℕ Refusal} → TrackedKeysMeets l r → TrackedKeysMeets l q → r ≡ q
unfolding TrackedKeysMeets
tracked_keys_one l m n = one_outcome m n
