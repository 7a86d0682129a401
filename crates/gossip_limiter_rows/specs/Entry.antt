-- ChannelUpdateLimiterEntry of gossip_policy.rs, and its bucket under the limiter's settings. Definitions only.
use Rattle.std.specs.Prelude.{Bool, true, false, ℕ}
use Rattle.std.specs.Prelude.{Result, Ok, Err}
use Rattle.bucket_terms.specs.declared.answer.NotGiven.{NotGiven}
use Rattle.bucket_terms.specs.Answers.{told}
use Rattle.bucket_discrete.specs.declared.discrete.DiscreteTokenBucket.{DiscreteTokenBucket}
use Rattle.bucket_discrete.specs.DiscreteBucket.{discrete_refill, discrete_try_consume, discrete_is_full}
use Rattle.gossip_settings.specs.declared.channel_update.ChannelUpdateRateLimitConfig.{ChannelUpdateRateLimitConfig}
use Rattle.gossip_limiter_rows.specs.declared.entry.ChannelUpdateLimiterEntry.{ChannelUpdateLimiterEntry}
use Rattle.gossip_limiter_rows.specs.declared.entry.Asked.{Asked}

-- an entry by its numbers: the tokens that are there, the last refill, the last use
abbrev pub limiter_entry : ℕ → ℕ → ℕ → ChannelUpdateLimiterEntry
limiter_entry available refill used = record { available = available; last_refill_ms = refill; last_used_ms = used }

-- the entry's bucket: its settings are those of the limiter
abbrev pub bucket_of : ChannelUpdateRateLimitConfig → ChannelUpdateLimiterEntry → DiscreteTokenBucket
bucket_of c e =
    record {
      interval_ms = c.interval_ms;
      capacity = c.burst;
      available = e.available;
      last_refill_ms = e.last_refill_ms;
    }

-- the entry of a bucket that was last used at a time
abbrev pub entry_of : DiscreteTokenBucket → ℕ → ChannelUpdateLimiterEntry
entry_of b used = limiter_entry b.available b.last_refill_ms used

-- the entry with its bucket refilled; last used as it was
unfoldable pub refilled : ChannelUpdateRateLimitConfig → ℕ → ChannelUpdateLimiterEntry → ChannelUpdateLimiterEntry
refilled c now e = entry_of (discrete_refill (bucket_of c e) now) e.last_used_ms

-- whether the entry's bucket is full
abbrev pub is_full : ChannelUpdateRateLimitConfig → ChannelUpdateLimiterEntry → Bool
is_full c e = discrete_is_full (bucket_of c e)

-- whether a token was there
abbrev pub is_yes : Result (Unit {0}) NotGiven → Bool
is_yes (Ok tt) = true
is_yes (Err (NotGiven.Short short)) = false
is_yes (Err (NotGiven.Refused n)) = false

-- a bucket asked for a token now: the entry that it leaves, and whether there was one
unfoldable pub asked_of : DiscreteTokenBucket → ℕ → Asked
asked_of b now =
    record {
      entry = entry_of (discrete_try_consume b now).state now;
      answer = told (is_yes (discrete_try_consume b now).answer);
    }
