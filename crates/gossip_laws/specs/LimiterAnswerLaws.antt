-- A key that gets a fresh bucket is let in: where the limit is on a burst is at least one token. Assumes nothing.
use Rattle.std.specs.Prelude.{false, ◌||◌, ◌≡◌, List, ℕ, ◌+◌, ◌-◌, ◌/◌, ◌%◌, ◌<◌, min, leb, eqb, length, Result, Ok, Bool, true}
use Rattle.std.proofs.Common.{ap, ◌∙◌, arith}
use Rattle.std.proofs.Math.Option.{none}
use Rattle.refusal.specs.declared.Refusal.{Refusal}
use Rattle.truths.specs.TruthLaws.{by_test, neither}
use Rattle.table.specs.Table.{look}
use Rattle.table.specs.Outcome.{Outcome}
use Rattle.bucket_discrete.specs.DiscreteBucket.{discrete_new, discrete_refill, discrete_take, discrete_try_consume}
use Rattle.gossip_settings.specs.declared.channel_update.ChannelUpdateRateLimitConfig.{ChannelUpdateRateLimitConfig}
use Rattle.gossip_settings.specs.Settings.{channel_update_disabled}
use Rattle.gossip_limiter_rows.specs.declared.entry.ChannelUpdateLimiterEntry.{ChannelUpdateLimiterEntry}
use Rattle.gossip_limiter_rows.specs.Entry.{asked_of}
use Rattle.gossip_limiter_rows.specs.Rows.{Limits}
use Rattle.gossip_limiter_rows.specs.Prune.{room_for}
use Rattle.gossip_limiter.specs.Limiter.{try_acquire}
use Rattle.gossip_limiter.specs.LimiterLaws.{acquire_new}

-- a full bucket stays full
refill_full : (interval burst now : ℕ) → (discrete_refill (discrete_new interval burst) now).available ≡ burst
unfolding discrete_refill
refill_full interval burst now =
    let refill : ℕ = (now - 0) / interval % 4294967296 in
    by_test (eqb interval 0 || (eqb burst 0 || leb now 0)) (λ t. rw t)
    (λ t. rw t (by_test (eqb refill 0) (λ z. rw z) (λ z. rw z (most burst refill))))
  where
    most : (a r : ℕ) → min (a + r) a ≡ a
    most a r = omega arith

-- so it has a token
fresh_asked : (interval burst now : ℕ) → eqb burst 0 ≡ false → (asked_of (discrete_new interval burst) now).answer ≡ Ok true
unfolding asked_of discrete_try_consume discrete_take
fresh_asked interval burst now some-burst = rw (refill_full interval burst now, some-burst)

-- a key without a row is let in wherever it gets one
pub new_key_let_in : (c : ChannelUpdateRateLimitConfig) (limit : ℕ) (k : List ℕ) (now : ℕ) (rs : Limits) → channel_update_disabled c ≡ false
    → look k rs ≡ none → length (room_for limit c now rs) < limit → (try_acquire c limit k now rs).answer ≡ Ok true
new_key_let_in c limit k now rs on missing free =
    ap (λ (o : Outcome ChannelUpdateLimiterEntry (Result Bool Refusal)). o.answer) (acquire_new c limit k now rs on missing free)
    ∙ fresh_asked c.interval_ms c.burst now (neither (eqb c.interval_ms 0) (eqb c.burst 0) on).1
