-- Sample H: a limiter of one key, interval 10, burst 1, asked by any two keys: A at 100 yes, B at 109 no, B at 110 yes. It computes on the
-- definitions of the calls. Assumes nothing.
use Rattle.std.specs.Prelude.{◌≡◌, ℕ, Result, Ok, Bool, true, false}
use Rattle.std.proofs.Math.Path.{refl}
use Rattle.refusal.specs.declared.Refusal.{Refusal}
use mathlib.Core.List.{List, [], ◌∷◌}
use Rattle.std.proofs.Math.Option.{none}
use Rattle.table.specs.Table.{row_under, look, store, retain}
use Rattle.table.specs.LookLaws.{look_store_other}
use Rattle.table.specs.Outcome.{become, Outcome}
use Rattle.table_laws.specs.Raw.{map_entries}
use Rattle.bucket_discrete.specs.DiscreteBucket.{discrete_refill, discrete_take, discrete_try_consume}
use Rattle.gossip_settings.specs.declared.channel_update.ChannelUpdateRateLimitConfig.{ChannelUpdateRateLimitConfig}
use Rattle.gossip_limiter_rows.specs.declared.entry.ChannelUpdateLimiterEntry.{ChannelUpdateLimiterEntry}
use Rattle.gossip_limiter_rows.specs.Entry.{limiter_entry, refilled, asked_of}
use Rattle.gossip_limiter_rows.specs.Rows.{Limits}
use Rattle.gossip_limiter_rows.specs.Prune.{room_for}
use Rattle.gossip_limiter.specs.Limiter.{turn, try_acquire}

-- the sample's settings
abbrev settings_h : ChannelUpdateRateLimitConfig
settings_h = record { interval_ms = 10; burst = 1 }

-- the sample's limiter of one key, asked by a key at a time
abbrev acquire_h : List ℕ → ℕ → Limits → Outcome ChannelUpdateLimiterEntry (Result Bool Refusal)
acquire_h k now rs = try_acquire settings_h 1 k now rs

-- a key that has used its token at a time
abbrev used_h : List ℕ → ℕ → Limits
used_h k now = row_under k (limiter_entry 0 now now) ∷ []

module _ (a b : List ℕ) (other : b ≡ a → ⊥) where
  -- B is not found beside A
  missing : (e : ChannelUpdateLimiterEntry) → look b (row_under a e ∷ []) ≡ none
  unfolding store look
  missing e = look_store_other a e b other []

  pub sample_H_first : acquire_h a 100 [] ≡ turn (Ok true) (become (used_h a 100))
  unfolding try_acquire room_for asked_of discrete_try_consume discrete_refill discrete_take store look
  sample_H_first = refl

  pub sample_H_early : acquire_h b 109 (used_h a 100) ≡ turn (Ok false) (become (used_h a 100))
  unfolding try_acquire room_for refilled discrete_refill retain map_entries
  sample_H_early = rw (missing (limiter_entry 0 100 100))

  pub sample_H_later : acquire_h b 110 (used_h a 100) ≡ turn (Ok true) (become (used_h b 110))
  unfolding try_acquire room_for refilled asked_of discrete_try_consume discrete_refill discrete_take retain map_entries store
  sample_H_later = rw (missing (limiter_entry 0 100 100))
