-- Readings of the smaller allowance that are false, each with a small run that shows it, by computation. Assumes nothing.
use Rattle.std.specs.Prelude.{◌≡◌, refl, true, false, List, [], ◌∷◌, ℕ, ◌-◌, ◌/◌, ◌≤◌}
use Rattle.std.proofs.Common.{arith}
use Rattle.truths.specs.TruthLaws.{true_is_not_false}
use Rattle.peer_settings.specs.declared.config.PeerMessagePolicyConfig.{PeerMessagePolicyConfig}
use Rattle.bucket_discrete.specs.DiscreteBucket.{discrete_try_consume, discrete_refill, discrete_take}
use Rattle.peer_settings.specs.Config.{message_limit_disabled}
use Rattle.peer_state.specs.Entry.{level}
use Rattle.peer_verdict.specs.Verdict.{passes, messages_left, take_message}
use Rattle.promises.specs.Lives.{Allow, FromEvery}

-- ════ The gap between Allows, in intervals rounded down ════

-- successive Allows, and the last one and the call, lie at most 4,294,967,295 whole intervals apart
abbrev pub NearRounded : ℕ → ℕ → List Allow → Type 0
NearRounded interval t [] = Unit {0}
NearRounded interval t (z ∷ log) = ((t - z.time) / interval ≤ 4294967295) × NearRounded interval z.time log

-- the smaller allowance with that rule in the place of `Near`
abbrev pub WithinRounded : PeerMessagePolicyConfig → ℕ → ℕ → List Allow → Type 0
WithinRounded c now size log =
    (message_limit_disabled c ≡ false → NearRounded c.peer_message_interval_ms now log)
    × FromEvery c now 0 0 (record { time = now; size = size } ∷ log)

-- one message each two milliseconds, one at once, and no other limit
abbrev pub one_in_two : PeerMessagePolicyConfig
one_in_two =
    record {
      peer_message_interval_ms = 2;
      peer_message_burst = 1;
      peer_message_rate_bytes_per_sec = 0;
      peer_message_burst_bytes = 0;
      violation_ban_threshold = 0;
      ban_duration_ms = 0;
      max_tracked_peers = 1;
      max_in_flight_messages = 0;
      max_in_flight_bytes = 0;
    }

-- an Allow at 1, and a call at 8,589,934,592: 2^32 intervals have passed since the last refill, at 0, which
-- the cut to 32 bits makes 0; with `Near` the call lies one millisecond too late
pub gap_rule : (message_limit_disabled one_in_two ≡ false)
    × (passes (take_message one_in_two (level 1 0) 1).answer ≡ true)
    × WithinRounded one_in_two 8589934592 0 (record { time = 1; size = 0 } ∷ [])
    × (passes (take_message one_in_two (messages_left (take_message one_in_two (level 1 0) 1).state) 8589934592).answer ≡ false)
unfolding take_message discrete_try_consume discrete_refill discrete_take FromEvery
gap_rule = (
  refl,
  refl,
  (λ on. (omega arith, tt), ((λ on. omega arith, λ on. absurd (true_is_not_false refl on)), ((λ on. omega arith, λ on. absurd (true_is_not_false refl on)), tt))),
  refl,
)
