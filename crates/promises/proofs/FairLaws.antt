-- Fair share, for one life of one peer: its two buckets and the log of its Allows keep both laws, and so the log is within the upper
-- bound, and a call within the smaller allowance finds enough in both buckets. Needs no more of times than that the life's own Allows
-- are in order. Assumes nothing.
use Rattle.std.specs.Prelude.{◌≡◌, refl, true, false, List, [], ◌∷◌, ℕ, ◌+◌, ◌-◌, ◌*◌, ◌/◌, ◌^◌, ◌<◌, ◌≤◌}
use Rattle.std.proofs.Common.{le_refl, mul-add, mul-le-mul_left, arith}
use Rattle.std.proofs.Math.Nat.{mul-sub, mul-div-le}
use Rattle.truths.specs.TruthLaws.{by_test}
use Rattle.bucket_terms.specs.Limit.{byte_disabled}
use Rattle.peer_settings.specs.declared.config.PeerMessagePolicyConfig.{PeerMessagePolicyConfig}
use Rattle.peer_state.specs.declared.entry.Level.{Level}
use Rattle.peer_settings.specs.Config.{message_limit_disabled, bytes_of}
use Rattle.peer_settings.specs.Fits.{ConfigFits}
use Rattle.peer_state.specs.Entry.{level}
use Rattle.peer_verdict.specs.Verdict.{passes, messages_left, bytes_left, take_message, take_bytes}
use Rattle.promises.specs.Lives.{Allow, AtMost, Allowance, Within}
use Rattle.promises.proofs.BucketLaws.{newest, InOrder, within_parts}
use Rattle.promises.proofs.MessageLaws.{FairMessages, message_terms, messages_new, messages_next, messages_enough, messages_most, message_off}
use Rattle.promises.proofs.ByteLaws.{FairBytes, byte_terms, bytes_new, bytes_next, bytes_enough, bytes_most, bytes_off}

-- the newest Allow of a log lies at or before this time
abbrev pub NotAfter : List Allow → ℕ → Type 0
NotAfter [] t = Unit {0}
NotAfter (z ∷ log) t = z.time ≤ t

-- what a peer's two buckets and the log of its life always satisfy
pub record Fair (c : PeerMessagePolicyConfig) (m b : Level) (log : List Allow) : Type 0 where
  pub ordered : InOrder log
  pub messages : message_limit_disabled c ≡ false → FairMessages c m log
  pub bytes : byte_disabled (bytes_of c) ≡ false → FairBytes c b log

newest_before : (log : List Allow) (t : ℕ) → NotAfter log t → newest log ≤ t
newest_before [] t h = omega arith
newest_before (z ∷ log) t h = h

pub fair_new : (c : PeerMessagePolicyConfig) → ConfigFits c → Fair c (level c.peer_message_burst 0) (level c.peer_message_burst_bytes 0) []
fair_new c config = record { ordered = tt; messages = λ on. messages_new c on; bytes = λ on. bytes_new c }

pub fair_allow : (c : PeerMessagePolicyConfig) → ConfigFits c → (m b : Level) (log : List Allow) (size now : ℕ)
    → size < 2 ^ 64
    → Fair c m b log
    → NotAfter log now
    → passes (take_message c m now).answer ≡ true
    → passes (take_bytes c b size now).answer ≡ true
    → Fair c (messages_left (take_message c m now).state) (bytes_left (take_bytes c b size now).state) (record { time = now; size = size } ∷ log)
fair_allow c config m b log size now size_fits fair after message_there bytes_there =
    let z : Allow = record { time = now; size = size } in
    let later = newest_before log now after in
    record {
      ordered = (later, fair.ordered);
      messages = λ on. messages_next c on m log z (fair.messages on) fair.ordered later message_there;
      bytes = λ on. bytes_next c config on b log z size_fits (fair.bytes on) fair.ordered later bytes_there;
    }

pub fair_most : (c : PeerMessagePolicyConfig) → ConfigFits c → (m b : Level) (log : List Allow) → Fair c m b log → AtMost c log
unfolding AtMost
fair_most c config m b log fair = λ from to.
    (λ on. messages_most c on m log (fair.messages on) from to, λ on. bytes_most c b log (fair.bytes on) from to)

-- one allowance in parts, for each bucket
message_parts : (c : PeerMessagePolicyConfig) → message_limit_disabled c ≡ false → (now n bytes s : ℕ) → s ≤ now → Allowance c now (n + 1) bytes s
    → c.peer_message_interval_ms * (n + 1) + 0 * n + 1 * s ≤ c.peer_message_interval_ms * c.peer_message_burst + 1 * now
message_parts c on now n bytes s before allowance =
    omega (arith, mul-le-mul_left c.peer_message_interval_ms (allowance.0 on), mul-add c.peer_message_interval_ms c.peer_message_burst ((now - s) / c.peer_message_interval_ms), mul-div-le (now - s) c.peer_message_interval_ms)

byte_parts : (c : PeerMessagePolicyConfig) → byte_disabled (bytes_of c) ≡ false → (now n bytes s : ℕ) → s ≤ now → Allowance c now (n + 1) bytes s
    → 1000 * bytes + 999 * n + c.peer_message_rate_bytes_per_sec * s ≤ 1000 * c.peer_message_burst_bytes + c.peer_message_rate_bytes_per_sec * now
byte_parts c on now n bytes s before allowance =
    omega (arith, allowance.1 on, mul-sub c.peer_message_rate_bytes_per_sec now s, mul-le-mul_left c.peer_message_rate_bytes_per_sec before)

pub fair_least : (c : PeerMessagePolicyConfig) → ConfigFits c → (m b : Level) (log : List Allow) (size now : ℕ)
    → size < 2 ^ 64
    → Fair c m b log
    → NotAfter log now
    → Within c now size log
    → (passes (take_message c m now).answer ≡ true) × (passes (take_bytes c b size now).answer ≡ true)
unfolding Within
fair_least c config m b log size now size_fits fair after allowed =
    let z : Allow = record { time = now; size = size } in
    let later = newest_before log now after in
    let ordered : InOrder (z ∷ log) = (later, fair.ordered) in (
      by_test (message_limit_disabled c) (λ off. message_off c m now off)
          (λ on. messages_enough c on m log z (fair.messages on) fair.ordered later (allowed.0 on)
          (within_parts (message_terms c) c now (c.peer_message_interval_ms * c.peer_message_burst + 1 * now) (λ n bytes. n) (λ n bytes y. refl)
          (message_parts c on now) (z ∷ log) 0 0 ordered (le_refl now) allowed.1)),
      by_test (byte_disabled (bytes_of c)) (λ off. bytes_off c b size now off)
          (λ on. bytes_enough c config on b log z size_fits (fair.bytes on) fair.ordered later
          (within_parts (byte_terms c) c now (1000 * c.peer_message_burst_bytes + c.peer_message_rate_bytes_per_sec * now) (λ n bytes. bytes) (λ n bytes y. refl)
          (byte_parts c on now) (z ∷ log) 0 0 ordered (le_refl now) allowed.1)),
    )
