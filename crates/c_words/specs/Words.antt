-- A policy as the words that cross the C boundary. Definitions only.
use Rattle.std.specs.Prelude.{◌≡◌, List, [], ◌∷◌, ℕ, get_or}
use Rattle.std.specs.Prelude.{Result, Ok, Err}
use Rattle.refusal.specs.declared.Refusal.{Refusal}
use Rattle.refusal.specs.Refusal.{number_of}
use Rattle.peer_settings.specs.declared.config.PeerMessagePolicyConfig.{PeerMessagePolicyConfig}
use Rattle.peer_message_policy.specs.declared.policy.PeerMessagePolicy.{PeerMessagePolicy}

-- the settings that these words say
abbrev pub config_of : List ℕ → List ℕ → PeerMessagePolicyConfig
config_of longs shorts =
    record {
      peer_message_interval_ms = get_or longs 0 0;
      peer_message_burst = get_or shorts 0 0;
      peer_message_rate_bytes_per_sec = get_or longs 1 0;
      peer_message_burst_bytes = get_or longs 2 0;
      violation_ban_threshold = get_or shorts 1 0;
      ban_duration_ms = get_or longs 3 0;
      max_tracked_peers = get_or longs 4 0;
      max_in_flight_messages = get_or shorts 2 0;
      max_in_flight_bytes = get_or longs 5 0;
    }

-- the policy that these words say
abbrev pub policy_of : List ℕ → List ℕ → PeerMessagePolicy
policy_of longs shorts =
    record {
      config = config_of longs shorts;
      ingress = record { in_flight_messages = get_or shorts 3 0; in_flight_bytes = get_or longs 6 0 };
      rows = get_or longs 7 0;
    }

-- a policy's words of 64 bits
abbrev pub longs_of : PeerMessagePolicy → List ℕ
longs_of p =
    p.config.peer_message_interval_ms
    ∷ p.config.peer_message_rate_bytes_per_sec
    ∷ p.config.peer_message_burst_bytes
    ∷ p.config.ban_duration_ms
    ∷ p.config.max_tracked_peers
    ∷ p.config.max_in_flight_bytes
    ∷ p.ingress.in_flight_bytes
    ∷ p.rows
    ∷ []

-- a policy's words of 32 bits
abbrev pub shorts_of : PeerMessagePolicy → List ℕ
shorts_of p =
    p.config.peer_message_burst
    ∷ p.config.violation_ban_threshold
    ∷ p.config.max_in_flight_messages
    ∷ p.ingress.in_flight_messages
    ∷ []

-- the number returned is the answer's, and the words after the call are those of its policy; on a refusal they stay
abbrev pub Leaves : Result (ℕ × PeerMessagePolicy) Refusal → List ℕ → List ℕ → ℕ → List ℕ → List ℕ → Type 0
Leaves (Ok (n, p)) longs shorts r longs' shorts' = (r ≡ n) × (longs' ≡ longs_of p) × (shorts' ≡ shorts_of p)
Leaves (Err n) longs shorts r longs' shorts' = (r ≡ number_of n) × (longs' ≡ longs) × (shorts' ≡ shorts)
