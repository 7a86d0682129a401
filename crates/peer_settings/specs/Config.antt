-- The settings of peer_message_policy.rs. Definitions only.
use Rattle.std.specs.Prelude.{Bool, ◌||◌, ℕ, max, eqb}
use Rattle.bucket_terms.specs.declared.limit.ByteRateLimitConfig.{ByteRateLimitConfig}
use Rattle.bucket_terms.specs.Limit.{byte_limit}
use Rattle.peer_settings.specs.declared.config.PeerMessagePolicyConfig.{PeerMessagePolicyConfig}

-- default: the Rust's numbers, but for 1,024 tracked peers (50,000 there)
abbrev pub config_default : PeerMessagePolicyConfig
config_default =
    record {
      peer_message_interval_ms = 5;
      peer_message_burst = 400;
      peer_message_rate_bytes_per_sec = 1048576;
      peer_message_burst_bytes = 4194304;
      violation_ban_threshold = 20;
      ban_duration_ms = 600000;
      max_tracked_peers = 1024;
      max_in_flight_messages = 4096;
      max_in_flight_bytes = 33554432;
    }

-- with_limits: the defaults but for the number of tracked peers, at least 1, and the ceiling
abbrev pub config_with_limits : ℕ → ℕ → ℕ → PeerMessagePolicyConfig
config_with_limits entries messages bytes =
    record {
      peer_message_interval_ms = 5;
      peer_message_burst = 400;
      peer_message_rate_bytes_per_sec = 1048576;
      peer_message_burst_bytes = 4194304;
      violation_ban_threshold = 20;
      ban_duration_ms = 600000;
      max_tracked_peers = max entries 1;
      max_in_flight_messages = messages;
      max_in_flight_bytes = bytes;
    }

-- message_limit_disabled
abbrev pub message_limit_disabled : PeerMessagePolicyConfig → Bool
message_limit_disabled c = eqb c.peer_message_interval_ms 0 || eqb c.peer_message_burst 0

-- ban_disabled
abbrev pub ban_disabled : PeerMessagePolicyConfig → Bool
ban_disabled c = eqb c.violation_ban_threshold 0

-- FiberIngressBudget::is_unlimited: a 0 in either maximum switches the ceiling off
abbrev pub unlimited : PeerMessagePolicyConfig → Bool
unlimited c = eqb c.max_in_flight_messages 0 || eqb c.max_in_flight_bytes 0

-- the settings of every peer's byte bucket
abbrev pub bytes_of : PeerMessagePolicyConfig → ByteRateLimitConfig
bytes_of c = byte_limit c.peer_message_rate_bytes_per_sec c.peer_message_burst_bytes

-- max_entries: how many rows the table holds; a limit of 0 counts as 1
abbrev pub limit : PeerMessagePolicyConfig → ℕ
limit c = max c.max_tracked_peers 1
