-- What the machine gives of any settings: every number is within its field's width. Definitions only.
use Rattle.std.specs.Prelude.{◌^◌, ◌<◌}
use Rattle.peer_settings.specs.declared.config.PeerMessagePolicyConfig.{PeerMessagePolicyConfig}

pub record ConfigFits (c : PeerMessagePolicyConfig) : Type 0 where
  pub interval : c.peer_message_interval_ms < 2 ^ 64
  pub burst : c.peer_message_burst < 2 ^ 32
  pub rate : c.peer_message_rate_bytes_per_sec < 2 ^ 64
  pub burst_bytes : c.peer_message_burst_bytes < 2 ^ 64
  pub threshold : c.violation_ban_threshold < 2 ^ 32
  pub duration : c.ban_duration_ms < 2 ^ 64
  pub tracked : c.max_tracked_peers < 2 ^ 64
  pub messages : c.max_in_flight_messages < 2 ^ 32
  pub bytes : c.max_in_flight_bytes < 2 ^ 64
