-- The peers' settings as the words that cross the C boundary. Definitions only.
use Rattle.std.specs.Prelude.{List, [], ◌∷◌, ℕ, get_or}
use Rattle.peer_settings.specs.declared.config.PeerMessagePolicyConfig.{PeerMessagePolicyConfig}

-- the settings that these words say
abbrev pub settings_of : List ℕ → List ℕ → PeerMessagePolicyConfig
settings_of longs shorts =
    record {
      peer_message_interval_ms = get_or longs 0 0;
      peer_message_burst = get_or shorts 0 0;
      peer_message_rate_bytes_per_sec = get_or longs 1 0;
      peer_message_burst_bytes = get_or longs 2 0;
      violation_ban_threshold = get_or shorts 1 0;
      ban_duration_ms = get_or longs 3 0;
      max_tracked_peers = get_or longs 4 0;
      max_in_flight_messages = get_or shorts 2 0;
      max_in_flight_bytes = get_or longs 5 0;
    }

-- the settings' words of 64 bits
abbrev pub settings_longs : PeerMessagePolicyConfig → List ℕ
settings_longs c =
    c.peer_message_interval_ms
    ∷ c.peer_message_rate_bytes_per_sec
    ∷ c.peer_message_burst_bytes
    ∷ c.ban_duration_ms
    ∷ c.max_tracked_peers
    ∷ c.max_in_flight_bytes
    ∷ []

-- the settings' words of 32 bits
abbrev pub settings_shorts : PeerMessagePolicyConfig → List ℕ
settings_shorts c = c.peer_message_burst ∷ c.violation_ban_threshold ∷ c.max_in_flight_messages ∷ []
