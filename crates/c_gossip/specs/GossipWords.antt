-- The gossip state as the words that cross the C boundary. Definitions only.
use Rattle.std.specs.Prelude.{List, [], ◌∷◌, ℕ, get_or}
use Rattle.bucket_terms.specs.Limit.{byte_limit}
use Rattle.gossip_settings.specs.declared.policy.GossipPolicyConfig.{GossipPolicyConfig}
use Rattle.gossip_settings.specs.Settings.{channel_update_default}
use Rattle.gossip_policy.specs.declared.state.GossipPolicyState.{GossipPolicyState}
use Rattle.c_terms.specs.AmountWords.{amount_of_words, amount_words}

-- the words of the global bucket's amount
abbrev pub amount_part : List ℕ → List ℕ
amount_part shorts = get_or shorts 1 0 ∷ get_or shorts 2 0 ∷ get_or shorts 3 0 ∷ get_or shorts 4 0 ∷ get_or shorts 5 0 ∷ []

-- the state that these words say
abbrev pub state_of : List ℕ → List ℕ → GossipPolicyState
state_of longs shorts =
    record {
      ban_tracker =
          record {
            config = record { threshold = get_or shorts 0 0; duration_ms = get_or longs 0 0 };
            max_entries = get_or longs 1 0;
            rows = get_or longs 2 0;
          };
      global_outbound =
          record {
            config = byte_limit (get_or longs 3 0) (get_or longs 4 0);
            available_bytes = amount_of_words (amount_part shorts);
            last_refill_ms = get_or longs 5 0;
          };
      rows = get_or longs 8 0;
      outbound_delay_queue_capacity = get_or longs 9 0;
      peer_outbound_config = byte_limit (get_or longs 6 0) (get_or longs 7 0);
    }

-- the settings of a state; those of the limiter, of which it has none, are the defaults
abbrev pub config_of : GossipPolicyState → GossipPolicyConfig
config_of s =
    record {
      ban = s.ban_tracker.config;
      outbound_global = s.global_outbound.config;
      outbound_peer = s.peer_outbound_config;
      outbound_delay_queue_capacity = s.outbound_delay_queue_capacity;
      inbound_channel_update = channel_update_default;
    }

-- a state's words of 64 bits
abbrev pub gossip_longs : GossipPolicyState → List ℕ
gossip_longs s =
    s.ban_tracker.config.duration_ms
    ∷ s.ban_tracker.max_entries
    ∷ s.ban_tracker.rows
    ∷ s.global_outbound.config.rate_bytes_per_sec
    ∷ s.global_outbound.config.burst_bytes
    ∷ s.global_outbound.last_refill_ms
    ∷ s.peer_outbound_config.rate_bytes_per_sec
    ∷ s.peer_outbound_config.burst_bytes
    ∷ s.rows
    ∷ s.outbound_delay_queue_capacity
    ∷ []

-- a state's words of 32 bits
abbrev pub gossip_shorts : GossipPolicyState → List ℕ
gossip_shorts s = s.ban_tracker.config.threshold ∷ amount_words s.global_outbound.available_bytes
