-- GossipPolicyState of gossip_policy.rs: its two halves, and what its settings say by themselves. Definitions only.
use Rattle.std.specs.Prelude.{cond, ℕ, Option, None, Some}
use Rattle.bucket_terms.specs.declared.limit.ByteRateLimitConfig.{ByteRateLimitConfig}
use Rattle.bucket_terms.specs.Limit.{byte_disabled}
use Rattle.bucket_bytes.specs.ByteBucket.{byte_new}
use Rattle.gossip_settings.specs.declared.policy.GossipPolicyConfig.{GossipPolicyConfig}
use Rattle.gossip_settings.specs.Settings.{max_tracked_peers}
use Rattle.gossip_bans.specs.declared.tracker.GossipBanTracker.{GossipBanTracker}
use Rattle.gossip_bans.specs.Calls as bans
use Rattle.gossip_outbound_state.specs.declared.state.Outbound.{Outbound}
use Rattle.gossip_policy.specs.declared.state.GossipPolicyState.{GossipPolicyState}

-- new: no row in either table, and a full global bucket
abbrev pub fresh : GossipPolicyConfig → GossipPolicyState
fresh c =
    record {
      ban_tracker = bans.fresh c.ban max_tracked_peers;
      global_outbound = byte_new c.outbound_global;
      rows = 0;
      outbound_delay_queue_capacity = c.outbound_delay_queue_capacity;
      peer_outbound_config = c.outbound_peer;
    }

-- the outbound half
abbrev pub outbound_of : GossipPolicyState → Outbound
outbound_of s =
    record { global_outbound = s.global_outbound; peer_outbound_config = s.peer_outbound_config; rows = s.rows }

-- the state with these bans
abbrev pub with_tracker : GossipPolicyState → GossipBanTracker → GossipPolicyState
with_tracker s t =
    record {
      ban_tracker = t;
      global_outbound = s.global_outbound;
      rows = s.rows;
      outbound_delay_queue_capacity = s.outbound_delay_queue_capacity;
      peer_outbound_config = s.peer_outbound_config;
    }

-- the state with this global bucket and so many outbound rows; the settings stay
abbrev pub with_outbound : GossipPolicyState → Outbound → GossipPolicyState
with_outbound s o =
    record {
      ban_tracker = s.ban_tracker;
      global_outbound = o.global_outbound;
      rows = o.rows;
      outbound_delay_queue_capacity = s.outbound_delay_queue_capacity;
      peer_outbound_config = s.peer_outbound_config;
    }

-- outbound_global_delayed_byte_capacity and outbound_peer_delayed_byte_capacity, each on its settings
abbrev pub delayed_byte_capacity : ByteRateLimitConfig → Option ℕ
delayed_byte_capacity c = cond (byte_disabled c) None (Some c.burst_bytes)
