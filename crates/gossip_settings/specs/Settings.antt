-- The settings of gossip_policy.rs, and the score of a violation. Definitions only.
use Rattle.std.specs.Prelude.{Bool, ◌||◌, ℕ, eqb}
use Rattle.bucket_terms.specs.Limit.{byte_limit}
use Rattle.gossip_settings.specs.declared.ban.GossipBanConfig.{GossipBanConfig}
use Rattle.gossip_settings.specs.declared.channel_update.ChannelUpdateRateLimitConfig.{ChannelUpdateRateLimitConfig}
use Rattle.gossip_settings.specs.declared.policy.GossipPolicyConfig.{GossipPolicyConfig}
use Rattle.gossip_settings.specs.declared.violation.GossipViolation.{GossipViolation}

-- GossipBanConfig::default
abbrev pub ban_default : GossipBanConfig
ban_default = record { «threshold» = 100; duration_ms = 600000 }

-- GossipBanConfig::is_disabled
abbrev pub gossip_ban_disabled : GossipBanConfig → Bool
gossip_ban_disabled c = eqb c.«threshold» 0 || eqb c.duration_ms 0

-- how many peers a tracker follows at most, and where its maker names no limit (50,000 in the Rust, where it names none)
abbrev pub max_tracked_peers : ℕ
max_tracked_peers = 1024

-- ChannelUpdateRateLimitConfig::default
abbrev pub channel_update_default : ChannelUpdateRateLimitConfig
channel_update_default = record { interval_ms = 60000; «burst» = 10 }

-- ChannelUpdateRateLimitConfig::is_disabled
abbrev pub channel_update_disabled : ChannelUpdateRateLimitConfig → Bool
channel_update_disabled c = eqb c.interval_ms 0 || eqb c.«burst» 0

-- how many keys a limiter follows at most, and where its maker names no limit (50,000 in the Rust, where it names none)
abbrev pub max_tracked_keys : ℕ
max_tracked_keys = 1024

-- GossipPolicyConfig::default
abbrev pub gossip_default : GossipPolicyConfig
gossip_default =
    record {
      «ban» = ban_default;
      outbound_global = byte_limit 1024000 2048000;
      outbound_peer = byte_limit 51200 102400;
      outbound_delay_queue_capacity = 1024;
      inbound_channel_update = channel_update_default;
    }

-- GossipViolation::score
abbrev pub violation_score : GossipViolation → ℕ
violation_score GossipViolation.InvalidSyncResponse = 100
violation_score GossipViolation.InvalidBroadcastMessage = 100
violation_score GossipViolation.PolicyRejectedMessage = 25
