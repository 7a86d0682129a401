-- At most one answer meets each call's contract. Assumes nothing.
use Rattle.std.specs.Prelude.{◌≡◌, Bool, ℕ}
use Rattle.refusal.specs.OneOutcomeLaws.{one_outcome}
use Rattle.gossip_settings.specs.declared.ban.GossipBanConfig.{GossipBanConfig}
use Rattle.gossip_settings.specs.declared.channel_update.ChannelUpdateRateLimitConfig.{ChannelUpdateRateLimitConfig}
use Rattle.gossip_settings.specs.declared.policy.GossipPolicyConfig.{GossipPolicyConfig}
use Rattle.gossip_settings.specs.declared.violation.GossipViolation.{GossipViolation}
use Rattle.gossip_settings.specs.Settings.{ban_default, gossip_ban_disabled, channel_update_default, channel_update_disabled, gossip_default, violation_score}

pub ban_default_outcome : {r q : GossipBanConfig} → r ≡ ban_default → q ≡ ban_default → r ≡ q
ban_default_outcome = one_outcome

pub ban_is_disabled_outcome : (c : GossipBanConfig) {r q : Bool} → r ≡ gossip_ban_disabled c → q ≡ gossip_ban_disabled c → r ≡ q
ban_is_disabled_outcome c = one_outcome

pub channel_update_default_outcome : {r q : ChannelUpdateRateLimitConfig} → r ≡ channel_update_default → q ≡ channel_update_default → r ≡ q
channel_update_default_outcome = one_outcome

pub channel_update_is_disabled_outcome : (c : ChannelUpdateRateLimitConfig) {r q : Bool} → r ≡ channel_update_disabled c → q ≡ channel_update_disabled c → r ≡ q
channel_update_is_disabled_outcome c = one_outcome

pub gossip_default_outcome : {r q : GossipPolicyConfig} → r ≡ gossip_default → q ≡ gossip_default → r ≡ q
gossip_default_outcome = one_outcome

pub violation_score_outcome : (v : GossipViolation) {r q : ℕ} → r ≡ violation_score v → q ≡ violation_score v → r ≡ q
violation_score_outcome v = one_outcome
