-- At most one outcome satisfies the contract of each maker of settings, and of each question on them. Assumes nothing.
use Rattle.std.specs.Prelude.{◌≡◌, Bool, ℕ}
use Rattle.refusal.specs.OneOutcomeLaws.{one_outcome}
use Rattle.peer_settings.specs.declared.config.PeerMessagePolicyConfig.{PeerMessagePolicyConfig}
use Rattle.peer_settings.specs.Config.{config_default, config_with_limits, message_limit_disabled, ban_disabled, unlimited, limit}

pub default_one : {r q : PeerMessagePolicyConfig} → r ≡ config_default → q ≡ config_default → r ≡ q
default_one = one_outcome

pub with_limits_one : (entries messages bytes : ℕ) {r q : PeerMessagePolicyConfig} → r ≡ config_with_limits entries messages bytes
    → q ≡ config_with_limits entries messages bytes → r ≡ q
with_limits_one entries messages bytes = one_outcome

module _ (c : PeerMessagePolicyConfig) where
  pub message_limit_disabled_one : {r q : Bool} → r ≡ message_limit_disabled c → q ≡ message_limit_disabled c → r ≡ q
  message_limit_disabled_one = one_outcome

  pub ban_disabled_one : {r q : Bool} → r ≡ ban_disabled c → q ≡ ban_disabled c → r ≡ q
  ban_disabled_one = one_outcome

  pub is_unlimited_one : {r q : Bool} → r ≡ unlimited c → q ≡ unlimited c → r ≡ q
  is_unlimited_one = one_outcome

  pub limit_one : {r q : ℕ} → r ≡ limit c → q ≡ limit c → r ≡ q
  limit_one = one_outcome
