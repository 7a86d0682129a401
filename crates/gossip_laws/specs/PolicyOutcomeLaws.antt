-- At most one outcome satisfies the contract of each call on the gossip state: the same answer, and the same memory where memory is lent.
-- Assumes nothing.
use Rattle.std.specs.Prelude.{◌≡◌, List, Bool, ℕ, Result, Option}
use Rattle.refusal.specs.declared.Refusal.{Refusal}
use Rattle.pubkey.specs.declared.Pubkey.{Pubkey}
use Rattle.refusal.specs.OneOutcomeLaws.{one_outcome}
use Rattle.table.specs.OutcomeLaws.{one_meets}
use Rattle.gossip_settings.specs.declared.policy.GossipPolicyConfig.{GossipPolicyConfig}
use Rattle.gossip_settings.specs.declared.violation.GossipViolation.{GossipViolation}
use Rattle.gossip_outbound_state.specs.State.{exceeds}
use Rattle.gossip_policy.specs.declared.state.GossipPolicyState.{GossipPolicyState}
use Rattle.gossip_policy.specs.Handed.{GossipTold, GossipPruned, GossipSettled, GossipReserved}
use Rattle.gossip_policy.specs.State.{outbound_of, delayed_byte_capacity}
use Rattle.gossip_policy.specs.Calls.{NewMeets, RecordViolationMeets, IsBannedMeets, PruneBansMeets, AllowMeets, EstimateMeets, RemoveMeets, ReserveMeets, RefundMeets, BypassMeets}
use Rattle.gossip_laws.specs.OutboundOutcomeLaws.{estimate_outcome, bypass_outcome}

-- new; default is new with other settings
pub policy_new_one : (c : GossipPolicyConfig) (b o : List ℕ) {r q : GossipSettled} {b' b'' o' o'' : List ℕ} → NewMeets c b o r b' o'
    → NewMeets c b o q b'' o'' → (r ≡ q) × ((b' ≡ b'') × (o' ≡ o''))
unfolding NewMeets
policy_new_one c b o m n =
    let bans = one_meets m.0 n.0 in
    (bans.0, (bans.1, (one_meets m.1 n.1).1))

module _ (s : GossipPolicyState) (before : List ℕ) {first second : List ℕ} where
  module _ (now : ℕ) where
    pub policy_record_violation_one : (k : Pubkey) (v : GossipViolation) {r q : GossipTold} → RecordViolationMeets s before k v now r first
        → RecordViolationMeets s before k v now q second → (r ≡ q) × (first ≡ second)
    unfolding RecordViolationMeets
    policy_record_violation_one k v m n = one_meets m n

    pub policy_is_banned_one : (k : Pubkey) {r q : GossipTold} → IsBannedMeets s before k now r first → IsBannedMeets s before k now q second
        → (r ≡ q) × (first ≡ second)
    unfolding IsBannedMeets
    policy_is_banned_one k m n = one_meets m n

    pub prune_bans_one : {r q : GossipPruned} → PruneBansMeets s before now r first → PruneBansMeets s before now q second
        → (r ≡ q) × (first ≡ second)
    unfolding PruneBansMeets
    prune_bans_one m n = one_meets m n

  module _ (k : Pubkey) where
    pub remove_outbound_peer_one : {r q : GossipSettled} → RemoveMeets s before k r first → RemoveMeets s before k q second
        → (r ≡ q) × (first ≡ second)
    unfolding RemoveMeets
    remove_outbound_peer_one m n = one_meets m n

    module _ (bytes now : ℕ) where
      pub allow_outbound_message_one : {r q : GossipTold} → AllowMeets s before k bytes now r first → AllowMeets s before k bytes now q second
          → (r ≡ q) × (first ≡ second)
      unfolding AllowMeets
      allow_outbound_message_one m n = one_meets m n

      pub reserve_outbound_message_one : {r q : GossipReserved} → ReserveMeets s before k bytes now r first
          → ReserveMeets s before k bytes now q second → (r ≡ q) × (first ≡ second)
      unfolding ReserveMeets
      reserve_outbound_message_one m n = one_meets m n

      pub refund_outbound_message_one : {r q : GossipSettled} → RefundMeets s before k bytes now r first
          → RefundMeets s before k bytes now q second → (r ≡ q) × (first ≡ second)
      unfolding RefundMeets
      refund_outbound_message_one m n = one_meets m n

module _ (s : GossipPolicyState) where
  module _ (lent : List ℕ) (k : Pubkey) (bytes now : ℕ) where
    pub estimate_outbound_message_delay_one : {r q : Result ℕ Refusal} → EstimateMeets s lent k bytes now r → EstimateMeets s lent k bytes now q → r ≡ q
    estimate_outbound_message_delay_one = estimate_outcome (outbound_of s) lent k bytes now

    pub should_bypass_one : {r q : Result Bool Refusal} → BypassMeets s lent k bytes now r → BypassMeets s lent k bytes now q → r ≡ q
    should_bypass_one = bypass_outcome (outbound_of s) lent k bytes now

  pub exceeds_capacity_one : (bytes : ℕ) {r q : Bool} → r ≡ exceeds (outbound_of s) bytes → q ≡ exceeds (outbound_of s) bytes → r ≡ q
  exceeds_capacity_one bytes = one_outcome

  pub delay_queue_capacity_one : {r q : ℕ} → r ≡ s.outbound_delay_queue_capacity → q ≡ s.outbound_delay_queue_capacity → r ≡ q
  delay_queue_capacity_one = one_outcome

  pub global_capacity_one : {r q : Option ℕ} → r ≡ delayed_byte_capacity s.global_outbound.config
      → q ≡ delayed_byte_capacity s.global_outbound.config → r ≡ q
  global_capacity_one = one_outcome

  pub peer_capacity_one : {r q : Option ℕ} → r ≡ delayed_byte_capacity s.peer_outbound_config
      → q ≡ delayed_byte_capacity s.peer_outbound_config → r ≡ q
  peer_capacity_one = one_outcome
