-- What every call on the gossip state keeps. Definitions only; that they do is proved in `PolicyKeptLaws`.
use Rattle.std.specs.Prelude.{◌≡◌, List, ℕ}
use Rattle.gossip_policy.specs.declared.state.GossipPolicyState.{GossipPolicyState}
use Rattle.gossip_policy.specs.State.{outbound_of}
use Rattle.gossip_laws.specs.BanSoundLaws.{BanKept}
use Rattle.gossip_laws.specs.OutboundKept.{Kept}

-- after a call on bans: sound ones are sound again, and the rest of the state is as it was
pub record BansKept (s : GossipPolicyState) (before : List ℕ) (q : GossipPolicyState) (after : List ℕ) : Type 0 where
  pub bans : BanKept s.ban_tracker before q.ban_tracker after
  pub outbound : outbound_of q ≡ outbound_of s
  pub queue : q.outbound_delay_queue_capacity ≡ s.outbound_delay_queue_capacity

-- after a call on outbound messages: a sound half is sound again, and the rest of the state is as it was
pub record OutboundKept (s : GossipPolicyState) (before : List ℕ) (q : GossipPolicyState) (after : List ℕ) : Type 0 where
  pub outbound : Kept (outbound_of s) before (outbound_of q) after
  pub bans : q.ban_tracker ≡ s.ban_tracker
  pub queue : q.outbound_delay_queue_capacity ≡ s.outbound_delay_queue_capacity
