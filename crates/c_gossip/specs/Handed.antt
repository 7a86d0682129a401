-- What the calls hand back: the state, as it was where the call is refused, and the answer. Definitions only.
use Rattle.refusal.specs.declared.Answered.{Answered}
use Rattle.c_terms.specs.declared.reply.Reply.{Reply}
use Rattle.gossip_policy.specs.declared.state.GossipPolicyState.{GossipPolicyState}

abbrev pub GossipDone : Type 0
GossipDone = Answered GossipPolicyState Reply
