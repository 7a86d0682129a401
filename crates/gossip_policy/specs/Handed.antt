-- What the calls hand back: the state, as it was where the call is refused, and the answer. Definitions only.
use Rattle.std.specs.Prelude.{ℕ, Bool, Result}
use Rattle.refusal.specs.declared.Refusal.{Refusal}
use Rattle.refusal.specs.declared.Answered.{Answered}
use Rattle.gossip_policy.specs.declared.state.GossipPolicyState.{GossipPolicyState}

abbrev pub GossipTold : Type 0
GossipTold = Answered GossipPolicyState (Result Bool Refusal)

abbrev pub GossipPruned : Type 0
GossipPruned = Answered GossipPolicyState (Result (Unit {0}) Refusal)

abbrev pub GossipSettled : Type 0
GossipSettled = Answered GossipPolicyState (Result (Unit {0}) Refusal)

abbrev pub GossipReserved : Type 0
GossipReserved = Answered GossipPolicyState (Result ℕ Refusal)
