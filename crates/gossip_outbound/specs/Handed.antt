-- What the calls hand back: the state, as it was where the call is refused, and the answer. Definitions only.
use Rattle.std.specs.Prelude.{ℕ, Bool, Result}
use Rattle.refusal.specs.declared.Refusal.{Refusal}
use Rattle.refusal.specs.declared.Answered.{Answered}
use Rattle.gossip_outbound_state.specs.declared.state.Outbound.{Outbound}

abbrev pub OutboundTold : Type 0
OutboundTold = Answered Outbound (Result Bool Refusal)

abbrev pub OutboundReserved : Type 0
OutboundReserved = Answered Outbound (Result ℕ Refusal)

abbrev pub OutboundSettled : Type 0
OutboundSettled = Answered Outbound (Result (Unit {0}) Refusal)
