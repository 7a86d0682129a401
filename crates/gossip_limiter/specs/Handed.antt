-- What the calls hand back: the state, as it was where the call is refused, and the answer. Definitions only.
use Rattle.std.specs.Prelude.{Bool, Result}
use Rattle.refusal.specs.declared.Refusal.{Refusal}
use Rattle.refusal.specs.declared.Answered.{Answered}
use Rattle.gossip_limiter.specs.declared.limiter.ChannelUpdateLimiter.{ChannelUpdateLimiter}

abbrev pub LimiterTold : Type 0
LimiterTold = Answered ChannelUpdateLimiter (Result Bool Refusal)
