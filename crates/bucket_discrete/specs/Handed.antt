-- What the calls hand back: the state, as it was where the call is refused, and the answer. Definitions only.
use Rattle.std.specs.Prelude.{Result}
use Rattle.refusal.specs.declared.Refusal.{Refusal}
use Rattle.refusal.specs.declared.Answered.{Answered}
use Rattle.bucket_terms.specs.declared.answer.NotGiven.{NotGiven}
use Rattle.bucket_discrete.specs.declared.discrete.DiscreteTokenBucket.{DiscreteTokenBucket}

abbrev pub DiscreteRefilled : Type 0
DiscreteRefilled = Answered DiscreteTokenBucket (Result (Unit {0}) Refusal)

abbrev pub DiscreteConsumed : Type 0
DiscreteConsumed = Answered DiscreteTokenBucket (Result (Unit {0}) NotGiven)
