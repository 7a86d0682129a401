-- What the calls hand back: the state, as it was where the call is refused, and the answer. Definitions only.
use Rattle.std.specs.Prelude.{ℕ, Result}
use Rattle.refusal.specs.declared.Refusal.{Refusal}
use Rattle.refusal.specs.declared.Answered.{Answered}
use Rattle.bucket_terms.specs.declared.answer.NotGiven.{NotGiven}
use Rattle.bucket_bytes.specs.declared.bytes.ByteTokenBucket.{ByteTokenBucket}

abbrev pub ByteRefilled : Type 0
ByteRefilled = Answered ByteTokenBucket (Result (Unit {0}) Refusal)

abbrev pub ByteConsumed : Type 0
ByteConsumed = Answered ByteTokenBucket (Result (Unit {0}) NotGiven)

abbrev pub ByteReserved : Type 0
ByteReserved = Answered ByteTokenBucket (Result ℕ Refusal)
