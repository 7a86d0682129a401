-- What the calls hand back: the state, as it was where the call is refused, and the answer. Definitions only.
use Rattle.refusal.specs.declared.Answered.{Answered}
use Rattle.amount.specs.declared.Amount.{Amount}
use Rattle.bucket_terms.specs.declared.limit.ByteRateLimitConfig.{ByteRateLimitConfig}
use Rattle.peer_settings.specs.declared.config.PeerMessagePolicyConfig.{PeerMessagePolicyConfig}
use Rattle.c_terms.specs.declared.reply.Reply.{Reply}
use Rattle.bucket_bytes.specs.declared.bytes.ByteTokenBucket.{ByteTokenBucket}
use Rattle.bucket_discrete.specs.declared.discrete.DiscreteTokenBucket.{DiscreteTokenBucket}

abbrev pub DiscreteDone : Type 0
DiscreteDone = Answered DiscreteTokenBucket Reply

abbrev pub ByteDone : Type 0
ByteDone = Answered ByteTokenBucket Reply

-- the amount that a call answers, or its first operand where it answers no amount
abbrev pub AmountDone : Type 0
AmountDone = Answered Amount Reply

abbrev pub LimitDone : Type 0
LimitDone = Answered ByteRateLimitConfig Reply

abbrev pub SettingsDone : Type 0
SettingsDone = Answered PeerMessagePolicyConfig Reply
