-- What admit and record_invalid decide on one entry: pure, on values. Definitions only.
use Rattle.std.specs.Prelude.{Bool, true, false, ◌&&◌, not, cond, ℕ, leb, pos}
use Rattle.std.specs.Prelude.{Result, Ok, Err}
use Rattle.bucket_terms.specs.declared.answer.NotGiven.{NotGiven}
use Rattle.bucket_terms.specs.declared.answer.NotGiven.TheVariants as NotGiven
use Rattle.peer_state.specs.declared.ingress.NotReserved.{NotReserved}
use Rattle.peer_state.specs.declared.ingress.NotReserved.TheVariants as NotReserved
use Rattle.amount.specs.Amount.{value, natural}
use Rattle.bucket_discrete.specs.declared.discrete.DiscreteTokenBucket.{DiscreteTokenBucket}
use Rattle.bucket_discrete.specs.Handed.{DiscreteConsumed}
use Rattle.bucket_bytes.specs.declared.bytes.ByteTokenBucket.{ByteTokenBucket}
use Rattle.bucket_bytes.specs.Handed.{ByteConsumed}
use Rattle.bucket_discrete.specs.DiscreteBucket.{discrete_try_consume}
use Rattle.bucket_bytes.specs.ByteBucket.{byte_level, byte_try_consume}
use Rattle.peer_settings.specs.declared.config.PeerMessagePolicyConfig.{PeerMessagePolicyConfig}
use Rattle.peer_state.specs.declared.entry.Level.{Level}
use Rattle.peer_state.specs.declared.entry.ViolationWindow.{ViolationWindow}
use Rattle.peer_state.specs.declared.entry.PeerMessagePolicyEntry.{PeerMessagePolicyEntry}
use Rattle.peer_state.specs.declared.ingress.FiberIngressBudget.{FiberIngressBudget}
use Rattle.peer_verdict.specs.declared.verdict.Shortage.TheVariants as Shortage
use Rattle.peer_verdict.specs.declared.verdict.Cause.{Cause}
use Rattle.peer_verdict.specs.declared.verdict.InvalidCause.TheVariants as InvalidCause
use Rattle.peer_verdict.specs.declared.verdict.Decision.{Decision}
use Rattle.peer_verdict.specs.declared.verdict.InvalidDecision.{InvalidDecision}
use Rattle.peer_settings.specs.Config.{message_limit_disabled, ban_disabled, bytes_of}
use Rattle.peer_state.specs.Entry.{level, window_record, entry_ban, entry_used}

-- ════ The two buckets, on copies ════

-- try_consume, as the Rust's bool: whether the bucket passes
abbrev pub passes : Result (Unit {0}) NotGiven → Bool
passes (Ok tt) = true
passes (Err (NotGiven.Short k)) = false
passes (Err (NotGiven.Refused n)) = false

-- by how much the bucket falls short, where it says no
abbrev pub missing : Result (Unit {0}) NotGiven → ℕ
missing (Ok tt) = 0
missing (Err (NotGiven.Short k)) = k
missing (Err (NotGiven.Refused n)) = 0

-- the message bucket of an entry, and what the entry keeps of it
abbrev pub message_bucket : PeerMessagePolicyConfig → Level → DiscreteTokenBucket
message_bucket c l =
    record {
      interval_ms = c.peer_message_interval_ms;
      capacity = c.peer_message_burst;
      available = l.available;
      last_refill_ms = l.last_refill_ms;
    }

abbrev pub messages_left : DiscreteTokenBucket → Level
messages_left b = level b.available b.last_refill_ms

-- the byte bucket of an entry, and what the entry keeps of it
abbrev pub byte_bucket : PeerMessagePolicyConfig → Level → ByteTokenBucket
byte_bucket c l = byte_level (bytes_of c) (pos l.available) l.last_refill_ms

abbrev pub bytes_left : ByteTokenBucket → Level
bytes_left b = level (natural (value b.available_bytes)) b.last_refill_ms

-- one message out of the message bucket, which is passed by where the limit is off
unfoldable pub take_message : PeerMessagePolicyConfig → Level → ℕ → DiscreteConsumed
take_message c l now =
    cond (message_limit_disabled c) (record { state = message_bucket c l; answer = Ok tt })
    (discrete_try_consume (message_bucket c l) now)

-- the message's bytes out of the byte bucket; on plain naturals: `NaturalLaws.try_consume_natural` of bucket_bytes
unfoldable pub take_bytes : PeerMessagePolicyConfig → Level → ℕ → ℕ → ByteConsumed
take_bytes c l size now = byte_try_consume (byte_bucket c l) size now

-- ════ The decision ════

-- the entry with this rate window
abbrev pub with_rate_window : PeerMessagePolicyEntry → ViolationWindow → PeerMessagePolicyEntry
with_rate_window e w =
    record {
      messages = e.messages;
      bytes = e.bytes;
      rate_limit_violations = w;
      invalid_messages = e.invalid_messages;
      ban = e.ban;
      last_used_ms = e.last_used_ms;
    }

-- the entry with this window of invalid messages
abbrev pub with_invalid_window : PeerMessagePolicyEntry → ViolationWindow → PeerMessagePolicyEntry
with_invalid_window e w =
    record {
      messages = e.messages;
      bytes = e.bytes;
      rate_limit_violations = e.rate_limit_violations;
      invalid_messages = w;
      ban = e.ban;
      last_used_ms = e.last_used_ms;
    }

-- the entry with the charged copies of its buckets
abbrev pub with_buckets : PeerMessagePolicyEntry → DiscreteTokenBucket → ByteTokenBucket → PeerMessagePolicyEntry
with_buckets e m b =
    record {
      messages = messages_left m;
      bytes = bytes_left b;
      rate_limit_violations = e.rate_limit_violations;
      invalid_messages = e.invalid_messages;
      ban = e.ban;
      last_used_ms = e.last_used_ms;
    }

-- whether a window's count begins a ban; a threshold of 0 never does
abbrev pub reaches_ban : PeerMessagePolicyConfig → ViolationWindow → Bool
reaches_ban c w = not (ban_disabled c) && leb c.violation_ban_threshold w.count

-- a bucket fell short: the copies are thrown away and the violation is counted
unfoldable pub violated : PeerMessagePolicyConfig → FiberIngressBudget → PeerMessagePolicyEntry → ℕ → Cause → Decision
violated c i e now cause =
    let w = window_record e.rate_limit_violations now c.ban_duration_ms
    in cond (reaches_ban c w)
    (record { cause = Cause.BanBegun; entry = entry_ban (with_rate_window e w) now c.ban_duration_ms; ingress = i })
    (record { cause = cause; entry = with_rate_window e w; ingress = i })

-- both buckets pass, and `charged` is the entry after their takes: the ceiling decides; where it has no room the copies are thrown away,
-- and no violation is counted
abbrev pub ceiling_decides : FiberIngressBudget → PeerMessagePolicyEntry → PeerMessagePolicyEntry → Result FiberIngressBudget NotReserved → Decision
ceiling_decides i e charged (Ok after) = record { cause = Cause.Allowed; entry = charged; ingress = after }
ceiling_decides i e charged (Err NotReserved.NoSlot) = record { cause = Cause.Short Shortage.Slot; entry = e; ingress = i }
ceiling_decides i e charged (Err (NotReserved.BytesShort k)) = record { cause = Cause.Short (Shortage.CeilingBytes k); entry = e; ingress = i }
ceiling_decides i e charged (Err (NotReserved.Refused n)) = record { cause = Cause.Refused n; entry = e; ingress = i }

-- an entry whose windows are expired and whose last use is now: the message bucket, the byte bucket, the ceiling, in this order; the
-- room that the ceiling has is given
abbrev pub weighed_in : PeerMessagePolicyConfig → FiberIngressBudget → PeerMessagePolicyEntry → ℕ → ℕ → Result FiberIngressBudget NotReserved → Decision
weighed_in c i e size now reservation =
    let m = take_message c e.messages now
    in let b = take_bytes c e.bytes size now
    in cond (passes m.answer)
    (cond (passes b.answer)
    (ceiling_decides i e (with_buckets e m.state b.state) reservation)
    (violated c i e now (Cause.Short (Shortage.Bytes (missing b.answer)))))
    (violated c i e now (Cause.Short Shortage.Messages))

-- admit on an entry that is not banned, with what the ceiling says to the message
unfoldable pub decision : PeerMessagePolicyConfig → FiberIngressBudget → PeerMessagePolicyEntry → ℕ → ℕ → Result FiberIngressBudget NotReserved → Decision
decision c i e size now reservation = weighed_in c i (entry_used e now c.ban_duration_ms) size now reservation

-- an invalid message counted on an entry whose windows are expired and whose last use is now
unfoldable pub noted : PeerMessagePolicyConfig → PeerMessagePolicyEntry → ℕ → InvalidDecision
noted c e now =
    let w = window_record e.invalid_messages now c.ban_duration_ms
    in cond (reaches_ban c w)
    (record { cause = InvalidCause.BanBegun; entry = entry_ban (with_invalid_window e w) now c.ban_duration_ms })
    (record { cause = InvalidCause.Noted; entry = with_invalid_window e w })

-- record_invalid on an entry that is not banned
unfoldable pub invalid_decision : PeerMessagePolicyConfig → PeerMessagePolicyEntry → ℕ → InvalidDecision
invalid_decision c e now = noted c (entry_used e now c.ban_duration_ms) now

-- whether a cause is a refusal
abbrev pub refuses : Cause → Bool
refuses Cause.Allowed = false
refuses (Cause.Short shortage) = false
refuses Cause.LiveBan = false
refuses Cause.BanBegun = false
refuses (Cause.Refused n) = true
