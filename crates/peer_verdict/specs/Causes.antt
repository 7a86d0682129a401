-- What a cause says, by one table of numbers and values; and which limit it names. Definitions only.
use Rattle.std.specs.Prelude.{[], ◌∷◌}
use Rattle.std.proofs.Math.Option.{Option, none, some}
use Rattle.refusal.specs.Refusal.{Said, gives, refused, number_of}
use Rattle.peer_verdict.specs.declared.verdict.Shortage.{Shortage}
use Rattle.peer_verdict.specs.declared.verdict.Cause.{Cause}
use Rattle.peer_verdict.specs.declared.verdict.InvalidCause.{InvalidCause}

-- of a message: the Rust's answer (0 Allow, 1 Disconnect, 2 Ban), the cause (0 to 6), and by how much its limit ran short: one message,
-- bytes, one slot, bytes under the ceiling; 0 where none did
abbrev pub cause_says : Cause → Said
cause_says Cause.Allowed = gives (0 ∷ 0 ∷ 0 ∷ [])
cause_says (Cause.Short Shortage.Messages) = gives (1 ∷ 1 ∷ 1 ∷ [])
cause_says (Cause.Short (Shortage.Bytes k)) = gives (1 ∷ 2 ∷ k ∷ [])
cause_says (Cause.Short Shortage.Slot) = gives (1 ∷ 3 ∷ 1 ∷ [])
cause_says (Cause.Short (Shortage.CeilingBytes k)) = gives (1 ∷ 4 ∷ k ∷ [])
cause_says Cause.LiveBan = gives (2 ∷ 5 ∷ 0 ∷ [])
cause_says Cause.BanBegun = gives (2 ∷ 6 ∷ 0 ∷ [])
cause_says (Cause.Refused n) = refused (number_of n)

-- of an invalid message: 1 for banned, 0 for noted
abbrev pub invalid_cause_says : InvalidCause → Said
invalid_cause_says InvalidCause.Noted = gives (0 ∷ [])
invalid_cause_says InvalidCause.LiveBan = gives (1 ∷ [])
invalid_cause_says InvalidCause.BanBegun = gives (1 ∷ [])
invalid_cause_says (InvalidCause.Refused n) = refused (number_of n)

-- the three limits, in the order in which they decide
pub data Limit : Type 0 where
  messages : Limit
  bytes : Limit
  ceiling : Limit

-- the limit that ran short; the ceiling by a slot or by bytes
abbrev pub limit_of : Shortage → Limit
limit_of Shortage.Messages = messages
limit_of (Shortage.Bytes k) = bytes
limit_of Shortage.Slot = ceiling
limit_of (Shortage.CeilingBytes k) = ceiling

-- the limit that a cause names
abbrev pub limit_named : Cause → Option Limit
limit_named Cause.Allowed = none
limit_named (Cause.Short shortage) = some (limit_of shortage)
limit_named Cause.LiveBan = none
limit_named Cause.BanBegun = none
limit_named (Cause.Refused n) = none
