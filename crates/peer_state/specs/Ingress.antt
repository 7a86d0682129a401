-- FiberIngressBudget of peer_message_policy.rs: the load in flight and its ceiling. Definitions only.
use Rattle.std.specs.Prelude.{Bool, ◌&&◌, ◌||◌, cond, List, ◌++◌, ℕ, ◌+◌, ◌-◌, ltb, leb, eqb, Result, Ok, Err, codes, decimal}
use Rattle.refusal.specs.Refusal.{text_of}
use Rattle.peer_state.specs.declared.ingress.NotReserved.{NotReserved}
use Rattle.peer_state.specs.declared.ingress.NotReserved.TheVariants as NotReserved
use Rattle.refusal.specs.declared.Refusal.TheVariants as Refusal
use Rattle.peer_settings.specs.declared.config.PeerMessagePolicyConfig.{PeerMessagePolicyConfig}
use Rattle.peer_state.specs.declared.ingress.FiberIngressBudget.{FiberIngressBudget}
use Rattle.peer_settings.specs.Config.{unlimited}

abbrev pub in_flight : ℕ → ℕ → FiberIngressBudget
in_flight messages bytes = record { in_flight_messages = messages; in_flight_bytes = bytes }

-- the load with one message of this size more
abbrev pub ingress_reserved : FiberIngressBudget → ℕ → FiberIngressBudget
ingress_reserved i size = in_flight (i.in_flight_messages + 1) (i.in_flight_bytes + size)

-- try_reserve: under a ceiling, a slot first, then the bytes; without one, refused where a number would leave its width (added),
-- else reserved
unfoldable pub try_reserve : PeerMessagePolicyConfig → FiberIngressBudget → ℕ → Result FiberIngressBudget NotReserved
try_reserve c i size =
    let free = c.max_in_flight_bytes - i.in_flight_bytes
    in cond (unlimited c)
    (cond (eqb i.in_flight_messages 4294967295 || ltb 18446744073709551615 (i.in_flight_bytes + size)) (Err (NotReserved.Refused Refusal.Overflow))
    (Ok (ingress_reserved i size)))
    (cond (leb c.max_in_flight_messages i.in_flight_messages) (Err NotReserved.NoSlot)
    (cond (ltb free size) (Err (NotReserved.BytesShort (size - free))) (Ok (ingress_reserved i size))))

-- release: each number by itself stops at 0
abbrev pub ingress_released : FiberIngressBudget → ℕ → FiberIngressBudget
ingress_released i size = in_flight (i.in_flight_messages - 1) (i.in_flight_bytes - size)

-- the load is within the ceiling, where there is one
abbrev pub ingress_sound : PeerMessagePolicyConfig → FiberIngressBudget → Bool
ingress_sound c i =
    unlimited c
    || (leb i.in_flight_messages c.max_in_flight_messages
    && leb i.in_flight_bytes c.max_in_flight_bytes)

-- what is shown of why there is no room
abbrev pub not_reserved_text : NotReserved → List ℕ
not_reserved_text NotReserved.NoSlot = codes "no slot in flight"
not_reserved_text (NotReserved.BytesShort by) = codes "short by " ++ (decimal by ++ codes " bytes in flight")
not_reserved_text (NotReserved.Refused r) = text_of r
