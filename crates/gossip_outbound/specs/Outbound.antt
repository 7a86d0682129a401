-- The calls of the outbound half of GossipPolicyState of gossip_policy.rs, on a state and a list of rows. Definitions only.
use Rattle.std.specs.Prelude.{Bool, false, not, cond, List, ℕ, max, Result, Ok, Err, Option, None, Some, true}
use Rattle.refusal.specs.declared.Refusal.{Refusal}
use Rattle.table.specs.Table.{look, store, erase}
use Rattle.table.specs.Outcome.{Change, same, become, count_after, Outcome}
use Rattle.bucket_terms.specs.Limit.{byte_disabled}
use Rattle.bucket_bytes.specs.declared.bytes.ByteTokenBucket.{ByteTokenBucket}
use Rattle.bucket_bytes.specs.ByteBucket.{byte_peek_delay_after_refill, byte_refund, byte_has_debt}
use Rattle.gossip_outbound_rows.specs.declared.entry.OutboundEntry.{OutboundEntry}
use Rattle.gossip_outbound_rows.specs.Entry.{entry_of}
use Rattle.gossip_outbound_rows.specs.Rows.{Buckets}
use Rattle.gossip_outbound_state.specs.declared.state.Outbound.{Outbound}
use Rattle.gossip_outbound_state.specs.declared.charge.Charged.{Charged}
use Rattle.gossip_outbound_state.specs.declared.charge.Promised.{Promised}
use Rattle.gossip_outbound.specs.Handed.{OutboundTold, OutboundReserved, OutboundSettled}
use Rattle.gossip_outbound_state.specs.State.{bucket_or_fresh, full, charge_both, promise_both, exceeds, peer_delay, peer_debt, outbound_with}

-- ════ What a call leaves ════

-- an answer, and what becomes of the rows
abbrev pub turn : {R : Type 0} → R → Change OutboundEntry → Outcome OutboundEntry R
turn answer change = record { answer = answer; change = change }

-- an answer and no change
abbrev pub refuse : {R : Type 0} → R → Outcome OutboundEntry R
refuse answer = turn answer same

-- the state, and yes or no
abbrev pub outbound_told : Outbound → Result Bool Refusal → OutboundTold
outbound_told o answer = record { state = o; answer = answer }

-- the state, and a delay
abbrev pub outbound_reserved : Outbound → Result ℕ Refusal → OutboundReserved
outbound_reserved o answer = record { state = o; answer = answer }

-- the state, and that the call was carried out
abbrev pub outbound_settled : Outbound → Result (Unit {0}) Refusal → OutboundSettled
outbound_settled o answer = record { state = o; answer = answer }

-- ════ The calls, on rows ════

-- the rows with this bucket under a peer's key
abbrev pub kept : List ℕ → ByteTokenBucket → Buckets → Buckets
kept k b rs = store k (entry_of b) rs

-- allow_outbound_message, once both buckets were asked: 5 where both gave and there is no place for the row
abbrev pub allowed : Outbound → List ℕ → Buckets → Option Charged → Outcome OutboundEntry OutboundTold
allowed o k rs None = refuse (outbound_told o (Ok false))
allowed o k rs (Some both) =
    cond (full o.rows (look k rs)) (refuse (outbound_told o (Err Refusal.NoRow)))
    (turn (outbound_told (outbound_with o both.global (count_after o.rows (become (kept k both.peer rs)))) (Ok true)) (become (kept k both.peer rs)))

-- allow_outbound_message: the row is made also where the peers' limit is off
abbrev pub allow : Outbound → List ℕ → ℕ → ℕ → Buckets → Outcome OutboundEntry OutboundTold
allow o k bytes now rs =
    allowed o k rs (charge_both o.global_outbound (bucket_or_fresh o.peer_outbound_config (look k rs)) bytes now)

-- reserve_outbound_message, once both buckets have promised
abbrev pub reserved : Outbound → List ℕ → Buckets → Promised → Outcome OutboundEntry OutboundReserved
reserved o k rs both =
    cond (full o.rows (look k rs)) (refuse (outbound_reserved o (Err Refusal.NoRow)))
    (turn (outbound_reserved (outbound_with o both.global (count_after o.rows (become (kept k both.peer rs)))) (Ok both.delay_ms)) (become (kept k both.peer rs)))

-- reserve_outbound_message
abbrev pub reserve : Outbound → List ℕ → ℕ → ℕ → Buckets → Outcome OutboundEntry OutboundReserved
reserve o k bytes now rs =
    reserved o k rs (promise_both o.global_outbound (bucket_or_fresh o.peer_outbound_config (look k rs)) bytes now)

-- refund_outbound_message, with the buckets after it
abbrev pub refunded : Outbound → List ℕ → Buckets → ByteTokenBucket → ByteTokenBucket → Outcome OutboundEntry OutboundSettled
refunded o k rs g p =
    cond (byte_disabled o.peer_outbound_config) (refuse (outbound_settled (outbound_with o g o.rows) (Ok tt)))
    (cond (full o.rows (look k rs)) (refuse (outbound_settled o (Err Refusal.NoRow)))
    (turn (outbound_settled (outbound_with o g (count_after o.rows (become (kept k p rs)))) (Ok tt)) (become (kept k p rs))))

-- refund_outbound_message: where the peers' limit is off, no row is looked at or made
abbrev pub refund : Outbound → List ℕ → ℕ → ℕ → Buckets → Outcome OutboundEntry OutboundSettled
refund o k bytes now rs =
    refunded o k rs (byte_refund o.global_outbound bytes now)
    (byte_refund (bucket_or_fresh o.peer_outbound_config (look k rs)) bytes now)

-- remove_outbound_peer
abbrev pub removed : Outbound → List ℕ → Buckets → Outcome OutboundEntry OutboundSettled
removed o k rs =
    turn (outbound_settled (outbound_with o o.global_outbound (count_after o.rows (become (erase k rs)))) (Ok tt)) (become (erase k rs))

-- estimate_outbound_message_delay: the longer of two delays, each of which is cut to 64 bits already
abbrev pub estimate : Outbound → List ℕ → ℕ → ℕ → Buckets → ℕ
estimate o k bytes now rs =
    max (byte_peek_delay_after_refill o.global_outbound bytes now) (peer_delay o.peer_outbound_config bytes now (look k rs))

-- should_bypass_oversized_outbound_message
abbrev pub bypasses : Outbound → List ℕ → ℕ → ℕ → Buckets → Bool
bypasses o k bytes now rs =
    cond (exceeds o bytes)
    (cond (byte_has_debt o.global_outbound now) false (not (peer_debt o.peer_outbound_config now (look k rs))))
    false
