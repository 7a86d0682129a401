-- The state of the outbound half of GossipPolicyState of gossip_policy.rs: its soundness, a peer's bucket among its rows, and what is
-- done with two buckets. Definitions only.
use Rattle.std.specs.Prelude.{Bool, false, ◌&&◌, ◌||◌, not, cond, List, ℕ, max, leb, ltb, Result, Option, None, Some}
use Rattle.std.proofs.Math.Option.{Option as Found, none, some}
use Rattle.std.specs.Result.{is_ok, result_unwrap_or}
use Rattle.refusal.specs.declared.Refusal.{Refusal}
use Rattle.bucket_terms.specs.declared.answer.NotGiven.{NotGiven}
use Rattle.table.specs.Memory.{rows}
use Rattle.table_laws.specs.Lent.{lent_sound}
use Rattle.bucket_terms.specs.declared.limit.ByteRateLimitConfig.{ByteRateLimitConfig}
use Rattle.bucket_terms.specs.Limit.{byte_disabled}
use Rattle.bucket_bytes.specs.declared.bytes.ByteTokenBucket.{ByteTokenBucket}
use Rattle.bucket_bytes.specs.ByteBucket.{byte_sound, byte_new, byte_try_consume, byte_reserve, byte_peek_delay_after_refill, byte_has_debt}
use Rattle.gossip_outbound_rows.specs.declared.entry.OutboundEntry.{OutboundEntry}
use Rattle.gossip_outbound_rows.specs.Entry.{bucket_of}
use Rattle.gossip_outbound_rows.specs.Rows.{Buckets, outbound_layout, outbound_sound}
use Rattle.gossip_outbound_state.specs.declared.state.Outbound.{Outbound}
use Rattle.gossip_outbound_state.specs.declared.charge.Charged.{Charged}
use Rattle.gossip_outbound_state.specs.declared.charge.Promised.{Promised}

-- how many rows there are at most, one a peer
abbrev pub max_rows : ℕ
max_rows = 1024

-- the rows that a state has in lent memory
abbrev pub rows_of : Outbound → List ℕ → Buckets
rows_of o s = rows outbound_layout s o.rows

-- ════ Soundness ════

-- the record's own rules: no more rows than the most, and a global bucket that is sound
unfoldable pub own_sound : Outbound → Bool
own_sound o = leb o.rows max_rows && byte_sound o.global_outbound

-- a state and the memory lent to it
abbrev pub sound : Outbound → List ℕ → Bool
sound o s = lent_sound outbound_layout (outbound_sound o.peer_outbound_config) (own_sound o) max_rows s o.rows

-- ════ A peer's bucket ════

-- unwrap_or_else, or_insert_with: what was found, or a new bucket
abbrev pub bucket_or_fresh : ByteRateLimitConfig → Found OutboundEntry → ByteTokenBucket
bucket_or_fresh c none = byte_new c
bucket_or_fresh c (some e) = bucket_of c e

-- whether a row would have to be made and all are taken
abbrev pub full : ℕ → Found OutboundEntry → Bool
full n none = leb max_rows n
full n (some e) = false

-- ════ Two buckets ════

-- whether a bucket gave what was asked
abbrev pub is_yes : Result (Unit {0}) NotGiven → Bool
is_yes = is_ok

-- the milliseconds of a delay
abbrev pub wait_of : Result ℕ Refusal → ℕ
wait_of a = result_unwrap_or a 0

-- two buckets that gave
abbrev pub charged : ByteTokenBucket → ByteTokenBucket → Charged
charged g p = record { global = g; peer = p }

-- copies of both buckets are asked, the global one first; where one says no, nothing is charged
unfoldable pub charge_both : ByteTokenBucket → ByteTokenBucket → ℕ → ℕ → Option Charged
charge_both g p bytes now =
    cond (is_yes (byte_try_consume g bytes now).answer)
    (cond (is_yes (byte_try_consume p bytes now).answer)
    (Some (charged (byte_try_consume g bytes now).state (byte_try_consume p bytes now).state))
    None)
    None

-- both buckets promise the bytes; the longer of the two delays, each of which is cut to 64 bits already
unfoldable pub promise_both : ByteTokenBucket → ByteTokenBucket → ℕ → ℕ → Promised
promise_both g p bytes now =
    record {
      global = (byte_reserve g bytes now).state;
      peer = (byte_reserve p bytes now).state;
      delay_ms = max (wait_of (byte_reserve g bytes now).answer) (wait_of (byte_reserve p bytes now).answer);
    }

-- whether the bytes are more than a full bucket of these settings has, where the limit is on
abbrev pub exceeds_burst : ByteRateLimitConfig → ℕ → Bool
exceeds_burst c bytes = not (byte_disabled c) && ltb c.burst_bytes bytes

-- outbound_message_exceeds_single_message_capacity
abbrev pub exceeds : Outbound → ℕ → Bool
exceeds o bytes = exceeds_burst o.global_outbound.config bytes || exceeds_burst o.peer_outbound_config bytes

-- ════ What is asked of a peer's bucket ════

-- the delay of a peer's bucket, 0 where it has none
abbrev pub peer_delay : ByteRateLimitConfig → ℕ → ℕ → Found OutboundEntry → ℕ
peer_delay c bytes now none = 0
peer_delay c bytes now (some e) = byte_peek_delay_after_refill (bucket_of c e) bytes now

-- whether a peer's bucket is in debt: one that it has not is not
abbrev pub peer_debt : ByteRateLimitConfig → ℕ → Found OutboundEntry → Bool
peer_debt c now none = false
peer_debt c now (some e) = byte_has_debt (bucket_of c e) now

-- ════ The state after a call ════

-- the state with this global bucket and so many rows
abbrev pub outbound_with : Outbound → ByteTokenBucket → ℕ → Outbound
outbound_with o g n = record { global_outbound = g; peer_outbound_config = o.peer_outbound_config; rows = n }
