-- Lives and their logs: which Allows of a peer count together, read off a trail; the larger allowance and the smaller one.
-- Definitions only.
use Rattle.std.specs.Prelude.{◌≡◌, Bool, true, false, ◌&&◌, cond, List, [], ◌∷◌, ℕ, ◌+◌, ◌-◌, ◌*◌, ◌/◌, ◌≤◌, leb}
use Rattle.std.proofs.Math.Option.{Option, none, some}
use Rattle.std.specs.Prelude.{Result, Ok, Err}
use Rattle.peer_state.specs.declared.ingress.NotReserved.{NotReserved}
use Rattle.peer_state.specs.declared.ingress.NotReserved.TheVariants as NotReserved
use Rattle.peer_state.specs.declared.ingress.FiberIngressBudget.{FiberIngressBudget}
use Rattle.pubkey.specs.declared.Pubkey.{Pubkey}
use Rattle.pubkey.specs.Order.{compare_bytes}
use Rattle.refusal.specs.Refusal.{Said, gives, refused, number_of}
use Rattle.bucket_terms.specs.Limit.{byte_disabled}
use Rattle.table.specs.Table.{look, by_order}
use Rattle.peer_settings.specs.declared.config.PeerMessagePolicyConfig.{PeerMessagePolicyConfig}
use Rattle.peer_state.specs.declared.entry.PeerMessagePolicyEntry.{PeerMessagePolicyEntry}
use Rattle.peer_settings.specs.Config.{message_limit_disabled, bytes_of}
use Rattle.peer_state.specs.Entry.{entry_is_spent}
use Rattle.peer_verdict.specs.declared.verdict.Shortage.TheVariants as Shortage
use Rattle.peer_verdict.specs.declared.verdict.Cause.{Cause}
use Rattle.peer_verdict.specs.Causes.{cause_says}
use Rattle.peer_message_policy.specs.Calls.{is_allow}
use Rattle.promises.specs.Trails.{CoreCall, admit, record_invalid, is_banned, on_disconnected, Event, rows_at}

-- ════ A peer's own calls ════

-- whether two keys are the same
abbrev pub same_key : Pubkey → Pubkey → Bool
same_key a b = by_order (compare_bytes a.bytes b.bytes) false true false

-- what a call is to a peer: a message of its own, an invalid message of its own, or neither
pub data Own : Type 0 where
  message : (size now : ℕ) → Own
  invalid : (now : ℕ) → Own
  neither : Own

abbrev pub own_of : Pubkey → CoreCall → Own
own_of k (admit peer size now reservation) = cond (same_key k peer) (message size now) neither
own_of k (record_invalid peer now) = cond (same_key k peer) (invalid now) neither
own_of k (is_banned peer now) = neither
own_of k (on_disconnected peer now) = neither

-- the time of a call of the peer's own is such a time
abbrev pub OwnTime : (ℕ → Type 0) → Own → Type 0
OwnTime Such (message size now) = Such now
OwnTime Such (invalid now) = Such now
OwnTime Such neither = Unit {0}

-- ════ A life and its log ════

-- one Allow: when, and how many bytes
pub record Allow : Type 0 where
  pub time : ℕ
  pub size : ℕ

-- whether a call at this time that lands on the peer begins a new life: it has no entry, or one whose ban is spent
abbrev pub made_anew : Option PeerMessagePolicyEntry → ℕ → Bool
made_anew none now = true
made_anew (some e) now = entry_is_spent e now

-- the log of the life that a call at this time lands in
abbrev pub log_for : Option PeerMessagePolicyEntry → ℕ → List Allow → List Allow
log_for found now log = cond (made_anew found now) [] log

-- what a call says adds to a log: an Allow, or nothing
abbrev pub logged : Said → Allow → List Allow → List Allow
logged said z log = cond (is_allow said) (z ∷ log) log

-- the log of an entry; a dropped one has none
abbrev pub kept_log : Option PeerMessagePolicyEntry → List Allow → List Allow
kept_log none log = []
kept_log (some e) log = log

-- the log of a peer's life after a call that found this entry and left that one
abbrev pub log_after : Own → (found left : Option PeerMessagePolicyEntry) → Said → List Allow → List Allow
log_after (message size now) found left said log =
    kept_log left (logged said (record { time = now; size = size }) (log_for found now log))
log_after (invalid now) found left said log = kept_log left (log_for found now log)
log_after neither found left said log = kept_log left log

-- the Allows of a peer's present life, the newest first
unfoldable pub log_in : Pubkey → List Event → List Allow
log_in k [] = []
log_in k (e ∷ es) =
    log_after (own_of k e.call) (look k.bytes (rows_at es)) (look k.bytes e.rows) e.said (log_in k es)

-- a peer's last-used time; 0 without an entry
abbrev pub last_used : Option PeerMessagePolicyEntry → ℕ
last_used none = 0
last_used (some e) = e.last_used_ms

-- a peer's own admits and record_invalids never lie before its last-used time, however all other times run
unfoldable pub ShieldedIn : Pubkey → List Event → Type 0
ShieldedIn k [] = Unit {0}
ShieldedIn k (e ∷ es) = OwnTime (λ now. last_used (look k.bytes (rows_at es)) ≤ now) (own_of k e.call) × ShieldedIn k es

-- ════ The upper bound ════

-- whether an Allow lies from one time to another, both included
abbrev pub within : ℕ → ℕ → Allow → Bool
within from to z = leb from z.time && leb z.time to

-- how many Allows lie there
unfoldable pub allows : ℕ → ℕ → List Allow → ℕ
allows from to [] = 0
allows from to (z ∷ log) = cond (within from to z) 1 0 + allows from to log

-- how many bytes they carry
unfoldable pub bytes_allowed : ℕ → ℕ → List Allow → ℕ
bytes_allowed from to [] = 0
bytes_allowed from to (z ∷ log) = cond (within from to z) z.size 0 + bytes_allowed from to log

-- at most burst + (to - from) / interval Allows, rounded up, and burst + rate * (to - from) / 1000 bytes, rounded down
unfoldable pub AtMost : PeerMessagePolicyConfig → List Allow → Type 0
AtMost c log =
    (from to : ℕ)
    → (message_limit_disabled c ≡ false → allows from to log ≤ c.peer_message_burst + ((to - from) + (c.peer_message_interval_ms - 1)) / c.peer_message_interval_ms)
    × (byte_disabled (bytes_of c) ≡ false → bytes_allowed from to log ≤ c.peer_message_burst_bytes + c.peer_message_rate_bytes_per_sec * (to - from) / 1000)

-- ════ The smaller allowance ════

-- n messages with b bytes, from time s to now, are within it; 999 (n - 1): each of the n - 1 refills between them is rounded down, and
-- may lose 999 thousandths of a byte
abbrev pub Allowance : PeerMessagePolicyConfig → ℕ → ℕ → ℕ → ℕ → Type 0
Allowance c now n b s =
    (message_limit_disabled c ≡ false → n ≤ c.peer_message_burst + (now - s) / c.peer_message_interval_ms)
    × (byte_disabled (bytes_of c) ≡ false → 1000 * b + 999 * (n - 1) ≤ 1000 * c.peer_message_burst_bytes + c.peer_message_rate_bytes_per_sec * (now - s))

-- counted from every Allow of the log, n of them with b bytes already counted
unfoldable pub FromEvery : PeerMessagePolicyConfig → ℕ → ℕ → ℕ → List Allow → Type 0
FromEvery c now n b [] = Unit {0}
FromEvery c now n b (z ∷ log) = Allowance c now (n + 1) (b + z.size) z.time × FromEvery c now (n + 1) (b + z.size) log

-- successive Allows, and the last one and the call, lie at most 4,294,967,295 intervals apart, in milliseconds: a refill counts the low
-- 32 bits of the intervals alone, so a longer gap could earn too little
unfoldable pub Near : ℕ → ℕ → List Allow → Type 0
Near interval t [] = Unit {0}
Near interval t (z ∷ log) = (t ≤ z.time + 4294967295 * interval) × Near interval z.time log

-- a call of this size now is within the smaller allowance of a life with this log; it is counted as if it were let in
unfoldable pub Within : PeerMessagePolicyConfig → ℕ → ℕ → List Allow → Type 0
Within c now size log =
    (message_limit_disabled c ≡ false → Near c.peer_message_interval_ms now log)
    × FromEvery c now 0 0 (record { time = now; size = size } ∷ log)

-- ════ What the ceiling says ════

-- the cause that it gives: allowed where there is room, short where there is none, refusal 4 where a number would overflow
abbrev pub ceiling_cause : Result FiberIngressBudget NotReserved → Cause
ceiling_cause (Ok after) = Cause.Allowed
ceiling_cause (Err NotReserved.NoSlot) = Cause.Short Shortage.Slot
ceiling_cause (Err (NotReserved.BytesShort k)) = Cause.Short (Shortage.CeilingBytes k)
ceiling_cause (Err (NotReserved.Refused n)) = Cause.Refused n

-- what an Allow says
abbrev pub allow : Said
allow = cause_says Cause.Allowed

-- Allow, Disconnect with the ceiling's name and by how much it ran short, or refusal 4
abbrev pub ceiling_says : Result FiberIngressBudget NotReserved → Said
ceiling_says reservation = cause_says (ceiling_cause reservation)

-- the same, merged: Allow, Disconnect or the refusal
abbrev pub ceiling_merged : Result FiberIngressBudget NotReserved → Said
ceiling_merged (Ok after) = gives (0 ∷ [])
ceiling_merged (Err NotReserved.NoSlot) = gives (1 ∷ [])
ceiling_merged (Err (NotReserved.BytesShort k)) = gives (1 ∷ [])
ceiling_merged (Err (NotReserved.Refused n)) = refused (number_of n)
