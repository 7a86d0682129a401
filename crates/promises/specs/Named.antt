-- Which limit admit names, and where: what `named` speaks of. Definitions only.
use Rattle.std.specs.Prelude.{◌≡◌, Bool, true, false, cond, List, ◌∷◌, ℕ, ◌≤◌}
use Rattle.std.proofs.Math.Option.{Option, none, some}
use Rattle.std.specs.Prelude.{Result, Ok, Err}
use Rattle.peer_state.specs.declared.ingress.NotReserved.{NotReserved}
use Rattle.peer_state.specs.declared.ingress.NotReserved.TheVariants as NotReserved
use Rattle.peer_state.specs.declared.ingress.FiberIngressBudget.{FiberIngressBudget}
use Rattle.pubkey.specs.declared.Pubkey.{Pubkey}
use Rattle.table.specs.Table.{look}
use Rattle.peer_settings.specs.declared.config.PeerMessagePolicyConfig.{PeerMessagePolicyConfig}
use Rattle.peer_state.specs.declared.entry.PeerMessagePolicyEntry.{PeerMessagePolicyEntry}
use Rattle.peer_state.specs.Entry.{entry_new, entry_is_spent}
use Rattle.peer_state.specs.Ingress.{try_reserve}
use Rattle.peer_verdict.specs.declared.verdict.Shortage.TheVariants as Shortage
use Rattle.peer_verdict.specs.declared.verdict.Cause.{Cause}
use Rattle.peer_verdict.specs.Verdict.{passes, take_message, take_bytes}
use Rattle.peer_verdict.specs.Causes.{ceiling, limit_named}
use Rattle.peer_message_policy.specs.declared.policy.PeerMessagePolicy.{PeerMessagePolicy}
use Rattle.peer_message_policy.specs.Policy.{rows_of, is_banned}
use Rattle.peer_runs.specs.Runs.{Call, admit, State, Run}
use Rattle.promises.specs.Lives.{last_used}
use Rattle.promises.specs.RunLives.{Ordered, Shielded, entry_in}

-- ════ Where the ceiling is named ════

-- the entry that a message is judged on: the peer's own, or a new one where it has none or one whose ban is spent
abbrev pub judged_on : PeerMessagePolicyConfig → Option PeerMessagePolicyEntry → ℕ → PeerMessagePolicyEntry
judged_on c none now = entry_new c now
judged_on c (some e) now = cond (entry_is_spent e now) (entry_new c now) e

-- both buckets of an entry let a message pass
pub record BucketsPass (c : PeerMessagePolicyConfig) (e : PeerMessagePolicyEntry) (size now : ℕ) : Type 0 where
  pub messages : passes (take_message c e.messages now).answer ≡ true
  pub bytes : passes (take_bytes c e.bytes size now).answer ≡ true

-- the ceiling has no room: no slot, or too few bytes
abbrev pub NoRoom : Result FiberIngressBudget NotReserved → Type 0
NoRoom (Ok after) = ⊥
NoRoom (Err NotReserved.NoSlot) = Unit {0}
NoRoom (Err (NotReserved.BytesShort k)) = Unit {0}
NoRoom (Err (NotReserved.Refused n)) = ⊥

-- we were busy: no ban on the peer is live, both buckets pass, and the ceiling has no room
pub record Busy (p : PeerMessagePolicy) (s : List ℕ) (k : Pubkey) (size now : ℕ) : Type 0 where
  pub not_banned : is_banned (look k.bytes (rows_of p s)) now ≡ false
  pub buckets : BucketsPass p.config (judged_on p.config (look k.bytes (rows_of p s)) now) size now
  pub no_room : NoRoom (try_reserve p.config p.ingress size)

-- the ceiling is named exactly there
pub record NamedWhere (p : PeerMessagePolicy) (s : List ℕ) (k : Pubkey) (size now : ℕ) (cause : Cause) : Type 0 where
  pub busy : limit_named cause ≡ some ceiling → Busy p s k size now
  pub named : Busy p s k size now → limit_named cause ≡ some ceiling

-- ════ Whom a cause blames ════

-- whether it blames the peer: its messages or its bytes ran short, or it is banned
abbrev pub blames : Cause → Bool
blames Cause.Allowed = false
blames (Cause.Short Shortage.Messages) = true
blames (Cause.Short (Shortage.Bytes k)) = true
blames (Cause.Short Shortage.Slot) = false
blames (Cause.Short (Shortage.CeilingBytes k)) = false
blames Cause.LiveBan = true
blames Cause.BanBegun = true
blames (Cause.Refused n) = false

-- the times that `least` or `shielded` asks for: those of all calls never go back, this one's included; or those of this peer's own admits
-- and record_invalids never lie before its last-used time, this one's included
pub data InTime {c : PeerMessagePolicyConfig} {h : List Call} {s : State} (run : Run c h s) (k : Pubkey) (size now : ℕ) : Type 0 where
  ordered : Ordered (admit k size now ∷ h) → InTime run k size now
  shielded : Shielded k run → last_used (entry_in s k) ≤ now → InTime run k size now
