-- The public calls: what each contract says of a call's answer and of every lent byte, for all arguments. Definitions only.
-- A call on an unsound state or memory is refused with 3 and changes nothing.
use Rattle.std.specs.Prelude.{◌≡◌, cond, List, [], ℕ, Result, Ok, Err, Bool}
use Rattle.refusal.specs.declared.Refusal.{Refusal}
use Rattle.pubkey.specs.declared.Pubkey.{Pubkey}
use Rattle.refusal.specs.Refusal.{Said, gives, refused, number_of}
use Rattle.bucket_terms.specs.Answers.{told, told_says, delay_says}
use Rattle.table.specs.Outcome.{Outcome, Meets}
use Rattle.gossip_outbound_rows.specs.declared.entry.OutboundEntry.{OutboundEntry}
use Rattle.gossip_outbound_rows.specs.Rows.{outbound_layout}
use Rattle.gossip_outbound_state.specs.declared.state.Outbound.{Outbound}
use Rattle.gossip_outbound.specs.Handed.{OutboundTold, OutboundReserved, OutboundSettled}
use Rattle.gossip_outbound_state.specs.State.{rows_of, sound}
use Rattle.gossip_outbound.specs.Outbound.{refuse, outbound_told, outbound_reserved, outbound_settled, allow, reserve, refund, removed, estimate, bypasses}

-- ════ What the answers say ════

-- 1 for yes, 0 for no
abbrev pub outbound_told_says : OutboundTold → Said
outbound_told_says r = told_says r.answer

-- the milliseconds
abbrev pub outbound_reserved_says : OutboundReserved → Said
outbound_reserved_says r = delay_says r.answer

-- nothing more
abbrev pub settled_says : Result (Unit {0}) Refusal → Said
settled_says (Ok tt) = gives []
settled_says (Err n) = refused (number_of n)

-- nothing more
abbrev pub outbound_settled_says : OutboundSettled → Said
outbound_settled_says r = settled_says r.answer

-- ════ The calls ════

-- allow_outbound_message
unfoldable pub allow_outcome : Outbound → List ℕ → Pubkey → ℕ → ℕ → Outcome OutboundEntry OutboundTold
allow_outcome o s k bytes now =
    cond (sound o s) (allow o k.bytes bytes now (rows_of o s)) (refuse (outbound_told o (Err Refusal.Unsound)))

unfoldable pub AllowMeets : Outbound → List ℕ → Pubkey → ℕ → ℕ → OutboundTold → List ℕ → Type 0
AllowMeets o before k bytes now r after = Meets outbound_layout r before after o.rows (allow_outcome o before k bytes now)

-- reserve_outbound_message
unfoldable pub reserve_outcome : Outbound → List ℕ → Pubkey → ℕ → ℕ → Outcome OutboundEntry OutboundReserved
reserve_outcome o s k bytes now =
    cond (sound o s) (reserve o k.bytes bytes now (rows_of o s)) (refuse (outbound_reserved o (Err Refusal.Unsound)))

unfoldable pub ReserveMeets : Outbound → List ℕ → Pubkey → ℕ → ℕ → OutboundReserved → List ℕ → Type 0
ReserveMeets o before k bytes now r after = Meets outbound_layout r before after o.rows (reserve_outcome o before k bytes now)

-- refund_outbound_message
unfoldable pub refund_outcome : Outbound → List ℕ → Pubkey → ℕ → ℕ → Outcome OutboundEntry OutboundSettled
refund_outcome o s k bytes now =
    cond (sound o s) (refund o k.bytes bytes now (rows_of o s)) (refuse (outbound_settled o (Err Refusal.Unsound)))

unfoldable pub RefundMeets : Outbound → List ℕ → Pubkey → ℕ → ℕ → OutboundSettled → List ℕ → Type 0
RefundMeets o before k bytes now r after = Meets outbound_layout r before after o.rows (refund_outcome o before k bytes now)

-- remove_outbound_peer
unfoldable pub remove_outcome : Outbound → List ℕ → Pubkey → Outcome OutboundEntry OutboundSettled
remove_outcome o s k =
    cond (sound o s) (removed o k.bytes (rows_of o s)) (refuse (outbound_settled o (Err Refusal.Unsound)))

unfoldable pub RemoveMeets : Outbound → List ℕ → Pubkey → OutboundSettled → List ℕ → Type 0
RemoveMeets o before k r after = Meets outbound_layout r before after o.rows (remove_outcome o before k)

-- the two that change nothing are lent the memory to read
unfoldable pub EstimateMeets : Outbound → List ℕ → Pubkey → ℕ → ℕ → Result ℕ Refusal → Type 0
EstimateMeets o s k bytes now r =
    r ≡ cond (sound o s) (Ok (estimate o k.bytes bytes now (rows_of o s))) (Err Refusal.Unsound)

unfoldable pub BypassMeets : Outbound → List ℕ → Pubkey → ℕ → ℕ → Result Bool Refusal → Type 0
BypassMeets o s k bytes now r =
    r ≡ cond (sound o s) (told (bypasses o k.bytes bytes now (rows_of o s))) (Err Refusal.Unsound)
