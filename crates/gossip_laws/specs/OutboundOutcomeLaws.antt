-- At most one outcome for each outbound call: one answer, and one memory after it. Assumes nothing.
use Rattle.std.specs.Prelude.{◌≡◌, Bool, List, ℕ, Result}
use Rattle.refusal.specs.declared.Refusal.{Refusal}
use Rattle.pubkey.specs.declared.Pubkey.{Pubkey}
use Rattle.refusal.specs.OneOutcomeLaws.{one_outcome}
use Rattle.table.specs.OutcomeLaws.{one_meets}
use Rattle.gossip_outbound_state.specs.declared.state.Outbound.{Outbound}
use Rattle.gossip_outbound_state.specs.State.{exceeds}
use Rattle.gossip_outbound.specs.Handed.{OutboundTold, OutboundReserved, OutboundSettled}
use Rattle.gossip_outbound.specs.Calls.{AllowMeets, EstimateMeets, RemoveMeets, ReserveMeets, RefundMeets, BypassMeets}

module _ (o : Outbound) (before : List ℕ) (k : Pubkey) {first second : List ℕ} where
  pub allow_outcome_lem : (bytes now : ℕ) {r q : OutboundTold} → AllowMeets o before k bytes now r first → AllowMeets o before k bytes now q second
      → (r ≡ q) × (first ≡ second)
  unfolding AllowMeets
  allow_outcome_lem bytes now = one_meets

  pub remove_outcome_lem : {r q : OutboundSettled} → RemoveMeets o before k r first → RemoveMeets o before k q second → (r ≡ q) × (first ≡ second)
  unfolding RemoveMeets
  remove_outcome_lem = one_meets

  pub reserve_outcome_lem : (bytes now : ℕ) {r q : OutboundReserved} → ReserveMeets o before k bytes now r first
      → ReserveMeets o before k bytes now q second → (r ≡ q) × (first ≡ second)
  unfolding ReserveMeets
  reserve_outcome_lem bytes now = one_meets

  pub refund_outcome_lem : (bytes now : ℕ) {r q : OutboundSettled} → RefundMeets o before k bytes now r first
      → RefundMeets o before k bytes now q second → (r ≡ q) × (first ≡ second)
  unfolding RefundMeets
  refund_outcome_lem bytes now = one_meets

-- the calls that are lent the memory to read
module _ (o : Outbound) (s : List ℕ) (k : Pubkey) (bytes now : ℕ) where
  pub estimate_outcome : {r q : Result ℕ Refusal} → EstimateMeets o s k bytes now r → EstimateMeets o s k bytes now q → r ≡ q
  unfolding EstimateMeets
  estimate_outcome = one_outcome

  pub bypass_outcome : {r q : Result Bool Refusal} → BypassMeets o s k bytes now r → BypassMeets o s k bytes now q → r ≡ q
  unfolding BypassMeets
  bypass_outcome = one_outcome

-- the one that reads settings alone
pub exceeds_outcome : (o : Outbound) (bytes : ℕ) {r q : Bool} → r ≡ exceeds o bytes → q ≡ exceeds o bytes → r ≡ q
exceeds_outcome o bytes = one_outcome
