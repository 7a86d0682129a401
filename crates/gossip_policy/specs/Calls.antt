-- The public calls: what each contract says of a call's answer and of every lent byte, for all arguments. Definitions only.
-- A call on bans is that of gossip_bans on the state's tracker, a call on outbound messages that of gossip_outbound on the outbound half;
-- the other half comes back as it was.
use Rattle.std.specs.Prelude.{Bool, ◌&&◌, cond, List, [], ◌∷◌, ℕ, Result, Ok, Err, Option, None, Some}
use Rattle.refusal.specs.declared.Refusal.{Refusal}
use Rattle.refusal.specs.declared.Refusal.TheVariants as Refusal
use Rattle.pubkey.specs.declared.Pubkey.{Pubkey}
use Rattle.refusal.specs.Refusal.{Said, gives}
use Rattle.bucket_terms.specs.Answers.{told_says, delay_says}
use Rattle.table.specs.Outcome.{same, become, Outcome, Meets}
use Rattle.table_laws.specs.Lent.{long_enough}
use Rattle.gossip_settings.specs.declared.policy.GossipPolicyConfig.{GossipPolicyConfig}
use Rattle.gossip_settings.specs.declared.violation.GossipViolation.{GossipViolation}
use Rattle.gossip_settings.specs.Settings.{max_tracked_peers}
use Rattle.gossip_ban_rows.specs.Rows.{ban_layout}
use Rattle.gossip_bans.specs.Handed.{BanTold, BanPruned}
use Rattle.gossip_bans.specs.Calls as bans
use Rattle.gossip_outbound_rows.specs.Rows.{outbound_layout}
use Rattle.gossip_outbound_state.specs.State.{max_rows}
use Rattle.gossip_outbound.specs.Handed.{OutboundTold, OutboundReserved, OutboundSettled}
use Rattle.gossip_outbound.specs.Calls as outbound
use Rattle.gossip_policy.specs.declared.state.GossipPolicyState.{GossipPolicyState}
use Rattle.gossip_policy.specs.Handed.{GossipTold, GossipPruned, GossipSettled, GossipReserved}
use Rattle.gossip_policy.specs.State.{fresh, outbound_of, with_tracker, with_outbound}

-- ════ What the answers say ════

-- 1 for yes, 0 for no
abbrev pub gossip_told_says : GossipTold → Said
gossip_told_says r = told_says r.answer

abbrev pub gossip_pruned_says : GossipPruned → Said
gossip_pruned_says r = bans.pruned_says r.answer

abbrev pub gossip_settled_says : GossipSettled → Said
gossip_settled_says r = outbound.settled_says r.answer

-- the milliseconds
abbrev pub gossip_reserved_says : GossipReserved → Said
gossip_reserved_says r = delay_says r.answer

-- the bytes, or nothing where there is no limit
abbrev pub capacity_says : Option ℕ → Said
capacity_says None = gives []
capacity_says (Some n) = gives (n ∷ [])

-- ════ The answer of a half as an answer of the whole ════

-- a call on one half, whose answer is told of the whole state; what becomes of the rows is the half's
abbrev pub over : {A R P : Type 0} → (R → P) → Outcome A R → Outcome A P
over f o = record { answer = f o.answer; change = o.change }

abbrev pub ban_told : GossipPolicyState → BanTold → GossipTold
ban_told s a = record { state = with_tracker s a.state; answer = a.answer }

abbrev pub ban_pruned : GossipPolicyState → BanPruned → GossipPruned
ban_pruned s a = record { state = with_tracker s a.state; answer = a.answer }

abbrev pub outbound_told : GossipPolicyState → OutboundTold → GossipTold
outbound_told s a = record { state = with_outbound s a.state; answer = a.answer }

abbrev pub outbound_reserved : GossipPolicyState → OutboundReserved → GossipReserved
outbound_reserved s a = record { state = with_outbound s a.state; answer = a.answer }

abbrev pub outbound_settled : GossipPolicyState → OutboundSettled → GossipSettled
outbound_settled s a = record { state = with_outbound s a.state; answer = a.answer }

-- ════ Making ════

-- both tables have room for the most rows that there are
abbrev pub both_long : List ℕ → List ℕ → Bool
both_long bans outbound = long_enough ban_layout max_tracked_peers bans && long_enough outbound_layout max_rows outbound

abbrev pub settled : GossipPolicyState → Result (Unit {0}) Refusal → GossipSettled
settled s answer = record { state = s; answer = answer }

-- new, in either table: 1 where one of the two is too short, and then neither changes
unfoldable pub new_outcome : {A : Type 0} → GossipPolicyConfig → List ℕ → List ℕ → Outcome A GossipSettled
new_outcome c bans outbound =
    cond (both_long bans outbound) (record { answer = settled (fresh c) (Ok tt); change = become [] })
    (record { answer = settled (fresh c) (Err Refusal.TooShort); change = same })

-- every place of both tables is zeroed, and the bytes further on stay
unfoldable pub NewMeets : GossipPolicyConfig → List ℕ → List ℕ → GossipSettled → List ℕ → List ℕ → Type 0
NewMeets c bans outbound r bans' outbound' =
    Meets ban_layout r bans bans' max_tracked_peers (new_outcome c bans outbound)
    × Meets outbound_layout r outbound outbound' max_rows (new_outcome c bans outbound)

-- ════ Bans ════

unfoldable pub RecordViolationMeets : GossipPolicyState → List ℕ → Pubkey → GossipViolation → ℕ → GossipTold → List ℕ → Type 0
RecordViolationMeets s before k v now r after =
    Meets ban_layout r before after s.ban_tracker.rows
    (over (ban_told s) (bans.record_violation_outcome s.ban_tracker before k v now))

unfoldable pub IsBannedMeets : GossipPolicyState → List ℕ → Pubkey → ℕ → GossipTold → List ℕ → Type 0
IsBannedMeets s before k now r after =
    Meets ban_layout r before after s.ban_tracker.rows
    (over (ban_told s) (bans.is_banned_outcome s.ban_tracker before k now))

unfoldable pub PruneBansMeets : GossipPolicyState → List ℕ → ℕ → GossipPruned → List ℕ → Type 0
PruneBansMeets s before now r after =
    Meets ban_layout r before after s.ban_tracker.rows
    (over (ban_pruned s) (bans.prune_expired_outcome s.ban_tracker before now))

-- ════ Outbound messages ════

unfoldable pub AllowMeets : GossipPolicyState → List ℕ → Pubkey → ℕ → ℕ → GossipTold → List ℕ → Type 0
AllowMeets s before k bytes now r after =
    Meets outbound_layout r before after s.rows (over (outbound_told s) (outbound.allow_outcome (outbound_of s) before k bytes now))

unfoldable pub RemoveMeets : GossipPolicyState → List ℕ → Pubkey → GossipSettled → List ℕ → Type 0
RemoveMeets s before k r after =
    Meets outbound_layout r before after s.rows (over (outbound_settled s) (outbound.remove_outcome (outbound_of s) before k))

unfoldable pub ReserveMeets : GossipPolicyState → List ℕ → Pubkey → ℕ → ℕ → GossipReserved → List ℕ → Type 0
ReserveMeets s before k bytes now r after =
    Meets outbound_layout r before after s.rows
    (over (outbound_reserved s) (outbound.reserve_outcome (outbound_of s) before k bytes now))

unfoldable pub RefundMeets : GossipPolicyState → List ℕ → Pubkey → ℕ → ℕ → GossipSettled → List ℕ → Type 0
RefundMeets s before k bytes now r after =
    Meets outbound_layout r before after s.rows
    (over (outbound_settled s) (outbound.refund_outcome (outbound_of s) before k bytes now))

-- the two that change nothing are lent the memory to read
abbrev pub EstimateMeets : GossipPolicyState → List ℕ → Pubkey → ℕ → ℕ → Result ℕ Refusal → Type 0
EstimateMeets s = outbound.EstimateMeets (outbound_of s)

abbrev pub BypassMeets : GossipPolicyState → List ℕ → Pubkey → ℕ → ℕ → Result Bool Refusal → Type 0
BypassMeets s = outbound.BypassMeets (outbound_of s)
