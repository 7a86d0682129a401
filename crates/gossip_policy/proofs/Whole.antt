-- A call on one half, told of the whole state; and making one, by the lengths of both tables. Assumes nothing.
use Rattle.std.specs.Prelude.{Ok, Err}
use Rattle.refusal.specs.declared.Refusal.TheVariants as Refusal
use mathlib.Core.Path.{◌≡◌, refl, ap, ◌∙◌}
use mathlib.Core.Bool.{false}
use mathlib.Core.List.{List, []}
use Prim.Native.Nat.{ℕ, ◌≤◌, ◌<◌}
use borrow.Author.Tests.{le-leb, lt-leb}
use lib.ListN.{length}
use Rattle.refusal.specs.declared.Answered.{Answered}
use Rattle.lent_bytes.specs.LentBytes.{put, zeros}
use Rattle.pubkey.specs.declared.Pubkey.{Pubkey}
use Rattle.table.specs.Memory.{Layout}
use Rattle.table.specs.MemoryLaws.{holds, put_clear}
use Rattle.table.specs.Outcome.{Outcome, Meets}
use Rattle.gossip_settings.specs.declared.policy.GossipPolicyConfig.{GossipPolicyConfig}
use Rattle.gossip_settings.specs.declared.violation.GossipViolation.{GossipViolation}
use Rattle.gossip_ban_rows.specs.RowsLaws.{ban_faithful}
use Rattle.gossip_bans.specs.Handed.{BanTold, BanPruned}
use Rattle.gossip_bans.specs.Calls as bans
use Rattle.gossip_outbound_rows.specs.RowsLaws.{outbound_faithful}
use Rattle.gossip_outbound.specs.Handed.{OutboundTold, OutboundReserved, OutboundSettled}
use Rattle.gossip_outbound.specs.Calls as outbound
use Rattle.gossip_policy.specs.declared.state.GossipPolicyState.{GossipPolicyState}
use Rattle.gossip_policy.specs.State.{fresh, outbound_of}
use Rattle.gossip_policy.specs.Calls.{over, ban_told, ban_pruned, outbound_told, outbound_reserved, outbound_settled, settled, both_long, new_outcome, NewMeets, RecordViolationMeets, IsBannedMeets, PruneBansMeets, AllowMeets, RemoveMeets, ReserveMeets, RefundMeets}

-- ════ Making ════

module _ (c : GossipPolicyConfig) (b o : List ℕ) where
  short : both_long b o ≡ false → NewMeets c b o (settled (fresh c) (Err Refusal.TooShort)) b o
  unfolding NewMeets new_outcome
  short h = rw h (record { answers = refl; leaves = refl }, record { answers = refl; leaves = refl })

  -- the table of the bans is too short
  pub short_bans : length b < 66560 → NewMeets c b o (settled (fresh c) (Err Refusal.TooShort)) b o
  short_bans h = short (rw (lt-leb 66560 (length b) h))

  -- that of the outbound buckets is
  pub short_outbound : 66560 ≤ length b → length o < 66560 → NewMeets c b o (settled (fresh c) (Err Refusal.TooShort)) b o
  short_outbound h l = short (rw (le-leb 66560 (length b) h, lt-leb 66560 (length o) l))

  -- neither is
  pub both_long_lem : 66560 ≤ length b → 66560 ≤ length o → (b' o' : List ℕ) → b' ≡ put b 0 (zeros 66560) → o' ≡ put o 0 (zeros 66560)
      → NewMeets c b o (settled (fresh c) (Ok tt)) b' o'
  unfolding NewMeets new_outcome
  both_long_lem h l b' o' p q =
      rw (le-leb 66560 (length b) h, le-leb 66560 (length o) l) (
        record { answers = refl; leaves = holds ban_faithful b b' 1024 [] tt (p ∙ put_clear ban_faithful b 1024) },
        record { answers = refl; leaves = holds outbound_faithful o o' 1024 [] tt (q ∙ put_clear outbound_faithful o 1024) },
      )

-- ════ The calls ════

-- what is handed back, by its parts
pub handed : {S A : Type 0} {r : Answered S A} {s : S} {a : A} → r.state ≡ s → r.answer ≡ a → r ≡ record { state = s; answer = a }
handed {S} {A} {r} {s} p q =
    ap (λ (x : S). record { state = x; answer = r.answer }) p ∙ ap (λ (b : A). record { state = s; answer = b }) q

-- what a half answers, told of the whole
meets_over : {A : Type 0} {L : Layout A} {R P : Type 0} (f : R → P) {a : R} {before after : List ℕ} {n : ℕ} {o : Outcome A R}
    → Meets L a before after n o → Meets L (f a) before after n (over f o)
meets_over f m = record { answers = ap f m.answers; leaves = m.leaves }

module _ (s : GossipPolicyState) (before after : List ℕ) where
  module _ (now : ℕ) where
    pub recorded : (k : Pubkey) (v : GossipViolation) (a : BanTold) → bans.RecordViolationMeets s.ban_tracker before k v now a after
        → RecordViolationMeets s before k v now (ban_told s a) after
    unfolding RecordViolationMeets bans.RecordViolationMeets
    recorded k v a m = meets_over (ban_told s) m

    pub standing : (k : Pubkey) (a : BanTold) → bans.IsBannedMeets s.ban_tracker before k now a after
        → IsBannedMeets s before k now (ban_told s a) after
    unfolding IsBannedMeets bans.IsBannedMeets
    standing k a m = meets_over (ban_told s) m

    pub pruned : (a : BanPruned) → bans.PruneExpiredMeets s.ban_tracker before now a after
        → PruneBansMeets s before now (ban_pruned s a) after
    unfolding PruneBansMeets bans.PruneExpiredMeets
    pruned a m = meets_over (ban_pruned s) m

  module _ (k : Pubkey) where
    pub removed : (a : OutboundSettled) → outbound.RemoveMeets (outbound_of s) before k a after
        → RemoveMeets s before k (outbound_settled s a) after
    unfolding RemoveMeets outbound.RemoveMeets
    removed a m = meets_over (outbound_settled s) m

    module _ (bytes now : ℕ) where
      pub allowed : (a : OutboundTold) → outbound.AllowMeets (outbound_of s) before k bytes now a after
          → AllowMeets s before k bytes now (outbound_told s a) after
      unfolding AllowMeets outbound.AllowMeets
      allowed a m = meets_over (outbound_told s) m

      pub reserved : (a : OutboundReserved) → outbound.ReserveMeets (outbound_of s) before k bytes now a after
          → ReserveMeets s before k bytes now (outbound_reserved s a) after
      unfolding ReserveMeets outbound.ReserveMeets
      reserved a m = meets_over (outbound_reserved s) m

      pub refunded : (a : OutboundSettled) → outbound.RefundMeets (outbound_of s) before k bytes now a after
          → RefundMeets s before k bytes now (outbound_settled s a) after
      unfolding RefundMeets outbound.RefundMeets
      refunded a m = meets_over (outbound_settled s) m
