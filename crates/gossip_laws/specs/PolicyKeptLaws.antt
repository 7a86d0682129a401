-- Every call on a sound half of the gossip state leaves a sound one, the memory's length, the settings and the other half: each is the
-- half's own call over the same memory, told of the whole. Assumes nothing.
use Rattle.std.specs.Prelude.{◌≡◌, refl, true, List, ℕ}
use Rattle.std.proofs.Common.{sym}
use Rattle.std.proofs.Math.Path.{subst}
use Rattle.lent_bytes.specs.LentBytes.{Bytes}
use Rattle.pubkey.specs.declared.Pubkey.{Pubkey}
use Rattle.table_laws.specs.Kept.{Key}
use Rattle.bucket_terms.specs.declared.limit.ByteRateLimitConfig.{ByteRateLimitConfig}
use Rattle.gossip_settings.specs.declared.violation.GossipViolation.{GossipViolation}
use Rattle.gossip_ban_rows.specs.Rows.{ban_layout}
use Rattle.gossip_bans.specs.declared.tracker.GossipBanTracker.{GossipBanTracker}
use Rattle.gossip_bans.specs.Handed.{BanTold, BanPruned}
use Rattle.gossip_bans.specs.Tracker as bans
use Rattle.gossip_bans.specs.Calls.{record_violation_outcome, is_banned_outcome, prune_expired_outcome, PruneExpiredMeets}
use Rattle.gossip_bans.specs.Calls as bans-calls
use Rattle.gossip_outbound_state.specs.declared.state.Outbound.{Outbound}
use Rattle.gossip_outbound_state.specs.State as outbound
use Rattle.gossip_outbound.specs.Handed.{OutboundTold, OutboundReserved, OutboundSettled}
use Rattle.gossip_outbound.specs.Calls as outbound-calls
use Rattle.gossip_policy.specs.declared.state.GossipPolicyState.{GossipPolicyState}
use Rattle.gossip_policy.specs.Handed.{GossipTold, GossipPruned, GossipSettled, GossipReserved}
use Rattle.gossip_policy.specs.State.{outbound_of, with_tracker, with_outbound}
use Rattle.gossip_policy.specs.Calls.{RecordViolationMeets, IsBannedMeets, PruneBansMeets, AllowMeets, RemoveMeets, ReserveMeets, RefundMeets}
use Rattle.gossip_laws.specs.BanSoundLaws.{BanKept, record_violation_kept, is_banned_kept, prune_expired_kept}
use Rattle.gossip_laws.specs.OutboundKept.{Given, Kept}
use Rattle.gossip_laws.specs.OutboundKeptLaws.{allow_kept, remove_kept, reserve_kept, refund_kept}
use Rattle.gossip_laws.specs.PolicyKept.{BansKept, OutboundKept}

-- ════ Bans ════

module _ (s : GossipPolicyState) (before after : List ℕ) (now : ℕ) (h : bans.sound s.ban_tracker before ≡ true) (b : Bytes before) where
  with_tracker_lem : (t : GossipBanTracker) → BanKept s.ban_tracker before t after → BansKept s before (with_tracker s t) after
  with_tracker_lem t kept = record { bans = kept; outbound = refl; queue = refl }

  pub policy_record_violation_kept : (k : Pubkey) (v : GossipViolation) (r : GossipTold) → Key ban_layout k.bytes
      → RecordViolationMeets s before k v now r after → BansKept s before r.state after
  unfolding RecordViolationMeets bans-calls.RecordViolationMeets
  policy_record_violation_kept k v r key m =
      let a : BanTold = (record_violation_outcome s.ban_tracker before k v now).answer in
      subst (λ (x : GossipTold). BansKept s before x.state after) (sym m.answers)
      (with_tracker_lem a.state (record_violation_kept s.ban_tracker before after now h b k v a key (record { answers = refl; leaves = m.leaves })))

  pub policy_is_banned_kept : (k : Pubkey) (r : GossipTold) → IsBannedMeets s before k now r after → BansKept s before r.state after
  unfolding IsBannedMeets bans-calls.IsBannedMeets
  policy_is_banned_kept k r m =
      let a : BanTold = (is_banned_outcome s.ban_tracker before k now).answer in
      subst (λ (x : GossipTold). BansKept s before x.state after) (sym m.answers)
      (with_tracker_lem a.state (is_banned_kept s.ban_tracker before after now h b k a (record { answers = refl; leaves = m.leaves })))

  pub prune_bans_kept : (r : GossipPruned) → PruneBansMeets s before now r after → BansKept s before r.state after
  unfolding PruneBansMeets PruneExpiredMeets
  prune_bans_kept r m =
      let a : BanPruned = (prune_expired_outcome s.ban_tracker before now).answer in
      subst (λ (x : GossipPruned). BansKept s before x.state after) (sym m.answers)
      (with_tracker_lem a.state (prune_expired_kept s.ban_tracker before after now h b a (record { answers = refl; leaves = m.leaves })))

-- ════ Outbound messages ════

module _ (s : GossipPolicyState) (before : List ℕ) (k : Pubkey) (h : outbound.sound (outbound_of s) before ≡ true) (given : Given (outbound_of s) before k.bytes) where
  -- the half that comes back has the settings that it had
  with_outbound_lem : (o : Outbound) {after : List ℕ} → Kept (outbound_of s) before o after → OutboundKept s before (with_outbound s o) after
  with_outbound_lem o {after} kept =
      record {
        outbound =
            subst (λ (c : ByteRateLimitConfig). Kept (outbound_of s) before (record { global_outbound = o.global_outbound; peer_outbound_config = c; rows = o.rows }) after)
            kept.peer_settings kept;
        bans = refl;
        queue = refl;
      }

  pub remove_outbound_peer_kept : (r : GossipSettled) (after : List ℕ) → RemoveMeets s before k r after → OutboundKept s before r.state after
  unfolding RemoveMeets outbound-calls.RemoveMeets
  remove_outbound_peer_kept r after m =
      let a : OutboundSettled = (outbound-calls.remove_outcome (outbound_of s) before k).answer in
      subst (λ (x : GossipSettled). OutboundKept s before x.state after) (sym m.answers)
      (with_outbound_lem a.state (remove_kept (outbound_of s) before k h given a after (record { answers = refl; leaves = m.leaves })))

  module _ (bytes now : ℕ) where
    pub allow_outbound_message_kept : (r : GossipTold) (after : List ℕ) → AllowMeets s before k bytes now r after → OutboundKept s before r.state after
    unfolding AllowMeets outbound-calls.AllowMeets
    allow_outbound_message_kept r after m =
        let a : OutboundTold = (outbound-calls.allow_outcome (outbound_of s) before k bytes now).answer in
        subst (λ (x : GossipTold). OutboundKept s before x.state after) (sym m.answers)
        (with_outbound_lem a.state (allow_kept (outbound_of s) before k h given bytes now a after (record { answers = refl; leaves = m.leaves })))

    pub reserve_outbound_message_kept : (r : GossipReserved) (after : List ℕ) → ReserveMeets s before k bytes now r after
        → OutboundKept s before r.state after
    unfolding ReserveMeets outbound-calls.ReserveMeets
    reserve_outbound_message_kept r after m =
        let a : OutboundReserved = (outbound-calls.reserve_outcome (outbound_of s) before k bytes now).answer in
        subst (λ (x : GossipReserved). OutboundKept s before x.state after) (sym m.answers)
        (with_outbound_lem a.state (reserve_kept (outbound_of s) before k h given bytes now a after (record { answers = refl; leaves = m.leaves })))

    pub refund_outbound_message_kept : (r : GossipSettled) (after : List ℕ) → RefundMeets s before k bytes now r after
        → OutboundKept s before r.state after
    unfolding RefundMeets outbound-calls.RefundMeets
    refund_outbound_message_kept r after m =
        let a : OutboundSettled = (outbound-calls.refund_outcome (outbound_of s) before k bytes now).answer in
        subst (λ (x : GossipSettled). OutboundKept s before x.state after) (sym m.answers)
        (with_outbound_lem a.state (refund_kept (outbound_of s) before k h given bytes now a after (record { answers = refl; leaves = m.leaves })))
