-- At most one outcome satisfies the contract of each call on the gossip bans: the same answer, and the same memory where memory is lent.
-- Assumes nothing.
use Rattle.std.specs.Prelude.{◌≡◌, List, ℕ, Result}
use Rattle.refusal.specs.declared.Refusal.{Refusal}
use Rattle.pubkey.specs.declared.Pubkey.{Pubkey}
use Rattle.refusal.specs.OneOutcomeLaws.{one_outcome}
use Rattle.table.specs.OutcomeLaws.{one_meets}
use Rattle.gossip_settings.specs.declared.ban.GossipBanConfig.{GossipBanConfig}
use Rattle.gossip_settings.specs.declared.violation.GossipViolation.{GossipViolation}
use Rattle.gossip_bans.specs.declared.tracker.GossipBanTracker.{GossipBanTracker}
use Rattle.gossip_bans.specs.Handed.{BanTold, BanScored, BanPruned}
use Rattle.gossip_bans.specs.Calls.{MadeMeets, RecordViolationMeets, IsBannedMeets, ScoreMeets, PruneExpiredMeets, TrackedPeersMeets}

module _ (before : List ℕ) {first second : List ℕ} where
  -- the makers of a tracker share one contract
  pub made_one : (c : GossipBanConfig) (limit : ℕ) {r q : Result GossipBanTracker Refusal} → MadeMeets c limit before r first → MadeMeets c limit before q second
      → (r ≡ q) × (first ≡ second)
  unfolding MadeMeets
  made_one c limit m n = one_meets m n

  module _ (t : GossipBanTracker) (now : ℕ) where
    pub record_violation_one : (k : Pubkey) (v : GossipViolation) {r q : BanTold} → RecordViolationMeets t before k v now r first
        → RecordViolationMeets t before k v now q second → (r ≡ q) × (first ≡ second)
    unfolding RecordViolationMeets
    record_violation_one k v m n = one_meets m n

    pub is_banned_one : (k : Pubkey) {r q : BanTold} → IsBannedMeets t before k now r first → IsBannedMeets t before k now q second
        → (r ≡ q) × (first ≡ second)
    unfolding IsBannedMeets
    is_banned_one k m n = one_meets m n

    pub score_one : (k : Pubkey) {r q : BanScored} → ScoreMeets t before k now r first → ScoreMeets t before k now q second
        → (r ≡ q) × (first ≡ second)
    unfolding ScoreMeets
    score_one k m n = one_meets m n

    pub prune_expired_one : {r q : BanPruned} → PruneExpiredMeets t before now r first → PruneExpiredMeets t before now q second
        → (r ≡ q) × (first ≡ second)
    unfolding PruneExpiredMeets
    prune_expired_one m n = one_meets m n

pub tracked_peers_one : (t : GossipBanTracker) {r q : Result ℕ Refusal} → TrackedPeersMeets t r → TrackedPeersMeets t q → r ≡ q
unfolding TrackedPeersMeets
tracked_peers_one t m n = one_outcome m n
