-- The public calls: what each contract says of a call's answer and of every lent byte, for all arguments. Definitions only.
-- A call on an unsound tracker or memory is refused with 3 and changes nothing.
use Rattle.std.specs.Prelude.{◌≡◌, Bool, cond, List, [], ◌∷◌, ℕ, ltb, Result, Ok, Err}
use Rattle.refusal.specs.declared.Refusal.{Refusal}
use Rattle.pubkey.specs.declared.Pubkey.{Pubkey}
use Rattle.refusal.specs.Refusal.{Said, gives, refused, number_of}
use Rattle.bucket_terms.specs.Answers.{told, told_says}
use Rattle.table.specs.Outcome.{Change, same, become, count_after, Outcome, Meets}
use Rattle.table_laws.specs.Lent.{long_enough}
use Rattle.gossip_settings.specs.declared.ban.GossipBanConfig.{GossipBanConfig}
use Rattle.gossip_settings.specs.declared.violation.GossipViolation.{GossipViolation}
use Rattle.gossip_settings.specs.Settings.{max_tracked_peers, violation_score}
use Rattle.gossip_ban_rows.specs.declared.entry.GossipBanEntry.{GossipBanEntry}
use Rattle.gossip_ban_rows.specs.Rows.{ban_layout}
use Rattle.gossip_ban_rows.specs.Room.{prune_expired}
use Rattle.gossip_bans.specs.declared.tracker.GossipBanTracker.{GossipBanTracker}
use Rattle.gossip_bans.specs.Handed.{BanTold, BanScored, BanPruned}
use Rattle.gossip_bans.specs.Tracker.{rows_of, limit_of, tracker_sound, sound, turn, record_violation, is_banned, score}

-- ════ What the answers say ════

abbrev pub made_says : Result GossipBanTracker Refusal → Said
made_says (Ok t) = gives []
made_says (Err n) = refused (number_of n)

-- 1 for yes, 0 for no
abbrev pub ban_says : BanTold → Said
ban_says r = told_says r.answer

abbrev pub scored_says : Result ℕ Refusal → Said
scored_says (Ok n) = gives (n ∷ [])
scored_says (Err n) = refused (number_of n)

abbrev pub pruned_says : Result (Unit {0}) Refusal → Said
pruned_says (Ok tt) = gives []
pruned_says (Err n) = refused (number_of n)

abbrev pub tracked_says : Result ℕ Refusal → Said
tracked_says (Ok n) = gives (n ∷ [])
tracked_says (Err n) = refused (number_of n)

-- ════ What becomes of the tracker ════

-- the tracker with so many rows
abbrev pub tracker_with : GossipBanTracker → ℕ → GossipBanTracker
tracker_with t n = record { config = t.config; max_entries = t.max_entries; rows = n }

-- the tracker after a change of the rows
abbrev pub tracker_after : GossipBanTracker → Change GossipBanEntry → GossipBanTracker
tracker_after t change = tracker_with t (count_after t.rows change)

-- a call that was carried out: its answer beside the tracker after it
abbrev pub carried : {R P : Type 0} → (GossipBanTracker → R → P) → GossipBanTracker → Outcome GossipBanEntry R → Outcome GossipBanEntry P
carried pair t o = turn (pair (tracker_after t o.change) o.answer) o.change

-- an answer and no change
abbrev pub refuse : {P : Type 0} → P → Outcome GossipBanEntry P
refuse answer = turn answer same

-- ════ The calls ════

-- a tracker without a row; the limit is kept as it is given
abbrev pub fresh : GossipBanConfig → ℕ → GossipBanTracker
fresh c limit = record { config = c; max_entries = limit; rows = 0 }

-- with_max_entries: 2 for a limit above the most, then 1 for memory that is too short for it
unfoldable pub made_outcome : GossipBanConfig → ℕ → List ℕ → Outcome GossipBanEntry (Result GossipBanTracker Refusal)
made_outcome c limit s =
    cond (ltb max_tracked_peers limit) (refuse (Err Refusal.LimitTooLarge))
    (cond (long_enough ban_layout (limit_of limit) s) (turn (Ok (fresh c limit)) (become []))
    (refuse (Err Refusal.TooShort)))

-- every place of the limit is zeroed, and the bytes further on stay
unfoldable pub MadeMeets : GossipBanConfig → ℕ → List ℕ → Result GossipBanTracker Refusal → List ℕ → Type 0
MadeMeets c limit before r after = Meets ban_layout r before after (limit_of limit) (made_outcome c limit before)

-- yes or no, beside the tracker
abbrev pub ban_told : GossipBanTracker → Bool → BanTold
ban_told t b = record { state = t; answer = told b }

unfoldable pub record_violation_outcome : GossipBanTracker → List ℕ → Pubkey → GossipViolation → ℕ → Outcome GossipBanEntry BanTold
record_violation_outcome t s k v now =
    cond (sound t s)
    (carried ban_told t (record_violation t.config (limit_of t.max_entries) k.bytes (violation_score v) now (rows_of t s)))
    (refuse (record { state = t; answer = Err Refusal.Unsound }))

unfoldable pub RecordViolationMeets : GossipBanTracker → List ℕ → Pubkey → GossipViolation → ℕ → BanTold → List ℕ → Type 0
RecordViolationMeets t before k v now r after = Meets ban_layout r before after t.rows (record_violation_outcome t before k v now)

unfoldable pub is_banned_outcome : GossipBanTracker → List ℕ → Pubkey → ℕ → Outcome GossipBanEntry BanTold
is_banned_outcome t s k now =
    cond (sound t s) (carried ban_told t (is_banned t.config k.bytes now (rows_of t s)))
    (refuse (record { state = t; answer = Err Refusal.Unsound }))

unfoldable pub IsBannedMeets : GossipBanTracker → List ℕ → Pubkey → ℕ → BanTold → List ℕ → Type 0
IsBannedMeets t before k now r after = Meets ban_layout r before after t.rows (is_banned_outcome t before k now)

-- a score, beside the tracker
abbrev pub ban_scored : GossipBanTracker → ℕ → BanScored
ban_scored t n = record { state = t; answer = Ok n }

unfoldable pub score_outcome : GossipBanTracker → List ℕ → Pubkey → ℕ → Outcome GossipBanEntry BanScored
score_outcome t s k now =
    cond (sound t s) (carried ban_scored t (score t.config k.bytes now (rows_of t s)))
    (refuse (record { state = t; answer = Err Refusal.Unsound }))

unfoldable pub ScoreMeets : GossipBanTracker → List ℕ → Pubkey → ℕ → BanScored → List ℕ → Type 0
ScoreMeets t before k now r after = Meets ban_layout r before after t.rows (score_outcome t before k now)

-- an answer that says nothing more, beside the tracker
abbrev pub ban_pruned : GossipBanTracker → Result (Unit {0}) Refusal → BanPruned
ban_pruned t answer = record { state = t; answer = answer }

unfoldable pub prune_expired_outcome : GossipBanTracker → List ℕ → ℕ → Outcome GossipBanEntry BanPruned
prune_expired_outcome t s now =
    cond (sound t s) (carried ban_pruned t (turn (Ok tt) (become (prune_expired t.config.duration_ms now (rows_of t s)))))
    (refuse (ban_pruned t (Err Refusal.Unsound)))

unfoldable pub PruneExpiredMeets : GossipBanTracker → List ℕ → ℕ → BanPruned → List ℕ → Type 0
PruneExpiredMeets t before now r after = Meets ban_layout r before after t.rows (prune_expired_outcome t before now)

-- tracked_peers: no memory is lent, so the record alone is judged
unfoldable pub TrackedPeersMeets : GossipBanTracker → Result ℕ Refusal → Type 0
TrackedPeersMeets t r = r ≡ cond (tracker_sound t) (Ok t.rows) (Err Refusal.Unsound)
