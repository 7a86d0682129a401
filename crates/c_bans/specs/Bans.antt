-- The gossip bans behind the C boundary. Definitions only.
use Rattle.std.specs.Prelude.{◌≡◌, cond, List, [], ◌∷◌, ℕ, eqb, get_or, Result, Option}
use Rattle.std.specs.declared.option.Option.TheVariants as Option
use Rattle.refusal.specs.declared.Refusal.{Refusal}
use Rattle.gossip_settings.specs.declared.violation.GossipViolation.{GossipViolation}
use Rattle.refusal.specs.Some.{Some}
use Rattle.pubkey.specs.declared.Pubkey.{Pubkey}
use Rattle.gossip_settings.specs.Settings.{max_tracked_peers}
use Rattle.gossip_bans.specs.declared.tracker.GossipBanTracker.{GossipBanTracker}
use Rattle.gossip_bans.specs.Handed.{BanTold}
use Rattle.gossip_bans.specs.Calls.{MadeMeets, RecordViolationMeets, IsBannedMeets, ScoreMeets, PruneExpiredMeets, TrackedPeersMeets}
use Rattle.c_terms.specs.declared.reply.Reply.{Reply}
use Rattle.c_terms.specs.Answers.{reply, refilled_reply, delay_reply, told_reply}
use Rattle.c_terms.specs.Answers as terms
use Rattle.c_bans.specs.declared.bans.BanOperation.{BanOperation}
use Rattle.c_bans.specs.declared.bans.BanOperation.TheVariants.{New, WithMaxEntries, RecordViolation, IsBanned, Score, PruneExpired, TrackedPeers, Unknown}
use Rattle.c_bans.specs.Handed.{BanDone}
use Rattle.c_bans.specs.Blame.{blame_of}
use Rattle.c_terms.specs.Left.{Left, Untouched}
use Rattle.c_terms.specs.Keys.{key_of}

-- the operation of a number
abbrev pub ban_operation : ℕ → BanOperation
ban_operation n =
    cond (eqb n 1) New
    (cond (eqb n 2) WithMaxEntries
    (cond (eqb n 3) RecordViolation
    (cond (eqb n 4) IsBanned (cond (eqb n 5) Score (cond (eqb n 6) PruneExpired (cond (eqb n 7) TrackedPeers Unknown))))))

-- ════ Words ════

-- the tracker that these words say
abbrev pub tracker_of : List ℕ → List ℕ → GossipBanTracker
tracker_of longs shorts =
    record {
      config = record { threshold = get_or shorts 0 0; duration_ms = get_or longs 0 0 };
      max_entries = get_or longs 1 0;
      rows = get_or longs 2 0;
    }

-- a tracker's words of 64 bits
abbrev pub ban_longs : GossipBanTracker → List ℕ
ban_longs t = t.config.duration_ms ∷ t.max_entries ∷ t.rows ∷ []

-- a tracker's words of 32 bits
abbrev pub ban_shorts : GossipBanTracker → List ℕ
ban_shorts t = t.config.threshold ∷ []

-- ════ Answers ════

abbrev pub ban_done : GossipBanTracker → Reply → BanDone
ban_done t s = record { state = t; answer = s }

-- 261 and the tracker that was made; on a refusal the one that the words said
abbrev pub made_done : GossipBanTracker → Result GossipBanTracker Refusal → BanDone
made_done = terms.made_done

-- 260 for yes, 259 for no
abbrev pub told_done : BanTold → BanDone
told_done a = ban_done a.state (told_reply a.answer)

-- 261 and the score
abbrev pub scored_reply : Result ℕ Refusal → Reply
scored_reply = delay_reply

-- 261 for entries that have gone
abbrev pub pruned_reply : Result (Unit {0}) Refusal → Reply
pruned_reply = refilled_reply

-- 261 and how many peers have an entry
abbrev pub tracked_reply : Result ℕ Refusal → Reply
tracked_reply = delay_reply

-- ════ The calls ════

-- counting a violation; 0 where no violation has the number
abbrev pub BlameDoes : Option GossipViolation → GossipBanTracker → List ℕ → Pubkey → ℕ → BanDone → List ℕ → Type 0
BlameDoes (Option.Some v) t before k now d after =
    Some (λ a. RecordViolationMeets t before k v now a after) (λ a. d ≡ told_done a)
BlameDoes Option.None t before k now d after = Untouched d (ban_done t (reply 0 0)) before after

-- what each operation does: there is an answer that meets the call's contract, with every lent byte, and it is what is said
abbrev pub BanDoes : BanOperation → GossipBanTracker → List ℕ → Pubkey → ℕ → ℕ → BanDone → List ℕ → Type 0
BanDoes New t before k v now d after =
    Some (λ a. MadeMeets t.config max_tracked_peers before a after) (λ a. d ≡ made_done t a)
BanDoes WithMaxEntries t before k v now d after =
    Some (λ a. MadeMeets t.config t.max_entries before a after) (λ a. d ≡ made_done t a)
BanDoes RecordViolation t before k v now d after = BlameDoes (blame_of v) t before k now d after
BanDoes IsBanned t before k v now d after = Some (λ a. IsBannedMeets t before k now a after) (λ a. d ≡ told_done a)
BanDoes Score t before k v now d after =
    Some (λ a. ScoreMeets t before k now a after) (λ a. d ≡ ban_done a.state (scored_reply a.answer))
BanDoes PruneExpired t before k v now d after =
    Some (λ a. PruneExpiredMeets t before now a after) (λ a. d ≡ ban_done a.state (pruned_reply a.answer))
BanDoes TrackedPeers t before k v now d after =
    Some (λ a. TrackedPeersMeets t a) (λ a. Untouched d (ban_done t (tracked_reply a)) before after)
BanDoes Unknown t before k v now d after = Untouched d (ban_done t (reply 0 0)) before after

-- the number returned, and the words and the value after the call
abbrev pub BanLeft : BanDone → List ℕ → List ℕ → List ℕ → ℕ → List ℕ → List ℕ → List ℕ → Type 0
BanLeft d = Left d.answer (ban_longs d.state) (ban_shorts d.state)

-- uglezmir_bans
abbrev pub BanExported : ℕ → List ℕ → List ℕ → List ℕ → List ℕ → ℕ → ℕ → List ℕ → ℕ → List ℕ → List ℕ → List ℕ → List ℕ → Type 0
BanExported operation longs shorts before k v now value r longs' shorts' after value' =
    Some (λ d. BanDoes (ban_operation operation) (tracker_of longs shorts) before (key_of k) v now d after)
    (λ d. BanLeft d longs shorts value r longs' shorts' value')
