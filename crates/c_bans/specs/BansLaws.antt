-- At most one outcome satisfies the contract of `uglezmir_bans`: in the number, in every word and in every lent byte. Assumes nothing.
use Rattle.std.specs.Prelude.{◌≡◌, List, ℕ, Option, Some, None}
use Rattle.gossip_settings.specs.declared.violation.GossipViolation.{GossipViolation}
use Rattle.refusal.specs.OneOutcomeLaws.{one_outcome}
use Rattle.pubkey.specs.declared.Pubkey.{Pubkey}
use Rattle.gossip_settings.specs.Settings.{max_tracked_peers}
use Rattle.gossip_bans.specs.declared.tracker.GossipBanTracker.{GossipBanTracker}
use Rattle.gossip_laws.specs.BanOutcomeLaws.{made_one, record_violation_one, is_banned_one, score_one, prune_expired_one, tracked_peers_one}
use Rattle.c_terms.specs.SomeLaws.{some_one, some_alone}
use Rattle.c_bans.specs.declared.bans.BanOperation.{BanOperation}
use Rattle.c_bans.specs.Handed.{BanDone}
use Rattle.c_terms.specs.LeftLaws.{Alike, left_one, untouched_one}
use Rattle.c_bans.specs.Blame.{blame_of}
use Rattle.c_terms.specs.Keys.{key_of}
use Rattle.c_bans.specs.Bans.{ban_operation, tracker_of, ban_longs, ban_shorts, BlameDoes, BanDoes, BanExported}

module _ (before : List ℕ) {first second : List ℕ} where
  module _ (t : GossipBanTracker) (k : Pubkey) (now : ℕ) where
    blame_one : (b : Option GossipViolation) (d e : BanDone) → BlameDoes b t before k now d first → BlameDoes b t before k now e second
        → (d ≡ e) × (first ≡ second)
    blame_one (Some v) d e =
        some_one (λ a b. record_violation_one before {first = first} {second = second} t now k v {r = a} {q = b}) (λ a. one_outcome)
    blame_one None d e = untouched_one _ d e before

    does_one : (o : BanOperation) (v : ℕ) (d e : BanDone) → BanDoes o t before k v now d first → BanDoes o t before k v now e second
        → (d ≡ e) × (first ≡ second)
    does_one BanOperation.New v d e =
        some_one (λ a b. made_one before {first = first} {second = second} t.config max_tracked_peers {r = a} {q = b}) (λ a. one_outcome)
    does_one BanOperation.WithMaxEntries v d e =
        some_one (λ a b. made_one before {first = first} {second = second} t.config t.max_entries {r = a} {q = b}) (λ a. one_outcome)
    does_one BanOperation.RecordViolation v d e = blame_one (blame_of v) d e
    does_one BanOperation.IsBanned v d e =
        some_one (λ a b. is_banned_one before {first = first} {second = second} t now k {r = a} {q = b}) (λ a. one_outcome)
    does_one BanOperation.Score v d e =
        some_one (λ a b. score_one before {first = first} {second = second} t now k {r = a} {q = b}) (λ a. one_outcome)
    does_one BanOperation.PruneExpired v d e =
        some_one (λ a b. prune_expired_one before {first = first} {second = second} t now {r = a} {q = b}) (λ a. one_outcome)
    does_one BanOperation.TrackedPeers v d e =
        some_alone (λ a b. tracked_peers_one t {r = a} {q = b}) (λ a. untouched_one _ d e before)
    does_one BanOperation.Unknown v d e = untouched_one _ d e before

pub uglezmir_bans_outcome : (operation : ℕ) (longs shorts before k : List ℕ) (v now : ℕ) (value : List ℕ) {r q : ℕ}
    {longs' longs'' shorts' shorts'' first second value' value'' : List ℕ}
    → BanExported operation longs shorts before k v now value r longs' shorts' first value'
    → BanExported operation longs shorts before k v now value q longs'' shorts'' second value''
    → Alike r q longs' longs'' shorts' shorts'' value' value'' × (first ≡ second)
uglezmir_bans_outcome operation longs shorts before k v now value {first = first} {second = second} =
    some_one (does_one before {first = first} {second = second} (tracker_of longs shorts) (key_of k) now (ban_operation operation) v)
    (λ d. left_one d.answer (ban_longs d.state) (ban_shorts d.state) longs shorts value)
