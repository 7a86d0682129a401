-- Samples A to J, run on the definitions: what the steps of each say, and what docs/REFERENCE.md says that they say.
-- Definitions only; that the two agree is `Promises.samples`.
use Rattle.std.specs.Prelude.{◌≡◌, List, [], ◌∷◌, ℕ, get_or, replicate}
use Rattle.refusal.specs.Refusal.{Said, gives}
use Rattle.bucket_discrete.specs.declared.discrete.DiscreteTokenBucket.{DiscreteTokenBucket}
use Rattle.bucket_bytes.specs.declared.bytes.ByteTokenBucket.{ByteTokenBucket}
use Rattle.bucket_terms.specs.Answers.{consumed_says, delay_says, told_says, told}
use Rattle.bucket_terms.specs.Limit.{byte_limit}
use Rattle.bucket_discrete.specs.DiscreteBucket.{discrete_new, discrete_try_consume}
use Rattle.bucket_bytes.specs.ByteBucket.{byte_new, byte_try_consume, byte_reserve, byte_has_debt}
use Rattle.table.specs.Outcome as table
use Rattle.peer_settings.specs.declared.config.PeerMessagePolicyConfig.{PeerMessagePolicyConfig}
use Rattle.peer_state.specs.declared.entry.ViolationWindow.{ViolationWindow}
use Rattle.peer_state.specs.declared.ingress.FiberIngressBudget.{FiberIngressBudget}
use Rattle.peer_state.specs.Entry.{window, window_record}
use Rattle.peer_state.specs.Ingress.{in_flight}
use Rattle.peer_rows.specs.Rows.{Peers}
use Rattle.peer_message_policy.specs.Policy.{admit}
use Rattle.gossip_settings.specs.declared.ban.GossipBanConfig.{GossipBanConfig}
use Rattle.gossip_settings.specs.declared.channel_update.ChannelUpdateRateLimitConfig.{ChannelUpdateRateLimitConfig}
use Rattle.gossip_settings.specs.declared.violation.GossipViolation.TheVariants as GossipViolation
use Rattle.gossip_settings.specs.Settings.{violation_score}
use Rattle.gossip_ban_rows.specs.Rows.{Bans}
use Rattle.gossip_bans.specs.Tracker as tracker
use Rattle.gossip_limiter_rows.specs.Rows.{Limits}
use Rattle.gossip_limiter.specs.Limiter.{try_acquire}
use Rattle.peer_message_policy.specs.Calls.{changed_rows}
use Rattle.peer_verdict.specs.declared.verdict.Shortage.TheVariants as Shortage
use Rattle.peer_verdict.specs.declared.verdict.Cause.TheVariants as Cause
use Rattle.peer_verdict.specs.Causes.{cause_says}
use Rattle.promises.specs.Lives.{allow}

-- a sample: what its steps say on the definitions, and what the document says
pub record Sample : Type 0 where
  pub says : List Said
  pub document : List Said

-- every sample says what the document says
abbrev pub Agree : List Sample → Type 0
Agree [] = Unit {0}
Agree (x ∷ xs) = (x.says ≡ x.document) × Agree xs

-- ════ Steps ════

-- a time, with a number of bytes where one is needed
pub record At : Type 0 where
  pub time : ℕ
  pub bytes : ℕ

-- messages asked for at these times
unfoldable pub messages : DiscreteTokenBucket → List ℕ → List Said
messages b [] = []
messages b (now ∷ times) = consumed_says (discrete_try_consume b now).answer ∷ messages (discrete_try_consume b now).state times

-- bytes asked for
unfoldable pub bytes : ByteTokenBucket → List At → List Said
bytes b [] = []
bytes b (z ∷ zs) =
    consumed_says (byte_try_consume b z.bytes z.time).answer ∷ bytes (byte_try_consume b z.bytes z.time).state zs

-- bytes promised, and then whether there is debt at these times
unfoldable pub promised : ByteTokenBucket → At → List ℕ → List Said
promised b z times = delay_says (byte_reserve b z.bytes z.time).answer ∷ debts (byte_reserve b z.bytes z.time).state times
  where
    debts : ByteTokenBucket → List ℕ → List Said
    debts b [] = []
    debts b (now ∷ times) = told_says (told (byte_has_debt b now)) ∷ debts b times

-- violations at these times: how many the window counts at the last
unfoldable pub violations : ViolationWindow → ℕ → List ℕ → ℕ
violations w duration [] = w.count
violations w duration (now ∷ times) = violations (window_record w now duration) duration times

-- a message of a peer, whose key is 33 times this byte
pub record Message : Type 0 where
  pub peer : ℕ
  pub size : ℕ
  pub now : ℕ

-- the first byte of each row's key
unfoldable pub peers_of : Peers → List ℕ
peers_of [] = []
peers_of (r ∷ rs) = get_or r.key 0 0 ∷ peers_of rs

-- messages admitted from a fresh policy: each answer, and at the end the peers that have a row
unfoldable pub admitted : PeerMessagePolicyConfig → FiberIngressBudget → Peers → List Message → List Said
admitted c i rs [] = gives (peers_of rs) ∷ []
admitted c i rs (m ∷ ms) =
    cause_says (admit c i rs (replicate 33 m.peer) m.size m.now).cause
    ∷ admitted c (admit c i rs (replicate 33 m.peer) m.size m.now).ingress
    (changed_rows rs (admit c i rs (replicate 33 m.peer) m.size m.now).change)
    ms

-- a peer of the ban tracker
abbrev blamed_peer : List ℕ
blamed_peer = replicate 33 2

-- violations of 25 points by one peer at these times: whether each bans it; and then whether it is banned at those
unfoldable pub blamed : GossipBanConfig → Bans → List ℕ → List ℕ → List Said
blamed c rs [] [] = []
blamed c rs [] (now ∷ asked) =
    told_says (told (tracker.is_banned c blamed_peer now rs).answer)
    ∷ blamed c (table.changed_rows rs (tracker.is_banned c blamed_peer now rs).change) [] asked
blamed c rs (now ∷ times) asked =
    told_says (told (tracker.record_violation c 1024 blamed_peer (violation_score GossipViolation.PolicyRejectedMessage) now rs).answer)
    ∷ blamed c
    (table.changed_rows rs (tracker.record_violation c 1024 blamed_peer (violation_score GossipViolation.PolicyRejectedMessage) now rs).change)
    times
    asked

-- channel updates under keys of 70 equal bytes, asked of a limiter with this limit (their sizes play no part)
unfoldable pub acquired : ChannelUpdateRateLimitConfig → ℕ → Limits → List Message → List Said
acquired c limit rs [] = []
acquired c limit rs (m ∷ ms) =
    told_says (try_acquire c limit (replicate 70 m.peer) m.now rs).answer
    ∷ acquired c limit (table.changed_rows rs (try_acquire c limit (replicate 70 m.peer) m.now rs).change) ms

-- ════ What the steps say ════

abbrev yes : Said
yes = gives (1 ∷ [])

-- a no, short by one
abbrev no : Said
no = gives (0 ∷ 1 ∷ [])

abbrev at : ℕ → ℕ → At
at time bytes = record { time = time; bytes = bytes }

abbrev of : ℕ → ℕ → ℕ → Message
of peer size now = record { peer = peer; size = size; now = now }

-- only a byte limit: message limit off, ban threshold 0, unlimited ceiling
abbrev bytes_only : ℕ → ℕ → PeerMessagePolicyConfig
bytes_only rate burst =
    record {
      peer_message_interval_ms = 0;
      peer_message_burst = 0;
      peer_message_rate_bytes_per_sec = rate;
      peer_message_burst_bytes = burst;
      violation_ban_threshold = 0;
      ban_duration_ms = 0;
      max_tracked_peers = 2;
      max_in_flight_messages = 0;
      max_in_flight_bytes = 0;
    }

-- the samples, in the document's order
unfoldable pub samples_run : List Sample
samples_run =
    record { says = messages (discrete_new 10 2) (59 ∷ 59 ∷ 60 ∷ 69 ∷ 70 ∷ []); document = yes ∷ yes ∷ yes ∷ no ∷ yes ∷ [] }
    ∷ record {
      says = messages (discrete_new 1 2) (4294967296 ∷ 4294967296 ∷ 4294967296 ∷ 4294967295 ∷ []);
      document = yes ∷ yes ∷ no ∷ yes ∷ [];
    }
    ∷ record { says = bytes (byte_new (byte_limit 999 1)) (at 1 1 ∷ at 2 1 ∷ at 3 1 ∷ []); document = yes ∷ no ∷ no ∷ [] }
    ∷ record {
      says = admitted (bytes_only 999 1) (in_flight 0 0) [] (of 2 1 1 ∷ of 2 1 2 ∷ of 2 1 3 ∷ []);
      document = allow ∷ cause_says (Cause.Short (Shortage.Bytes 1)) ∷ allow ∷ gives (2 ∷ []) ∷ [];
    }
    ∷ record { says = promised (byte_new (byte_limit 125 1)) (at 0 2305843009213693953) []; document = gives (0 ∷ []) ∷ [] }
    ∷ record {
      says = promised (byte_new (byte_limit 1 1)) (at 0 18446744073709551615) [];
      document = gives (18446744073709549616 ∷ []) ∷ [];
    }
    ∷ record {
      says = promised (byte_new (byte_limit 3 10)) (at 0 11) (333 ∷ 334 ∷ []);
      document = gives (334 ∷ []) ∷ yes ∷ gives (0 ∷ []) ∷ [];
    }
    ∷ record {
      says = blamed (record { «threshold» = 100; duration_ms = 50 }) [] (7 ∷ 7 ∷ 7 ∷ 7 ∷ []) (56 ∷ 57 ∷ []);
      document = gives (0 ∷ []) ∷ gives (0 ∷ []) ∷ gives (0 ∷ []) ∷ yes ∷ yes ∷ gives (0 ∷ []) ∷ [];
    }
    ∷ record {
      says = acquired (record { interval_ms = 10; «burst» = 1 }) 1 [] (of 0 0 100 ∷ of 1 0 109 ∷ of 1 0 110 ∷ []);
      document = yes ∷ gives (0 ∷ []) ∷ yes ∷ [];
    }
    ∷ record {
      says = gives (violations (window 0 0) 100 (50 ∷ 149 ∷ []) ∷ violations (window 0 0) 100 (50 ∷ 150 ∷ []) ∷ []) ∷ [];
      document = gives (2 ∷ 1 ∷ []) ∷ [];
    }
    ∷ record {
      says = admitted (bytes_only 0 0) (in_flight 0 0) [] (of 2 1 5 ∷ of 3 1 5 ∷ of 4 1 6 ∷ []);
      document = allow ∷ allow ∷ allow ∷ gives (3 ∷ 4 ∷ []) ∷ [];
    }
    ∷ []
