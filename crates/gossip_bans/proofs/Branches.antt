-- Each call by its cases, over plain lists and numbers: what was judged, found and written is what the contract says. In order: any call;
-- making; record_violation; is_banned; score; prune_expired. Assumes nothing.
use Rattle.std.specs.Prelude.{Result, Ok, Err}
use Rattle.refusal.specs.declared.Refusal.{Refusal}
use mathlib.Core.Path.{◌≡◌, refl, sym, ap, ◌∙◌, subst}
use mathlib.Core.Bool.{Bool, true, false, cond}
use mathlib.Core.List.{List, []}
use mathlib.Core.Option.{none, some}
use Prim.Native.Nat.{ℕ, ◌*◌, ◌/◌, ◌≤◌, ◌<◌}
use native.Mathlib.Omega.{arith}
use borrow.Author.Tests.{lt-ltb, le-ltb}
use lib.ListN.{length}
use Rattle.truths.specs.TruthLaws.{by_test}
use Rattle.lent_bytes.specs.LentBytes.{put, zeros, Bytes}
use Rattle.pubkey.specs.declared.Pubkey.{Pubkey}
use Rattle.bucket_terms.specs.Answers.{told}
use Rattle.table.specs.Table.{look, store, erase}
use Rattle.table.specs.MemoryLaws.{length_rows, holds, put_clear}
use Rattle.table.specs.Outcome.{same, become, Outcome, Meets}
use Rattle.table_laws.specs.LentLaws.{long_enough_lem, too_short_lem}
use Rattle.table_laws.specs.ChangeLaws.{unchanged}
use Rattle.gossip_settings.specs.declared.ban.GossipBanConfig.{GossipBanConfig}
use Rattle.gossip_settings.specs.declared.violation.GossipViolation.{GossipViolation}
use Rattle.gossip_settings.specs.Settings.{gossip_ban_disabled, violation_score}
use Rattle.gossip_ban_rows.specs.declared.entry.GossipBanEntry.{GossipBanEntry}
use Rattle.gossip_ban_rows.specs.Entry.{entry_default, is_expired, is_currently_banned, raised, reaches, banned_if_reached}
use Rattle.gossip_ban_rows.specs.Private.{unexpired_or_default, room_for}
use Rattle.gossip_ban_rows.specs.Rows.{Bans, ban_layout}
use Rattle.gossip_ban_rows.specs.RowsLaws.{ban_faithful}
use Rattle.gossip_ban_rows.specs.Room.{prune_expired}
use Rattle.gossip_bans.specs.declared.tracker.GossipBanTracker.{GossipBanTracker}
use Rattle.gossip_bans.specs.Tracker.{rows_of, limit_of, sound, turn, recorded_over, record_violation}
use Rattle.gossip_bans.specs.TrackerLaws.{violation_off, violation_known, violation_new, banned_off, banned_absent, banned_expired, banned_live, score_absent, score_expired, score_live}
use Rattle.gossip_bans.specs.Calls.{carried, fresh, made_outcome, MadeMeets, ban_told, record_violation_outcome, RecordViolationMeets, is_banned_outcome, IsBannedMeets, ban_scored, score_outcome, ScoreMeets, ban_pruned, prune_expired_outcome, PruneExpiredMeets}
use Rattle.gossip_bans.specs.Private.{Left}
use Rattle.gossip_bans.proofs.Judged.{few_rows, rows_fit, order}

-- ════ Any call ════

-- a call on a sound tracker: what it comes to on the rows
met : {R P : Type 0} (pair : GossipBanTracker → R → P) (refused : Outcome GossipBanEntry P) (t : GossipBanTracker) (s u : List ℕ) {r : P} {o q : Outcome GossipBanEntry R}
    → sound t s ≡ true → o ≡ q → Meets ban_layout r s u t.rows (carried pair t q)
    → Meets ban_layout r s u t.rows (cond (sound t s) (carried pair t o) refused)
met {R} {P} pair refused t s u {r} {o} h e m =
    rw h (subst (λ (x : Outcome GossipBanEntry R). Meets ban_layout r s u t.rows (carried pair t x)) (sym e) m)

-- a call that is refused
refuses : {P : Type 0} (done : Outcome GossipBanEntry P) (t : GossipBanTracker) (s : List ℕ) (r : P) → sound t s ≡ false
    → Meets ban_layout r s s t.rows (cond (sound t s) done (turn r same))
refuses done t s r h = rw h (record { answers = refl; leaves = refl })

module _ {R P : Type 0} (pair : GossipBanTracker → R → P) (t : GossipBanTracker) (s : List ℕ) (answer : R) where
  -- nothing changed
  stays : Meets ban_layout (pair t answer) s s t.rows (carried pair t (turn answer same))
  stays = record { answers = refl; leaves = refl }

  -- the rows became these
  becomes : (rs : Bans) (q : GossipBanTracker) (u : List ℕ) → Left t s rs q u
      → Meets ban_layout (pair q answer) s u t.rows (carried pair t (turn answer (become rs)))
  becomes rs q u left = record { answers = ap (λ (x : GossipBanTracker). pair x answer) left.tracker; leaves = left.memory }

  -- they became what they were
  keeps : Bytes s → sound t s ≡ true → Meets ban_layout (pair t answer) s s t.rows (carried pair t (turn answer (become (rows_of t s))))
  keeps b h =
      becomes (rows_of t s) t s
      (record {
        tracker = ap (λ (n : ℕ). record { config = t.config; max_entries = t.max_entries; rows = n }) (sym (length_rows ban_layout s t.rows));
        memory = unchanged ban_faithful s s t.rows b (rows_fit t s h) refl;
      })

-- ════ Making ════

module _ (c : GossipBanConfig) (limit : ℕ) (s : List ℕ) where
  pub made_large : 1024 < limit → MadeMeets c limit s (Err Refusal.LimitTooLarge) s
  unfolding MadeMeets made_outcome
  made_large h = rw (lt-ltb 1024 limit h) (record { answers = refl; leaves = refl })

  module _ (h : limit ≤ 1024) where
    pub made_short : length s / 65 < limit_of limit → MadeMeets c limit s (Err Refusal.TooShort) s
    unfolding MadeMeets made_outcome
    made_short l = rw (le-ltb 1024 limit h, too_short_lem ban_layout (limit_of limit) s (omega arith) l) (record { answers = refl; leaves = refl })

    pub made_fresh : limit_of limit ≤ length s / 65 → (u : List ℕ) → u ≡ put s 0 (zeros (65 * limit_of limit)) → MadeMeets c limit s (Ok (fresh c limit)) u
    unfolding MadeMeets made_outcome
    made_fresh l u e =
        rw (le-ltb 1024 limit h, long_enough_lem ban_layout (limit_of limit) s (omega arith) l)
        (record { answers = refl; leaves = holds ban_faithful s u (limit_of limit) [] tt (e ∙ put_clear ban_faithful s (limit_of limit)) })

-- ════ record_violation ════

module _ (t : GossipBanTracker) (s : List ℕ) (k : Pubkey) (v : GossipViolation) (now : ℕ) where
  pub violation_unsound : sound t s ≡ false → RecordViolationMeets t s k v now (record { state = t; answer = Err Refusal.Unsound }) s
  unfolding RecordViolationMeets record_violation_outcome
  violation_unsound h = refuses _ t s _ h

  module _ (h : sound t s ≡ true) where
    pub violated_off : gossip_ban_disabled t.config ≡ true → RecordViolationMeets t s k v now (ban_told t false) s
    unfolding RecordViolationMeets record_violation_outcome
    violated_off off =
        met ban_told _ t s s h (violation_off t.config k.bytes now (rows_of t s) (limit_of t.max_entries) (violation_score v) off)
        (stays ban_told t s false)

    module _ (on : gossip_ban_disabled t.config ≡ false) (q : GossipBanTracker) (u : List ℕ) (points : ℕ) (is : points ≡ violation_score v) where
      -- the entry was raised, the answer is whether it bans, and it was stored among these rows
      module _ (before x y : GossipBanEntry) (bans : Bool) (answer : Result Bool Refusal) (rs : Bans)
          (step : record_violation t.config (limit_of t.max_entries) k.bytes (violation_score v) now (rows_of t s) ≡ recorded_over t.config k.bytes (violation_score v) now rs before)
          (raised_is : x ≡ raised before points now) (bans-is : bans ≡ reaches t.config x) (answer_is : answer ≡ told bans)
          (ban-is : y ≡ banned_if_reached t.config x now) where
        violated_over : Left t s (store k.bytes y rs) q u → RecordViolationMeets t s k v now (record { state = q; answer = answer }) u
        unfolding RecordViolationMeets record_violation_outcome
        violated_over left =
            let z : GossipBanEntry = raised before (violation_score v) now in
            let same_entry : x ≡ z = raised_is ∙ ap (λ (n : ℕ). raised before n now) is in
            let said : answer ≡ told (reaches t.config z) = answer_is ∙ ap told (bans-is ∙ ap (reaches t.config) same_entry) in
            let stored : y ≡ banned_if_reached t.config z now = ban-is ∙ ap (λ (e : GossipBanEntry). banned_if_reached t.config e now) same_entry in
            let here : Left t s (store k.bytes (banned_if_reached t.config z now) rs) q u =
            subst (λ (e : GossipBanEntry). Left t s (store k.bytes e rs) q u) stored left in
            met ban_told _ t s u h step
            (record {
              answers = ap (λ (a : Result Bool Refusal). record { state = q; answer = a }) said ∙ ap (λ (w : GossipBanTracker). ban_told w (reaches t.config z)) here.tracker;
              leaves = here.memory;
            })

      pub violated_known : (e kept x y : GossipBanEntry) (bans : Bool) (answer : Result Bool Refusal) → look k.bytes (rows_of t s) ≡ some e
          → kept ≡ unexpired_or_default e t.config.duration_ms now → x ≡ raised kept points now → bans ≡ reaches t.config x → answer ≡ told bans
          → y ≡ banned_if_reached t.config x now → Left t s (store k.bytes y (rows_of t s)) q u
          → RecordViolationMeets t s k v now (record { state = q; answer = answer }) u
      violated_known e kept x y bans answer found kept-is raised_is =
          violated_over (unexpired_or_default e t.config.duration_ms now) x y bans answer (rows_of t s)
          (violation_known t.config k.bytes now (rows_of t s) (limit_of t.max_entries) (violation_score v) on (order t s h) (few_rows t s h) e found)
          (raised_is ∙ ap (λ (b : GossipBanEntry). raised b points now) kept-is)

      pub violated_new : (first x y : GossipBanEntry) (bans : Bool) (answer : Result Bool Refusal) → look k.bytes (rows_of t s) ≡ none → first ≡ entry_default
          → x ≡ raised first points now → bans ≡ reaches t.config x → answer ≡ told bans → y ≡ banned_if_reached t.config x now
          → Left t s (store k.bytes y (room_for (limit_of t.max_entries) t.config.duration_ms now (rows_of t s))) q u
          → RecordViolationMeets t s k v now (record { state = q; answer = answer }) u
      violated_new first x y bans answer found first-is raised_is =
          violated_over entry_default x y bans answer (room_for (limit_of t.max_entries) t.config.duration_ms now (rows_of t s))
          (violation_new t.config k.bytes now (rows_of t s) (limit_of t.max_entries) (violation_score v) on (order t s h) (few_rows t s h) (omega arith) found)
          (raised_is ∙ ap (λ (b : GossipBanEntry). raised b points now) first-is)

-- ════ is_banned ════

module _ (t : GossipBanTracker) (s : List ℕ) (k : Pubkey) (now : ℕ) where
  pub standing_unsound : sound t s ≡ false → IsBannedMeets t s k now (record { state = t; answer = Err Refusal.Unsound }) s
  unfolding IsBannedMeets is_banned_outcome
  standing_unsound h = refuses _ t s _ h

  module _ (h : sound t s ≡ true) where
    pub standing_off : gossip_ban_disabled t.config ≡ true → IsBannedMeets t s k now (ban_told t false) s
    unfolding IsBannedMeets is_banned_outcome
    standing_off off = met ban_told _ t s s h (banned_off t.config k.bytes now (rows_of t s) off) (stays ban_told t s false)

    pub standing_absent : Bytes s → look k.bytes (rows_of t s) ≡ none → IsBannedMeets t s k now (ban_told t false) s
    unfolding IsBannedMeets is_banned_outcome
    standing_absent b found =
        by_test (gossip_ban_disabled t.config)
        (λ off. met ban_told _ t s s h (banned_off t.config k.bytes now (rows_of t s) off) (stays ban_told t s false))
        (λ on. met ban_told _ t s s h (banned_absent t.config k.bytes now (rows_of t s) on found) (keeps ban_told t s false b h))

    module _ (on : gossip_ban_disabled t.config ≡ false) (e : GossipBanEntry) (found : look k.bytes (rows_of t s) ≡ some e) where
      pub standing_expired : is_expired e t.config.duration_ms now ≡ true → (q : GossipBanTracker) (u : List ℕ)
          → Left t s (erase k.bytes (rows_of t s)) q u → IsBannedMeets t s k now (ban_told q false) u
      unfolding IsBannedMeets is_banned_outcome
      standing_expired x q u left =
          met ban_told _ t s u h (banned_expired t.config k.bytes now (rows_of t s) on e (order t s h) found x) (becomes ban_told t s false _ q u left)

      pub standing_live : Bytes s → is_expired e t.config.duration_ms now ≡ false → IsBannedMeets t s k now (ban_told t (is_currently_banned e now)) s
      unfolding IsBannedMeets is_banned_outcome
      standing_live b x =
          met ban_told _ t s s h (banned_live t.config k.bytes now (rows_of t s) on e found x) (keeps ban_told t s (is_currently_banned e now) b h)

  -- ════ Score ════

  pub scored_unsound : sound t s ≡ false → ScoreMeets t s k now (record { state = t; answer = Err Refusal.Unsound }) s
  unfolding ScoreMeets score_outcome
  scored_unsound h = refuses _ t s _ h

  module _ (h : sound t s ≡ true) where
    pub scored_absent : Bytes s → look k.bytes (rows_of t s) ≡ none → ScoreMeets t s k now (ban_scored t 0) s
    unfolding ScoreMeets score_outcome
    scored_absent b found = met ban_scored _ t s s h (score_absent t.config k.bytes now (rows_of t s) found) (keeps ban_scored t s 0 b h)

    module _ (e : GossipBanEntry) (found : look k.bytes (rows_of t s) ≡ some e) where
      pub scored_expired : is_expired e t.config.duration_ms now ≡ true → (q : GossipBanTracker) (u : List ℕ)
          → Left t s (erase k.bytes (rows_of t s)) q u → ScoreMeets t s k now (ban_scored q 0) u
      unfolding ScoreMeets score_outcome
      scored_expired x q u left =
          met ban_scored _ t s u h (score_expired t.config k.bytes now (rows_of t s) e (order t s h) found x) (becomes ban_scored t s 0 _ q u left)

      pub scored_live : Bytes s → is_expired e t.config.duration_ms now ≡ false → ScoreMeets t s k now (ban_scored t e.score) s
      unfolding ScoreMeets score_outcome
      scored_live b x = met ban_scored _ t s s h (score_live t.config k.bytes now (rows_of t s) e found x) (keeps ban_scored t s e.score b h)

-- ════ prune_expired ════

module _ (t : GossipBanTracker) (s : List ℕ) (now : ℕ) where
  pub pruned_unsound : sound t s ≡ false → PruneExpiredMeets t s now (ban_pruned t (Err Refusal.Unsound)) s
  unfolding PruneExpiredMeets prune_expired_outcome
  pruned_unsound h = refuses _ t s _ h

  pub pruned_done_lem : sound t s ≡ true → (q : GossipBanTracker) (u : List ℕ) → Left t s (prune_expired t.config.duration_ms now (rows_of t s)) q u
      → PruneExpiredMeets t s now (ban_pruned q (Ok tt)) u
  unfolding PruneExpiredMeets prune_expired_outcome
  pruned_done_lem h q u left = met ban_pruned _ t s u h refl (becomes ban_pruned t s (Ok tt) _ q u left)
