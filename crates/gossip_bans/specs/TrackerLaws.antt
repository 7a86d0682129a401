-- What the Rust's steps come to, by what is found for the peer, and soundness of the record. In order: the record; record_violation;
-- is_banned; score. Assumes nothing.
use Rattle.std.specs.Prelude.{Bool, true, ◌≡◌, List, leb}
use Rattle.std.proofs.Math.Bool.{false, cond}
use Rattle.std.proofs.Math.Path.{sym, ap}
use Rattle.std.proofs.Common.{◌∙◌, arith}
use Rattle.std.proofs.Math.Option.{Option, none, some}
use Prim.Native.Nat.{ℕ, ◌≤◌, ◌<◌}
use borrow.Author.Tests.{leb-true, le-leb}
use Rattle.std.proofs.Math.ListN.{length}
use Rattle.truths.specs.TruthLaws.{by_test, both, both_parts}
use Rattle.table.specs.Table.{ascending, look, erase}
use Rattle.table.specs.LookLaws.{look_erase_same, sub_look_none}
use Rattle.table.specs.PlaceLaws.{length_erase_some}
use Rattle.table.specs.Outcome.{become, same}
use Rattle.table_laws.specs.StoreLaws.{store_erase}
use Rattle.gossip_settings.specs.declared.ban.GossipBanConfig.{GossipBanConfig}
use Rattle.gossip_settings.specs.Settings.{gossip_ban_disabled}
use Rattle.gossip_ban_rows.specs.declared.entry.GossipBanEntry.{GossipBanEntry}
use Rattle.gossip_ban_rows.specs.Entry.{entry_default, is_expired, is_currently_banned, raised, reaches, banned_if_reached}
use Rattle.gossip_ban_rows.specs.Private.{unexpired_or_default, room_for}
use Rattle.gossip_ban_rows.specs.Rows.{Bans}
use Rattle.gossip_ban_rows.specs.Room.{maybe_expire, make_room}
use Rattle.gossip_ban_rows.specs.RoomLaws.{expire_absent, expire_expired, expire_live, make_free, make_present, room_absent, sub_room}
use Rattle.gossip_bans.specs.declared.tracker.GossipBanTracker.{GossipBanTracker}
use Rattle.gossip_bans.specs.Tracker.{limit_of, tracker_sound, turn, or_default, recorded_over, recorded_among, record_violation, is_live, banned_among, is_banned, score_or, score_among, score}

-- ════ The record ════

module _ (t : GossipBanTracker) where
  -- the limit is within 1,024
  pub limit_within : tracker_sound t ≡ true → t.max_entries ≤ 1024
  unfolding tracker_sound
  limit_within h = leb-true _ _ (both_parts (leb t.max_entries 1024) _ h).0

  -- the rows are within the limit
  pub rows_within : tracker_sound t ≡ true → t.rows ≤ limit_of t.max_entries
  unfolding tracker_sound
  rows_within h = leb-true _ _ (both_parts (leb t.max_entries 1024) _ h).1

  pub within_sound : t.max_entries ≤ 1024 → t.rows ≤ limit_of t.max_entries → tracker_sound t ≡ true
  unfolding tracker_sound
  within_sound h k = both (le-leb _ _ h) (le-leb _ _ k)

module _ (c : GossipBanConfig) (k : List ℕ) (now : ℕ) (rs : Bans) where
  -- ════ record_violation ════

  module _ (limit points : ℕ) where
    -- bans are off
    pub violation_off : gossip_ban_disabled c ≡ true → record_violation c limit k points now rs ≡ turn false same
    unfolding record_violation
    violation_off h = rw h

    module _ (on : gossip_ban_disabled c ≡ false) (order : ascending rs ≡ true) (few : length rs ≤ limit) where
      -- rows after expiry and room, and what is then found for the peer
      stepped : (qs : Bans) (found : Option GossipBanEntry) → make_room limit c.duration_ms now k (maybe_expire c.duration_ms now k rs) ≡ qs
          → look k qs ≡ found → record_violation c limit k points now rs ≡ recorded_over c k points now qs (or_default found)
      unfolding record_violation
      stepped qs found room looked =
          ap (λ (b : Bool). cond b (turn false same) (recorded_among c k points now (make_room limit c.duration_ms now k (maybe_expire c.duration_ms now k rs)))) on
          ∙ ap (recorded_among c k points now) room ∙ ap (λ (o : Option GossipBanEntry). recorded_over c k points now qs (or_default o)) looked

      -- the peer has an entry: it is added to, or made anew where it is expired, in its place; no other row goes
      pub violation_known : (e : GossipBanEntry) → look k rs ≡ some e
          → record_violation c limit k points now rs ≡ recorded_over c k points now rs (unexpired_or_default e c.duration_ms now)
      unfolding unexpired_or_default
      violation_known e found =
          let duration : ℕ = c.duration_ms in
          by_test (is_expired e duration now)
          (λ h. let gone : maybe_expire duration now k rs ≡ erase k rs = expire_expired duration now k rs e found h in
          let fewer : length (erase k rs) < limit = omega (arith, length_erase_some k rs found) in
          let x : GossipBanEntry = raised entry_default points now in
          stepped (erase k rs) none (ap (make_room limit duration now k) gone ∙ make_free limit duration now k (erase k rs) fewer) (look_erase_same k rs order)
          ∙ ap (λ (qs : Bans). turn (reaches c x) (become qs)) (store_erase k (banned_if_reached c x now) rs order)
          ∙ sym (ap (λ (b : Bool). recorded_over c k points now rs (cond b entry_default e)) h))
          (λ h. let stays : maybe_expire duration now k rs ≡ rs = expire_live duration now k rs e found h in
          stepped rs (some e) (ap (make_room limit duration now k) stays ∙ make_present limit duration now k rs found) found
          ∙ sym (ap (λ (b : Bool). recorded_over c k points now rs (cond b entry_default e)) h))

      -- the peer has none: room is made for a new one
      pub violation_new : 0 < limit → look k rs ≡ none
          → record_violation c limit k points now rs ≡ recorded_over c k points now (room_for limit c.duration_ms now rs) entry_default
      violation_new least found =
          let duration : ℕ = c.duration_ms in
          stepped (room_for limit duration now rs) none
          (ap (make_room limit duration now k) (expire_absent duration now k rs found) ∙ room_absent limit duration now k rs found order least few)
          (sub_look_none (sub_room limit duration now rs) order k found)

  -- ════ is_banned ════

  -- bans are off
  pub banned_off : gossip_ban_disabled c ≡ true → is_banned c k now rs ≡ turn false same
  unfolding is_banned
  banned_off h = rw h

  module _ (on : gossip_ban_disabled c ≡ false) where
    banned_among_lem : (qs : Bans) (found : Option GossipBanEntry) → maybe_expire c.duration_ms now k rs ≡ qs → look k qs ≡ found
        → is_banned c k now rs ≡ turn (is_live now found) (become qs)
    unfolding is_banned
    banned_among_lem qs found step looked =
        ap (λ (b : Bool). cond b (turn false same) (banned_among k now (maybe_expire c.duration_ms now k rs))) on
        ∙ ap (banned_among k now) step ∙ ap (λ (o : Option GossipBanEntry). turn (is_live now o) (become qs)) looked

    -- the peer has no entry
    pub banned_absent : look k rs ≡ none → is_banned c k now rs ≡ turn false (become rs)
    banned_absent found = banned_among_lem rs none (expire_absent c.duration_ms now k rs found) found

    -- its entry is expired
    pub banned_expired : (e : GossipBanEntry) → ascending rs ≡ true → look k rs ≡ some e → is_expired e c.duration_ms now ≡ true
        → is_banned c k now rs ≡ turn false (become (erase k rs))
    banned_expired e order found h =
        banned_among_lem (erase k rs) none (expire_expired c.duration_ms now k rs e found h) (look_erase_same k rs order)

    -- it is not
    pub banned_live : (e : GossipBanEntry) → look k rs ≡ some e → is_expired e c.duration_ms now ≡ false
        → is_banned c k now rs ≡ turn (is_currently_banned e now) (become rs)
    banned_live e found h = banned_among_lem rs (some e) (expire_live c.duration_ms now k rs e found h) found

  -- ════ Score ════

  score_among_lem : (qs : Bans) (found : Option GossipBanEntry) → maybe_expire c.duration_ms now k rs ≡ qs → look k qs ≡ found
      → score c k now rs ≡ turn (score_or found) (become qs)
  unfolding score
  score_among_lem qs found step looked =
      ap (score_among k) step ∙ ap (λ (o : Option GossipBanEntry). turn (score_or o) (become qs)) looked

  -- the peer has no entry
  pub score_absent : look k rs ≡ none → score c k now rs ≡ turn 0 (become rs)
  score_absent found = score_among_lem rs none (expire_absent c.duration_ms now k rs found) found

  -- its entry is expired
  pub score_expired : (e : GossipBanEntry) → ascending rs ≡ true → look k rs ≡ some e → is_expired e c.duration_ms now ≡ true
      → score c k now rs ≡ turn 0 (become (erase k rs))
  score_expired e order found h =
      score_among_lem (erase k rs) none (expire_expired c.duration_ms now k rs e found h) (look_erase_same k rs order)

  -- it is not
  pub score_live : (e : GossipBanEntry) → look k rs ≡ some e → is_expired e c.duration_ms now ≡ false
      → score c k now rs ≡ turn e.score (become rs)
  score_live e found h = score_among_lem rs (some e) (expire_live c.duration_ms now k rs e found h) found
