-- A fresh tracker is sound, and every call on a sound tracker leaves a sound one, the settings, and the memory's length. In order: entries;
-- a change kept; what each call makes of the rows; making; the calls. Assumes nothing.
use Rattle.std.specs.Prelude.{◌≡◌, Bool, false, ◌&&◌, ◌||◌, cond, ℕ, ◌+◌, ◌*◌, ◌≤◌, ◌<◌, min, ltb, leb, eqb, Result, Ok, Err}
use Rattle.std.proofs.Math.Path.{refl, ap}
use Rattle.std.proofs.Common.{sym, ◌∙◌, subst, arith}
use Rattle.std.proofs.Math.Bool.{true}
use Rattle.refusal.specs.declared.Refusal.{Refusal}
use Rattle.refusal.specs.declared.Refusal.TheVariants as Refusal
use mathlib.Core.List.{List, []}
use Rattle.std.proofs.Math.Option.{Option, none, some}
use borrow.Author.Tests.{leb-true, le-leb, ltb-false}
use Rattle.std.proofs.Math.ListN.{length}
use Rattle.truths.specs.TruthLaws.{by_test, both, both_parts}
use Rattle.lent_bytes.specs.LentBytes.{Bytes}
use Rattle.pubkey.specs.declared.Pubkey.{Pubkey}
use Rattle.table.specs.Table.{every, ascending, look}
use Rattle.table.specs.LookLaws.{look_rule, sub_look_none}
use Rattle.table.specs.PlaceLaws.{length_store_some, length_store_none}
use Rattle.table.specs.Memory.{rows}
use Rattle.table.specs.Outcome.{Change, become, count_after, Memory, Outcome, Meets}
use Rattle.table_laws.specs.Lent.{long_enough}
use Rattle.table_laws.specs.LentLaws.{own_sound_lem}
use Rattle.table_laws.specs.WordsLaws.{OfNumbers, of_numbers, length_encode, encode_bytes}
use Rattle.table_laws.specs.Kept.{Key, Encodes, RowsHold, ChangeHolds, LentHolds, LentKept}
use Rattle.table_laws.specs.KeptLaws.{sub_hold, store_hold, lent_holds, holds_lent, rows_hold, change_kept, length_laid_keyed}
use Rattle.gossip_settings.specs.declared.ban.GossipBanConfig.{GossipBanConfig}
use Rattle.gossip_settings.specs.declared.violation.GossipViolation.{GossipViolation}
use Rattle.gossip_settings.specs.Settings.{gossip_ban_disabled, violation_score}
use Rattle.gossip_ban_rows.specs.declared.entry.GossipBanEntry.{GossipBanEntry}
use Rattle.gossip_ban_rows.specs.Entry.{entry_default, raised, reaches, banned_if_reached, is_expired, entry_sound}
use Rattle.gossip_ban_rows.specs.Private.{unexpired_or_default, room_for}
use Rattle.gossip_ban_rows.specs.Rows.{key_width, row_width, Bans, ban_numbers, ban_layout, ban_sound}
use Rattle.gossip_ban_rows.specs.Room.{maybe_expire, prune_expired}
use Rattle.gossip_ban_rows.specs.RoomLaws.{sub_expire, sub_prune, sub_room, room_for_one}
use Rattle.gossip_bans.specs.declared.tracker.GossipBanTracker.{GossipBanTracker}
use Rattle.gossip_bans.specs.Handed.{BanTold, BanScored, BanPruned}
use Rattle.gossip_bans.specs.Tracker.{rows_of, limit_of, tracker_sound, sound, turn, record_violation, is_banned, score}
use Rattle.gossip_bans.specs.TrackerLaws.{limit_within, rows_within, within_sound, violation_off, violation_known, violation_new}
use Rattle.gossip_bans.specs.Calls.{tracker_after, carried, refuse, fresh, made_outcome, MadeMeets, ban_told, record_violation_outcome, RecordViolationMeets, is_banned_outcome, IsBannedMeets, ban_scored, score_outcome, ScoreMeets, ban_pruned, prune_expired_outcome, PruneExpiredMeets}

-- ════ Entries ════

-- a mark of 1, or no ban and no end
abbrev marked : ℕ → ℕ → Bool
marked mark until = eqb mark 1 || (eqb mark 0 && eqb until 0)

-- points more keep an entry's rules
raised_sound : (e : GossipBanEntry) (points now : ℕ) → entry_sound e ≡ true → entry_sound (raised e points now) ≡ true
unfolding entry_sound
raised_sound e points now h =
    both (le-leb (min (e.score + points) 4294967295) 4294967295 (omega arith)) (both_parts (leb e.score 4294967295) (marked e.mark e.until_ms) h).1

-- so does a ban that begins
ban_sound_lem : (c : GossipBanConfig) (e : GossipBanEntry) (now : ℕ) → entry_sound e ≡ true → entry_sound (banned_if_reached c e now) ≡ true
unfolding entry_sound banned_if_reached
ban_sound_lem c e now h =
    by_test (reaches c e)
    (λ t. rw t (both (both_parts (leb e.score 4294967295) (marked e.mark e.until_ms) h).0 refl))
    (λ t. rw t h)

-- and so does an entry made anew
anew_sound : (e : GossipBanEntry) (duration now : ℕ) → entry_sound e ≡ true → entry_sound (unexpired_or_default e duration now) ≡ true
unfolding entry_sound unexpired_or_default
anew_sound e duration now h = by_test (is_expired e duration now) (λ t. rw t) (λ t. rw t h)

default_sound : entry_sound entry_default ≡ true
unfolding entry_sound
default_sound = refl

-- ════ A change kept ════

-- what a call leaves of a tracker and its memory: soundness, the memory's length, bytes, and the settings
pub record BanKept (t : GossipBanTracker) (s : List ℕ) (q : GossipBanTracker) (u : List ℕ) : Type 0 where
  pub stays_sound : sound q u ≡ true
  pub same_length : length u ≡ length s
  pub holds_bytes : Bytes u
  pub same_settings : q.config ≡ t.config
  pub same_limit : q.max_entries ≡ t.max_entries

ban_of_numbers : OfNumbers ban_layout ban_numbers
ban_of_numbers = of_numbers key_width row_width ban_numbers (omega arith) refl (λ e. refl) (λ e. refl) (λ s. refl)

ban_encodes : Encodes ban_layout
ban_encodes = record { key_fits = omega arith; length_encode = length_encode ban_of_numbers; encode_bytes = encode_bytes ban_of_numbers }

module _ (t : GossipBanTracker) (s : List ℕ) (h : sound t s ≡ true) (b : Bytes s) where
  own : tracker_sound t ≡ true
  own = own_sound_lem ban_layout ban_sound (tracker_sound t) (limit_of t.max_entries) s t.rows h

  held : LentHolds ban_layout ban_sound (limit_of t.max_entries) s t.rows
  held = lent_holds ban_layout ban_sound (limit_of t.max_entries) s t.rows (tracker_sound t) (rows_within t own) h

  -- the rows of a sound tracker
  tracked_hold : RowsHold ban_layout ban_sound (limit_of t.max_entries) (rows_of t s)
  tracked_hold = rows_hold ban_layout ban_sound (limit_of t.max_entries) s t.rows (omega arith) held b

  -- a change to rows that hold
  changed : (u : List ℕ) (change : Change GossipBanEntry) → ChangeHolds ban_layout ban_sound (limit_of t.max_entries) change
      → Memory ban_layout s u t.rows change → BanKept t s (tracker_after t change) u
  changed u change rs m =
      let kept : LentKept ban_layout ban_sound (limit_of t.max_entries) s u t.rows change =
      change_kept ban_encodes ban_sound (limit_of t.max_entries) s u t.rows change held b rs m in
      record {
        stays_sound =
            holds_lent ban_layout ban_sound (limit_of t.max_entries) u (count_after t.rows change)
            (within_sound (tracker_after t change) (limit_within t own) kept.holds.few) kept.holds;
        same_length = kept.same_length;
        holds_bytes = kept.holds_bytes;
        same_settings = refl;
        same_limit = refl;
      }

  -- a call that is carried out, whatever it answers
  carried_kept : {R P : Type 0} (pair : GossipBanTracker → R → P) (tracker_of : P → GossipBanTracker) → ((q : GossipBanTracker) (a : R) → tracker_of (pair q a) ≡ q)
      → (u : List ℕ) (r : P) (o : Outcome GossipBanEntry R) {out : Outcome GossipBanEntry P} → out ≡ carried pair t o
      → ChangeHolds ban_layout ban_sound (limit_of t.max_entries) o.change → Meets ban_layout r s u t.rows out → BanKept t s (tracker_of r) u
  carried_kept {R} {P} pair tracker_of beside u r o e rs m =
      let met : Meets ban_layout r s u t.rows (carried pair t o) = subst (λ (x : Outcome GossipBanEntry P). Meets ban_layout r s u t.rows x) e m in
      subst (λ (q : GossipBanTracker). BanKept t s q u) (sym (ap tracker_of met.answers ∙ beside (tracker_after t o.change) o.answer))
      (changed u o.change rs met.leaves)

-- ════ What each call makes of the rows ════

module _ (c : GossipBanConfig) (limit now : ℕ) (k : List ℕ) (rs : Bans) (h : RowsHold ban_layout ban_sound limit rs) where
  expired_holds : RowsHold ban_layout ban_sound limit (maybe_expire c.duration_ms now k rs)
  expired_holds = sub_hold ban_layout ban_sound limit (sub_expire c.duration_ms now k rs) h

  is_banned_holds : ChangeHolds ban_layout ban_sound limit (is_banned c k now rs).change
  unfolding is_banned
  is_banned_holds = by_test (gossip_ban_disabled c) (λ t. rw t tt) (λ t. rw t expired_holds)

  score_holds : ChangeHolds ban_layout ban_sound limit (score c k now rs).change
  unfolding score
  score_holds = expired_holds

  prune_holds : RowsHold ban_layout ban_sound limit (prune_expired c.duration_ms now rs)
  prune_holds = sub_hold ban_layout ban_sound limit (sub_prune c.duration_ms now rs) h

  module _ (points : ℕ) (key : Key ban_layout k) (least : 0 < limit) where
    -- an entry that a violation was added to
    violated_sound : (e : GossipBanEntry) → entry_sound e ≡ true → entry_sound (banned_if_reached c (raised e points now) now) ≡ true
    violated_sound e sound-entry = ban_sound_lem c (raised e points now) now (raised_sound e points now sound-entry)

    violation_by : gossip_ban_disabled c ≡ false → (found : Option GossipBanEntry) → look k rs ≡ found
        → ChangeHolds ban_layout ban_sound limit (record_violation c limit k points now rs).change
    violation_by on none l =
        let left : Bans = room_for limit c.duration_ms now rs in
        let x : GossipBanEntry = banned_if_reached c (raised entry_default points now) now in
        let gone : look k left ≡ none = sub_look_none (sub_room limit c.duration_ms now rs) h.order k l in
        subst (λ (o : Outcome GossipBanEntry Bool). ChangeHolds ban_layout ban_sound limit o.change)
        (sym (violation_new c k now rs limit points on h.order h.few least l))
        (store_hold ban_layout ban_sound limit k x left key (violated_sound entry_default default_sound)
        (sub_hold ban_layout ban_sound limit (sub_room limit c.duration_ms now rs) h)
        (omega (arith, length_store_none k left x gone, room_for_one limit c.duration_ms now rs least h.few)))
    violation_by on (some e) l =
        let start : GossipBanEntry = unexpired_or_default e c.duration_ms now in
        let x : GossipBanEntry = banned_if_reached c (raised start points now) now in
        let sound-start : entry_sound start ≡ true = anew_sound e c.duration_ms now (look_rule ban_sound k rs h.rules l) in
        subst (λ (o : Outcome GossipBanEntry Bool). ChangeHolds ban_layout ban_sound limit o.change)
        (sym (violation_known c k now rs limit points on h.order h.few e l))
        (store_hold ban_layout ban_sound limit k x rs key (violated_sound start sound-start) h (omega (arith, length_store_some k rs x l, h.few)))

    violation_holds : ChangeHolds ban_layout ban_sound limit (record_violation c limit k points now rs).change
    violation_holds =
        by_test (gossip_ban_disabled c)
        (λ t. subst (λ (o : Outcome GossipBanEntry Bool). ChangeHolds ban_layout ban_sound limit o.change) (sym (violation_off c k now rs limit points t)) tt)
        (λ t. violation_by t (look k rs) refl)

-- ════ Making ════

module _ (c : GossipBanConfig) (limit : ℕ) (s u : List ℕ) where
  made_as : {r : Result GossipBanTracker Refusal} {t : GossipBanTracker} (large long : Bool) → r ≡ Ok t
      → Meets ban_layout r s u (limit_of limit) (cond large (refuse (Err Refusal.LimitTooLarge)) (cond long (turn (Ok (fresh c limit)) (become [])) (refuse (Err Refusal.TooShort))))
      → (t ≡ fresh c limit) × ((large ≡ false) × ((long ≡ true) × Memory ban_layout s u (limit_of limit) (become [])))
  made_as true long e m = absurd (let z : ◌≡◌ {A = ℕ} 0 1 = cc m.answers in omega arith)
  made_as false false e m = absurd (let z : ◌≡◌ {A = ℕ} 0 1 = cc m.answers in omega arith)
  made_as false true e m = (cc m.answers, (refl, (refl, m.leaves)))

  -- a tracker that was made is sound in its memory, which keeps its length
  pub fresh_sound : (t : GossipBanTracker) → Bytes s → MadeMeets c limit s (Ok t) u
      → (sound t u ≡ true) × ((length u ≡ length s) × (t ≡ fresh c limit))
  unfolding MadeMeets made_outcome every ascending rows
  fresh_sound t b m =
      let parts = made_as (ltb 1024 limit) (long_enough ban_layout (limit_of limit) s) refl m in
      let within : limit ≤ 1024 = ltb-false 1024 limit parts.1.0 in
      let long : row_width * limit_of limit ≤ length s = leb-true (row_width * limit_of limit) (length s) parts.1.1.0 in
      let same_length : length u ≡ length s =
      ap length parts.1.1.1.memory ∙ length_laid_keyed ban_encodes s (limit_of limit) [] tt long (omega arith) in
      let here : sound (fresh c limit) u ≡ true =
      holds_lent ban_layout ban_sound (limit_of limit) u 0 (within_sound (fresh c limit) within (omega arith))
      (record { few = omega arith; long = omega arith; rules = refl; order = refl }) in
      (subst (λ (q : GossipBanTracker). sound q u ≡ true) (sym parts.0) here, (same_length, parts.0))

-- ════ The calls ════

module _ (t : GossipBanTracker) (s u : List ℕ) (now : ℕ) (h : sound t s ≡ true) (b : Bytes s) where
  module _ (k : Pubkey) where
    pub record_violation_kept : (v : GossipViolation) (r : BanTold) → Key ban_layout k.bytes → RecordViolationMeets t s k v now r u → BanKept t s r.state u
    unfolding RecordViolationMeets record_violation_outcome
    record_violation_kept v r key m =
        carried_kept t s h b ban_told (λ (p : BanTold). p.state) (λ q a. refl) u r
        (record_violation t.config (limit_of t.max_entries) k.bytes (violation_score v) now (rows_of t s)) (rw h)
        (violation_holds t.config (limit_of t.max_entries) now k.bytes (rows_of t s) (tracked_hold t s h b) (violation_score v) key (omega arith)) m

    pub is_banned_kept : (r : BanTold) → IsBannedMeets t s k now r u → BanKept t s r.state u
    unfolding IsBannedMeets is_banned_outcome
    is_banned_kept r m =
        carried_kept t s h b ban_told (λ (p : BanTold). p.state) (λ q a. refl) u r (is_banned t.config k.bytes now (rows_of t s)) (rw h)
        (is_banned_holds t.config (limit_of t.max_entries) now k.bytes (rows_of t s) (tracked_hold t s h b)) m

    pub score_kept : (r : BanScored) → ScoreMeets t s k now r u → BanKept t s r.state u
    unfolding ScoreMeets score_outcome
    score_kept r m =
        carried_kept t s h b ban_scored (λ (p : BanScored). p.state) (λ q a. refl) u r (score t.config k.bytes now (rows_of t s)) (rw h)
        (score_holds t.config (limit_of t.max_entries) now k.bytes (rows_of t s) (tracked_hold t s h b)) m

  pub prune_expired_kept : (r : BanPruned) → PruneExpiredMeets t s now r u → BanKept t s r.state u
  unfolding PruneExpiredMeets prune_expired_outcome
  prune_expired_kept r m =
      carried_kept t s h b ban_pruned (λ (p : BanPruned). p.state) (λ q a. refl) u r
      (turn (Ok tt) (become (prune_expired t.config.duration_ms now (rows_of t s)))) (rw h)
      (prune_holds t.config (limit_of t.max_entries) now [] (rows_of t s) (tracked_hold t s h b)) m
