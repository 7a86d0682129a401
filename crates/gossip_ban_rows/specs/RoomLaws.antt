-- Laws of expiry and of making room, which callers' proofs cite: what the Rust's steps come to; rows are taken out and no more; there is
-- room for one more. In order: one entry; the row evicted; making room. Assumes nothing.
use Rattle.std.specs.Prelude.{true, false, ◌≡◌, List, [], ◌∷◌, ltb}
use Rattle.std.proofs.Math.Path.{refl, sym}
use Rattle.std.proofs.Common.{◌∙◌, subst, arith}
use Rattle.std.proofs.Math.Option.{Option, none, some}
use Prim.Native.Nat.{ℕ, zero, suc, ◌+◌, ◌≤◌, ◌<◌}
use borrow.Author.Tests.{ltb-true, ltb-false, lt-ltb, le-ltb}
use Rattle.std.proofs.Math.ListN.{length}
use Rattle.truths.specs.TruthLaws.{by_test, or_else}
use Rattle.table.specs.Table.{nothing, best, minimum_from, ascending, look, erase, remove_at}
use Rattle.table.specs.TableLaws.{Sub, sub_all, sub_length, sub_erase, sub_retain, sub_remove_at, sub_trans}
use Rattle.table.specs.LookLaws.{some_is_not_none, sub_look_none}
use Rattle.table.specs.MinimumLaws.{least_found, least_nothing}
use Rattle.table.specs.PlaceLaws.{length_remove_at}
use Rattle.table_laws.specs.RoomLaws.{by_best}
use Rattle.gossip_ban_rows.specs.declared.entry.GossipBanEntry.{GossipBanEntry}
use Rattle.gossip_ban_rows.specs.Entry.{is_expired}
use Rattle.gossip_ban_rows.specs.Rows.{Bans}
use Rattle.gossip_ban_rows.specs.Room.{expire_found, maybe_expire, unexpired, prune_expired, eviction_rank, evict, contains, evict_while_full, make_room}
use Rattle.gossip_ban_rows.specs.Private.{room_for}

-- ════ One entry ════

module _ (duration now : ℕ) (k : List ℕ) (rs : Bans) where
  -- a peer without an entry
  pub expire_absent : look k rs ≡ none → maybe_expire duration now k rs ≡ rs
  unfolding maybe_expire
  expire_absent h = rw h

  -- an entry that is expired goes
  pub expire_expired : (e : GossipBanEntry) → look k rs ≡ some e → is_expired e duration now ≡ true → maybe_expire duration now k rs ≡ erase k rs
  unfolding maybe_expire
  expire_expired e h x = rw (h, x)

  -- one that is not, stays
  pub expire_live : (e : GossipBanEntry) → look k rs ≡ some e → is_expired e duration now ≡ false → maybe_expire duration now k rs ≡ rs
  unfolding maybe_expire
  expire_live e h x = rw (h, x)

  -- at most a row is taken out
  pub sub_expire : Sub (maybe_expire duration now k rs) rs
  unfolding maybe_expire
  sub_expire = by (look k rs)
    where
      by : (found : Option GossipBanEntry) → Sub (expire_found duration now k rs found) rs
      by none = sub_all rs
      by (some e) = by_test (is_expired e duration now) (λ h. rw h (sub_erase k rs)) (λ h. rw h (sub_all rs))

-- the expired entries are taken out
pub sub_prune : (duration now : ℕ) (rs : Bans) → Sub (prune_expired duration now rs) rs
sub_prune duration now rs = sub_retain (unexpired duration now) rs

-- ════ The row evicted ════

-- the row found goes
pub evict_found_lem : (now : ℕ) (rs : Bans) {j n : ℕ} → minimum_from (eviction_rank now) nothing 0 rs ≡ best j n → evict now rs ≡ remove_at j rs
unfolding evict
evict_found_lem now rs h = rw h

-- of rows that there are one goes, since each takes part
pub length_evict : (now : ℕ) (rs : Bans) → 0 < length rs → length (evict now rs) + 1 ≡ length rs
length_evict now [] h = absurd (omega arith)
length_evict now (r ∷ rs) h =
    by_best (minimum_from (eviction_rank now) nothing 0 (r ∷ rs))
    (λ e. absurd (some_is_not_none refl (least_nothing (eviction_rank now) (r ∷ rs) r e 0 h)))
    (λ j n e. rw (evict_found_lem now (r ∷ rs) e) (length_remove_at j (r ∷ rs) (least_found (eviction_rank now) (r ∷ rs) r e).inside))

-- at most a row is taken out
pub sub_evict : (now : ℕ) (rs : Bans) → Sub (evict now rs) rs
unfolding evict
sub_evict now rs =
    by_best (minimum_from (eviction_rank now) nothing 0 rs) (λ h. rw h (sub_all rs)) (λ j n h. rw h (sub_remove_at j rs))

-- ════ Making room ════

module _ (limit duration now : ℕ) (rs : Bans) where
  -- a table that is not full stays as it is
  pub room_free : length rs < limit → room_for limit duration now rs ≡ rs
  unfolding room_for
  room_free h = rw (lt-ltb (length rs) limit h)

  -- in a full table the expired entries go, and if there are some, nothing else
  pub room_pruned : limit ≤ length rs → length (prune_expired duration now rs) < limit → room_for limit duration now rs ≡ prune_expired duration now rs
  unfolding room_for
  room_pruned h k = rw (le-ltb (length rs) limit h, lt-ltb (length (prune_expired duration now rs)) limit k)

  -- a table that is still full loses one row
  pub room_evicted : limit ≤ length rs → limit ≤ length (prune_expired duration now rs)
      → room_for limit duration now rs ≡ evict now (prune_expired duration now rs)
  unfolding room_for
  room_evicted h k = rw (le-ltb (length rs) limit h, le-ltb (length (prune_expired duration now rs)) limit k)

  -- a fact by the three ways of making room
  by_room : (B : Bans → Type 0) → (length rs < limit → B rs)
      → (limit ≤ length rs → length (prune_expired duration now rs) < limit → B (prune_expired duration now rs))
      → (limit ≤ length rs → limit ≤ length (prune_expired duration now rs) → B (evict now (prune_expired duration now rs)))
      → B (room_for limit duration now rs)
  by_room B free pruned evicted =
      by_test (ltb (length rs) limit)
      (λ t. let h = ltb-true (length rs) limit t in
      subst B (sym (room_free h)) (free h))
      (λ t. let h = ltb-false (length rs) limit t in
      by_test (ltb (length (prune_expired duration now rs)) limit)
      (λ u. let k = ltb-true (length (prune_expired duration now rs)) limit u in
      subst B (sym (room_pruned h k)) (pruned h k))
      (λ u. let k = ltb-false (length (prune_expired duration now rs)) limit u in
      subst B (sym (room_evicted h k)) (evicted h k)))

  -- rows are taken out, and no more
  pub sub_room : Sub (room_for limit duration now rs) rs
  sub_room =
      by_room (λ (qs : Bans). Sub qs rs) (λ h. sub_all rs) (λ h k. sub_prune duration now rs)
      (λ h k. sub_trans (sub_evict now (prune_expired duration now rs)) (sub_prune duration now rs))

  -- a table that had at most the limit has room for one more afterwards
  pub room_for_one : 0 < limit → length rs ≤ limit → length (room_for limit duration now rs) + 1 ≤ limit
  room_for_one least most =
      by_room (λ (qs : Bans). length qs + 1 ≤ limit) (λ h. omega arith) (λ h k. omega arith)
      (λ h k. omega (arith, sub_length (sub_prune duration now rs), length_evict now (prune_expired duration now rs) (omega arith)))

module _ (limit now : ℕ) (k : List ℕ) where
  -- the while ends at once where there is room
  while_free : (rounds : ℕ) (rs : Bans) → length rs < limit → evict_while_full rounds limit now k rs ≡ rs
  unfolding evict_while_full
  while_free zero rs h = refl
  while_free (suc rounds) rs h = rw (or_else (contains k rs) (λ _. lt-ltb (length rs) limit h))

  -- and after one round where one row was too many
  while_full : (rounds : ℕ) (rs : Bans) → 0 < rounds → look k rs ≡ none → limit ≤ length rs → length (evict now rs) < limit
      → evict_while_full rounds limit now k rs ≡ evict now rs
  unfolding evict_while_full
  while_full zero rs some-round h full one = absurd (omega arith)
  while_full (suc rounds) rs some-round h full one = rw (h, le-ltb (length rs) limit full) (while_free rounds (evict now rs) one)

module _ (limit duration now : ℕ) (k : List ℕ) (rs : Bans) where
  -- there is room
  pub make_free : length rs < limit → make_room limit duration now k rs ≡ rs
  unfolding make_room
  make_free h = rw (or_else (contains k rs) (λ _. lt-ltb (length rs) limit h))

  -- a peer that has an entry needs none
  pub make_present : {e : GossipBanEntry} → look k rs ≡ some e → make_room limit duration now k rs ≡ rs
  unfolding make_room
  make_present h = rw h

  -- what the steps come to for a peer without an entry, in a table that has at most the limit
  pub room_absent : look k rs ≡ none → ascending rs ≡ true → 0 < limit → length rs ≤ limit
      → make_room limit duration now k rs ≡ room_for limit duration now rs
  unfolding make_room
  room_absent h order least most =
      let left : Bans = prune_expired duration now rs in
      let gone : look k left ≡ none = sub_look_none (sub_prune duration now rs) order k h in
      let fewer : length left ≤ length rs = sub_length (sub_prune duration now rs) in
      by_test (ltb (length rs) limit)
      (λ t. rw (h, t) (sym (room_free limit duration now rs (ltb-true (length rs) limit t))))
      (λ t. let full : limit ≤ length rs = ltb-false (length rs) limit t in
      rw (h, t)
      (by_test (ltb (length left) limit)
      (λ u. let free : length left < limit = ltb-true (length left) limit u in
      while_free limit now k (length left) left free ∙ sym (room_pruned limit duration now rs full free))
      (λ u. let still : limit ≤ length left = ltb-false (length left) limit u in
      let one : length (evict now left) < limit = omega (arith, length_evict now left (omega arith)) in
      while_full limit now k (length left) left (omega arith) gone still one ∙ sym (room_evicted limit duration now rs full still))))
