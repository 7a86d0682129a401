-- Laws of making room, which callers' proofs cite: rows are taken out and no more, and there is room for one more. In order: spent bans;
-- the row evicted; making room. Assumes nothing.
use Rattle.std.specs.Prelude.{Bool, true, false, cond, ◌≡◌, refl, List, [], ◌∷◌, ℕ, ◌+◌, ◌≤◌, ◌<◌, eqb, length}
use Rattle.std.proofs.Math.Option.{Option, none, some}
use Rattle.std.proofs.Common.{arith}
use Rattle.table.specs.Table.{Row, nothing, best, minimum_from, ascending, look, remove_at}
use Rattle.table.specs.TableLaws.{Sub, sub_all, sub_length, sub_remove_at}
use Rattle.table.specs.LookLaws.{some_is_not_none, sub_look_none}
use Rattle.table.specs.RetainLaws.{length_retain}
use Rattle.table.specs.MinimumLaws.{least_found, least_nothing}
use Rattle.table.specs.PlaceLaws.{length_remove_at}
use Rattle.table_laws.specs.RoomLaws as room
use Rattle.table_laws.specs.RoomLaws.{by_best}
use Rattle.peer_settings.specs.declared.config.PeerMessagePolicyConfig.{PeerMessagePolicyConfig}
use Rattle.peer_state.specs.declared.entry.PeerMessagePolicyEntry.{PeerMessagePolicyEntry}
use Rattle.peer_settings.specs.Config.{limit}
use Rattle.peer_rows.specs.Rows.{Peers}
use Rattle.peer_table.specs.Room.{unspent, prune_expired_bans, ordinary_lru, banned_expirations, evict, make_room}

-- ════ Spent bans ════

-- there are no more rows than before
pub length_prune : (now : ℕ) (rs : Peers) → length (prune_expired_bans now rs) ≤ length rs
length_prune now rs = length_retain (unspent now) rs

-- ════ The row evicted ════

module _ (rs : Peers) where
  -- an ordinary peer is found, and goes
  pub evict_ordinary : {j n : ℕ} → minimum_from ordinary_lru nothing 0 rs ≡ best j n → evict rs ≡ remove_at j rs
  unfolding evict
  evict_ordinary h = rw h

  -- no ordinary peer is found, but a banned one, which goes
  pub evict_banned : {j n : ℕ} → minimum_from ordinary_lru nothing 0 rs ≡ nothing → minimum_from banned_expirations nothing 0 rs ≡ best j n
      → evict rs ≡ remove_at j rs
  unfolding evict
  evict_banned h k = rw (h, k)

  -- nobody is found, and nobody goes
  pub evict_nobody : minimum_from ordinary_lru nothing 0 rs ≡ nothing → minimum_from banned_expirations nothing 0 rs ≡ nothing → evict rs ≡ rs
  unfolding evict
  evict_nobody h k = rw (h, k)

-- every row is an ordinary one or a banned one
ordinary_or_banned : (r : Row PeerMessagePolicyEntry) → ordinary_lru r ≡ none → banned_expirations r ≡ none → ⊥
ordinary_or_banned r h k = by_mark (eqb r.entry.ban.mark 1) h k
  where
    by_mark : (b : Bool) → ◌≡◌ {A = Option ℕ} (cond b none (some r.entry.last_used_ms)) none → ◌≡◌ {A = Option ℕ} (cond b (some r.entry.ban.until_ms) none) none → ⊥
    by_mark true h k = some_is_not_none refl k
    by_mark false h k = some_is_not_none refl h

-- of rows that there are one goes, since each is an ordinary one or a banned one
pub length_evict : (rs : Peers) → 0 < length rs → length (evict rs) + 1 ≡ length rs
length_evict [] h = absurd (omega arith)
length_evict (r ∷ rs) h =
    by_best (minimum_from ordinary_lru nothing 0 (r ∷ rs))
    (λ e. by_best (minimum_from banned_expirations nothing 0 (r ∷ rs))
    (λ f. absurd (ordinary_or_banned r (least_nothing ordinary_lru (r ∷ rs) r e 0 h) (least_nothing banned_expirations (r ∷ rs) r f 0 h)))
    (λ j n f. rw (evict_banned (r ∷ rs) e f) (length_remove_at j (r ∷ rs) (least_found banned_expirations (r ∷ rs) r f).inside)))
    (λ j n e. rw (evict_ordinary (r ∷ rs) e) (length_remove_at j (r ∷ rs) (least_found ordinary_lru (r ∷ rs) r e).inside))

-- at most one row is taken out
pub sub_evict : (rs : Peers) → Sub (evict rs) rs
sub_evict rs =
    by_best (minimum_from ordinary_lru nothing 0 rs)
    (λ h. by_best (minimum_from banned_expirations nothing 0 rs)
    (λ k. rw (evict_nobody rs h k) (sub_all rs))
    (λ j n k. rw (evict_banned rs h k) (sub_remove_at j rs)))
    (λ j n h. rw (evict_ordinary rs h) (sub_remove_at j rs))

-- ════ Making room ════

module _ (c : PeerMessagePolicyConfig) (now : ℕ) (rs : Peers) where
  -- a table that is not full stays as it is
  pub room_free : length rs < limit c → make_room c now rs ≡ rs
  unfolding make_room
  room_free h = room.room_free (limit c) (unspent now) evict rs h

  -- rows are taken out, and no more
  pub sub_make_room : Sub (make_room c now rs) rs
  unfolding make_room
  sub_make_room = room.sub_room (limit c) (unspent now) evict rs sub_evict

  -- a table that had at most the limit has room for one more afterwards
  pub room_for_one : length rs ≤ limit c → length (make_room c now rs) + 1 ≤ limit c
  unfolding make_room
  room_for_one most = room.room_for_one (limit c) (unspent now) evict rs (omega arith) length_evict most

  -- there are no more rows than before
  pub length_make_room : length (make_room c now rs) ≤ length rs
  length_make_room = sub_length sub_make_room

  -- what was not found is not found
  pub look_make_room_none : ascending rs ≡ true → (k : List ℕ) → look k rs ≡ none → look k (make_room c now rs) ≡ none
  look_make_room_none = sub_look_none sub_make_room
