-- Laws of two buckets asked, and of a peer that was found, or its place: soundness of the record, what is found there, and what a row
-- written or taken out comes to. Assumes nothing.
use Rattle.std.specs.Prelude.{◌≡◌, refl, Bool, true, false, List, ℕ, ◌+◌, ◌-◌, ◌*◌, ◌^◌, ◌≤◌, ◌<◌, leb, length, None, Some}
use Rattle.std.proofs.Common.{sym, ◌∙◌, arith}
use Rattle.std.proofs.Math.Path.{ap}
use Rattle.std.proofs.Math.Option.{none, some}
use borrow.Author.Tests.{leb-true, leb-false, le-leb}
use Rattle.truths.specs.TruthLaws.{both, both_parts, true_is_not_false}
use Rattle.lent_bytes.specs.LentBytes.{part, Bytes}
use Rattle.table.specs.declared.seek.Seek.{Seek}
use Rattle.table.specs.declared.seek.Seek.TheVariants.{Unsound, At, Gap}
use Rattle.table.specs.Table.{look, store, erase, remove_at, row_under}
use Rattle.table.specs.Private.{insert_at}
use Rattle.table.specs.Memory.{row_of, Holds}
use Rattle.table.specs.MemoryLaws.{length_rows}
use Rattle.table.specs.PlaceLaws.{place_is_sound, gap_erase}
use Rattle.table_laws.specs.Private as lent
use Rattle.table_laws.specs.LentLaws.{sought_unsound, sought_known, sought_unknown, own_sound_lem, limit_fits, known_inside, known_rule, known_look, unknown_within, unknown_look}
use Rattle.table_laws.specs.ChangeLaws.{holds_same, stored_at, stored_gap, erased_at, unchanged}
use Rattle.table_laws.specs.Private.{over, Counted}
use Rattle.bucket_terms.specs.Answers.{told}
use Rattle.bucket_bytes.specs.declared.bytes.ByteTokenBucket.{ByteTokenBucket}
use Rattle.bucket_bytes.specs.Handed.{ByteConsumed}
use Rattle.bucket_bytes.specs.ByteBucket.{byte_sound, byte_new, byte_try_consume, byte_peek_delay_after_refill, byte_has_debt}
use Rattle.bucket_bytes.specs.KeptLaws.{byte_new_sound}
use Rattle.gossip_outbound_rows.specs.declared.entry.OutboundEntry.{OutboundEntry}
use Rattle.gossip_outbound_rows.specs.Entry.{bucket_of, entry_sound}
use Rattle.gossip_outbound_rows.specs.EntryLaws.{entry_bucket_sound}
use Rattle.gossip_outbound_rows.specs.Rows.{outbound_layout, outbound_sound}
use Rattle.gossip_outbound_rows.specs.RowsLaws.{outbound_faithful}
use Rattle.gossip_outbound_state.specs.declared.state.Outbound.{Outbound}
use Rattle.gossip_outbound_state.specs.State.{rows_of, own_sound, sound, bucket_or_fresh, full, is_yes, charged, charge_both, peer_delay, peer_debt}
use Rattle.gossip_outbound_state.specs.Private.{is_told_yes, sought_in, is_unsound, full_at, Placed, PeerBucket}

-- ════ Two buckets asked ════

-- a test as an answer, read back
pub told_back : (t : Bool) → is_told_yes (told t) ≡ t
told_back true = refl
told_back false = refl

module _ (g p : ByteTokenBucket) (bytes now : ℕ) (first : ByteConsumed) (asked : first ≡ byte_try_consume g bytes now) where
  -- the global bucket said no
  pub charge_no : is_yes first.answer ≡ false → None ≡ charge_both g p bytes now
  unfolding charge_both
  charge_no h = rw (ap (λ (r : ByteConsumed). is_yes r.answer) (sym asked) ∙ h)

  module _ (gave : is_yes first.answer ≡ true) (second : ByteConsumed) (then-asked : second ≡ byte_try_consume p bytes now) where
    -- the peer's said no
    pub charge_peer_no : is_yes second.answer ≡ false → None ≡ charge_both g p bytes now
    unfolding charge_both
    charge_peer_no h =
        rw (
          ap (λ (r : ByteConsumed). is_yes r.answer) (sym asked) ∙ gave,
          ap (λ (r : ByteConsumed). is_yes r.answer) (sym then-asked) ∙ h,
        )

    -- both said yes
    pub charge_yes : is_yes second.answer ≡ true → Some (charged first.state second.state) ≡ charge_both g p bytes now
    unfolding charge_both
    charge_yes h =
        rw (
          ap (λ (r : ByteConsumed). is_yes r.answer) (sym asked) ∙ gave,
          ap (λ (r : ByteConsumed). is_yes r.answer) (sym then-asked) ∙ h,
        )
        (ap (λ (r : ByteConsumed). Some (charged r.state second.state)) asked
        ∙ ap (λ (r : ByteConsumed). Some (charged (byte_try_consume g bytes now).state r.state)) then-asked)

-- ════ The record ════

module _ (o : Outbound) where
  -- rows within 1,024
  pub rows_within : own_sound o ≡ true → o.rows ≤ 1024
  unfolding own_sound
  rows_within h = leb-true o.rows 1024 (both_parts (leb o.rows 1024) _ h).0

  -- a global bucket that is sound
  pub own_global : own_sound o ≡ true → byte_sound o.global_outbound ≡ true
  unfolding own_sound
  own_global h = (both_parts (leb o.rows 1024) _ h).1

  pub within_own : o.rows ≤ 1024 → byte_sound o.global_outbound ≡ true → own_sound o ≡ true
  unfolding own_sound
  within_own h k = both (le-leb o.rows 1024 h) k

-- ════ What the search says ════

module _ (o : Outbound) (s k : List ℕ) where
  -- all is unsound
  pub found_unsound : (found : Seek) → found ≡ sought_in o s k → is_unsound found ≡ true → sound o s ≡ false
  found_unsound Unsound e t =
      sought_unsound outbound_layout (outbound_sound o.peer_outbound_config) (own_sound o) 1024 s o.rows k (sym e)
  found_unsound (At i) e t = absurd (true_is_not_false t refl)
  found_unsound (Gap i) e t = absurd (true_is_not_false t refl)

  -- the peer has its place
  pub found_placed : (found : Seek) → found ≡ sought_in o s k → is_unsound found ≡ false → Placed o s k found
  found_placed Unsound e t = absurd (true_is_not_false refl t)
  found_placed (At i) e t =
      let h = sought_known outbound_layout (outbound_sound o.peer_outbound_config) (own_sound o) 1024 s o.rows k (sym e) in
      record { is_sound = h.is_sound; place = h.place }
  found_placed (Gap i) e t =
      let h = sought_unknown outbound_layout (outbound_sound o.peer_outbound_config) (own_sound o) 1024 s o.rows k (sym e) in
      record { is_sound = h.is_sound; place = h.place }

  module _ {found : Seek} (p : Placed o s k found) where
    own_placed : own_sound o ≡ true
    own_placed = own_sound_lem outbound_layout (outbound_sound o.peer_outbound_config) (own_sound o) 1024 s o.rows p.is_sound

    -- the global bucket is sound
    pub placed_global : byte_sound o.global_outbound ≡ true
    placed_global = own_global o own_placed

    -- rows within 1,024
    pub placed_few : o.rows ≤ 1024
    placed_few = rows_within o own_placed

    -- memory for 1,024 rows
    pub placed_room : 65 * 1024 ≤ length s
    placed_room = limit_fits outbound_layout (outbound_sound o.peer_outbound_config) (own_sound o) 1024 s o.rows p.is_sound

  -- the same place
  pub placed_as : {found other : Seek} → found ≡ other → Placed o s k found → Placed o s k other
  placed_as e p = record { is_sound = p.is_sound; place = p.place ∙ e }

  -- a search that found a place or a gap
  pub not_unsound : Placed o s k Unsound → ⊥
  not_unsound p = place_is_sound 0 k (rows_of o s) p.place

  -- ════ A peer that has a row ════

  module _ (i : ℕ) (p : Placed o s k (At i)) where
    known : lent.Known outbound_layout (outbound_sound o.peer_outbound_config) (own_sound o) 1024 s o.rows k i
    known = record { is_sound = p.is_sound; place = p.place }

    -- its row is one of them
    pub placed_inside : i < o.rows
    placed_inside = known_inside outbound_layout (outbound_sound o.peer_outbound_config) (own_sound o) 1024 s o.rows k i known

    module _ (e : OutboundEntry) (read : e ≡ (row_of outbound_layout (part s (65 * i) 65)).entry) where
      found_there : look k (rows_of o s) ≡ some e
      found_there = known_look outbound_layout (outbound_sound o.peer_outbound_config) (own_sound o) 1024 s o.rows k i known e read

      -- its bucket is sound
      pub known_sound : byte_sound (bucket_of o.peer_outbound_config e) ≡ true
      known_sound =
          entry_bucket_sound o.peer_outbound_config e
          (ap (entry_sound o.peer_outbound_config) read
          ∙ known_rule outbound_layout (outbound_sound o.peer_outbound_config) (own_sound o) 1024 s o.rows k i known)

      pub known_bucket : PeerBucket o s k (bucket_of o.peer_outbound_config e)
      known_bucket =
          record { is_peers = ap (bucket_or_fresh o.peer_outbound_config) (sym found_there); is_sound = known_sound }

      pub known_delay : (bytes now : ℕ)
          → byte_peek_delay_after_refill (bucket_of o.peer_outbound_config e) bytes now ≡ peer_delay o.peer_outbound_config bytes now (look k (rows_of o s))
      known_delay bytes now = ap (peer_delay o.peer_outbound_config bytes now) (sym found_there)

      pub known_debt : (now : ℕ)
          → byte_has_debt (bucket_of o.peer_outbound_config e) now ≡ peer_debt o.peer_outbound_config now (look k (rows_of o s))
      known_debt now = ap (peer_debt o.peer_outbound_config now) (sym found_there)

  -- ════ A peer that has none ════

  module _ (i : ℕ) (p : Placed o s k (Gap i)) where
    unknown : lent.Unknown outbound_layout (outbound_sound o.peer_outbound_config) (own_sound o) 1024 s o.rows k i
    unknown = record { is_sound = p.is_sound; place = p.place }

    -- it would stand before a row or behind the last
    pub placed_within : i ≤ o.rows
    placed_within = unknown_within outbound_layout (outbound_sound o.peer_outbound_config) (own_sound o) 1024 s o.rows k i unknown

    found_none : look k (rows_of o s) ≡ none
    found_none = unknown_look outbound_layout (outbound_sound o.peer_outbound_config) (own_sound o) 1024 s o.rows k i unknown

    pub new_bucket : o.peer_outbound_config.burst_bytes < 2 ^ 64 → PeerBucket o s k (byte_new o.peer_outbound_config)
    new_bucket fits =
        record {
          is_peers = ap (bucket_or_fresh o.peer_outbound_config) (sym found_none);
          is_sound = byte_new_sound o.peer_outbound_config fits;
        }

    pub new_delay : (bytes now : ℕ) → 0 ≡ peer_delay o.peer_outbound_config bytes now (look k (rows_of o s))
    new_delay bytes now = ap (peer_delay o.peer_outbound_config bytes now) (sym found_none)

    pub new_debt : (now : ℕ) → false ≡ peer_debt o.peer_outbound_config now (look k (rows_of o s))
    new_debt now = ap (peer_debt o.peer_outbound_config now) (sym found_none)

    -- there is a place for its row
    pub room_left : full_at o.rows (Gap i) ≡ false → o.rows + 1 ≤ 1024
    room_left h = omega (arith, leb-false 1024 o.rows h)

  -- ════ Full ════

  -- by what was found, or by what is looked up
  pub placed_full : (found : Seek) → Placed o s k found → full_at o.rows found ≡ full o.rows (look k (rows_of o s))
  placed_full Unsound p = absurd (not_unsound p)
  placed_full (At i) p =
      let e : OutboundEntry = (row_of outbound_layout (part s (65 * i) 65)).entry in
      ap (full o.rows) (sym (found_there i p e refl))
  placed_full (Gap i) p = ap (full o.rows) (sym (found_none i p))

  -- ════ Rows written and taken out ════

  module _ (t : List ℕ) where
    -- over the peer's row
    pub written_known : (i : ℕ) (e : OutboundEntry) → Placed o s k (At i) → Holds outbound_layout s t o.rows (over outbound_layout s o.rows i e)
        → Counted outbound_layout s t o.rows o.rows (store k e (rows_of o s))
    written_known i e p held = stored_at outbound_faithful s t o.rows k i e p.place held

    -- in a new row
    pub written_new : (i : ℕ) (e : OutboundEntry) → Placed o s k (Gap i)
        → Holds outbound_layout s t o.rows (insert_at i (row_under k e) (rows_of o s))
        → Counted outbound_layout s t o.rows (o.rows + 1) (store k e (rows_of o s))
    written_new i e p held = stored_gap outbound_faithful s t o.rows k i e p.place held

    -- the peer's row taken out
    pub dropped_known : (i : ℕ) → Placed o s k (At i) → Holds outbound_layout s t o.rows (remove_at i (rows_of o s))
        → Counted outbound_layout s t o.rows (o.rows - 1) (erase k (rows_of o s))
    dropped_known i p held = erased_at outbound_faithful s t o.rows k i p.place held

    -- no row to take out
    pub dropped_none : (i : ℕ) → Placed o s k (Gap i) → Bytes s → t ≡ s → Counted outbound_layout s t o.rows o.rows (erase k (rows_of o s))
    dropped_none i p b e =
        let stays : erase k (rows_of o s) ≡ rows_of o s = gap_erase k (rows_of o s) p.place in
        let fits : 65 * o.rows ≤ length s = omega (arith, placed_few p, placed_room p) in (
          holds_same (sym stays) (unchanged outbound_faithful s t o.rows b fits e),
          sym (ap length stays ∙ length_rows outbound_layout s o.rows),
        )
