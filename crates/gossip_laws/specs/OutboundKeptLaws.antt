-- Every outbound call on a sound state leaves a sound one, the memory's length, and the settings; and a fresh state is sound. In order:
-- a fresh state; a change kept; a peer's bucket; allow; remove; reserve; refund. The calls that are lent the memory to read leave no
-- state. Assumes nothing.
use Rattle.std.specs.Prelude.{◌≡◌, Bool, cond, List, ℕ, ◌^◌, ◌≤◌, ◌<◌, length, Ok, Err, Option, None, Some}
use Rattle.std.proofs.Math.Path.{refl}
use Rattle.std.proofs.Common.{ap, arith, leb-false}
use Rattle.std.proofs.Math.Bool.{true, false}
use Rattle.std.proofs.Math.Option.{Option as Found, none, some}
use Rattle.refusal.specs.declared.Refusal.TheVariants as Refusal
use Rattle.pubkey.specs.declared.Pubkey.{Pubkey}
use Rattle.table.specs.Table.{every, ascending, look, store, erase}
use Rattle.table.specs.Memory.{rows}
use Rattle.table.specs.Outcome.{Change, same, become, Memory, count_after, Meets}
use Rattle.table.specs.TableLaws.{sub_erase}
use Rattle.table.specs.LookLaws.{look_rule}
use Rattle.table.specs.PlaceLaws.{length_store_some, length_store_none}
use Rattle.table.specs.MemoryLaws.{length_rows}
use Rattle.table_laws.specs.Kept.{Encodes, RowsHold, ChangeHolds, LentHolds}
use Rattle.table_laws.specs.KeptLaws.{sub_hold, store_hold, lent_holds, holds_lent, rows_hold, change_kept}
use Rattle.table_laws.specs.LentLaws.{own_sound_lem}
use Rattle.table_laws.specs.WordsLaws.{of_numbers, length_encode, encode_bytes}
use Rattle.bucket_terms.specs.declared.limit.ByteRateLimitConfig.{ByteRateLimitConfig}
use Rattle.bucket_terms.specs.Limit.{byte_disabled}
use Rattle.bucket_bytes.specs.declared.bytes.ByteTokenBucket.{ByteTokenBucket}
use Rattle.bucket_bytes.specs.ByteBucket.{byte_try_consume, byte_reserve, byte_refund}
use Rattle.bucket_bytes.specs.KeptLaws.{Left, as_it_was, left_config, left_sound, byte_new_sound, try_consume_left, reserve_left, refund_left}
use Rattle.gossip_outbound_rows.specs.declared.entry.OutboundEntry.{OutboundEntry}
use Rattle.gossip_outbound_rows.specs.Entry.{entry_of}
use Rattle.gossip_outbound_rows.specs.EntryLaws.{Stands, stands_entry, known_stands, fresh_stands, left_stands}
use Rattle.gossip_outbound_rows.specs.Rows.{key_width, row_width, outbound_numbers, outbound_layout, outbound_sound}
use Rattle.gossip_outbound_state.specs.declared.state.Outbound.{Outbound}
use Rattle.gossip_outbound_state.specs.declared.charge.Charged.{Charged}
use Rattle.gossip_outbound_state.specs.State.{rows_of, own_sound, sound, bucket_or_fresh, full, is_yes, charged, charge_both, promise_both, outbound_with}
use Rattle.gossip_outbound_state.specs.CarryLaws.{rows_within, own_global, within_own}
use Rattle.gossip_outbound.specs.Handed.{OutboundTold, OutboundReserved, OutboundSettled}
use Rattle.gossip_outbound.specs.Outbound.{turn, refuse, outbound_told, outbound_reserved, outbound_settled, kept, allowed, removed}
use Rattle.gossip_outbound.specs.Calls.{AllowMeets, allow_outcome, RemoveMeets, remove_outcome, ReserveMeets, reserve_outcome, RefundMeets, refund_outcome}
use Rattle.gossip_laws.specs.OutboundKept.{Given, Kept, fresh}

-- an entry's bytes, whatever it is
pub outbound_encodes : Encodes outbound_layout
outbound_encodes =
    let num = of_numbers key_width row_width outbound_numbers (omega arith) refl (λ e. refl) (λ e. refl) (λ s. refl) in
    record { key_fits = omega arith; length_encode = length_encode num; encode_bytes = encode_bytes num }

-- ════ A fresh state ════

-- over any memory that is long enough
pub fresh_sound : (g c : ByteRateLimitConfig) (s : List ℕ) → g.burst_bytes < 2 ^ 64 → 66560 ≤ length s → sound (fresh g c) s ≡ true
unfolding rows every ascending
fresh_sound g c s fits long =
    holds_lent outbound_layout (outbound_sound c) 1024 s 0
    (within_own (fresh g c) (omega arith) (byte_new_sound g fits))
    (record { few = omega arith; long = long; rules = refl; order = refl })

-- ════ A change kept ════

module _ (o : Outbound) (s : List ℕ) (k : Pubkey) (h : sound o s ≡ true) (given : Given o s k.bytes) where
  own : own_sound o ≡ true
  own = own_sound_lem outbound_layout (outbound_sound o.peer_outbound_config) (own_sound o) 1024 s o.rows h

  held : LentHolds outbound_layout (outbound_sound o.peer_outbound_config) 1024 s o.rows
  held = lent_holds outbound_layout (outbound_sound o.peer_outbound_config) 1024 s o.rows (own_sound o) (rows_within o own) h

  holding : RowsHold outbound_layout (outbound_sound o.peer_outbound_config) 1024 (rows_of o s)
  holding = rows_hold outbound_layout (outbound_sound o.peer_outbound_config) 1024 s o.rows (omega arith) held given.memory

  -- rows that hold, beside what an operation leaves of the global bucket
  changed : (q : Outbound) (t : List ℕ) (g : ByteTokenBucket) (change : Change OutboundEntry) → q ≡ outbound_with o g (count_after o.rows change)
      → Left o.global_outbound g → ChangeHolds outbound_layout (outbound_sound o.peer_outbound_config) 1024 change
      → Memory outbound_layout s t o.rows change → Kept o s q t
  changed q t g change e left holds m =
      let after : Outbound = outbound_with o g (count_after o.rows change) in
      let k = change_kept outbound_encodes (outbound_sound o.peer_outbound_config) 1024 s t o.rows change held given.memory holds m in
      let safe : Kept o s after t =
      record {
        stays_sound =
            holds_lent outbound_layout (outbound_sound o.peer_outbound_config) 1024 t (count_after o.rows change)
            (within_own after k.holds.few (left_sound (own_global o own) left)) k.holds;
        same_length = k.same_length;
        holds_bytes = k.holds_bytes;
        global_settings = left_config left;
        peer_settings = refl;
      } in
      rw e safe

  -- nothing changed
  unchanged : (q : Outbound) (t : List ℕ) → q ≡ o → t ≡ s → Kept o s q t
  unchanged q t e m = changed q t o.global_outbound same e (as_it_was refl) tt m

  -- ════ A peer's bucket ════

  -- what is found, or a fresh one, stands in a row
  peer_stands : Stands o.peer_outbound_config (bucket_or_fresh o.peer_outbound_config (look k.bytes (rows_of o s)))
  peer_stands = by (look k.bytes (rows_of o s)) refl
    where
      by : (found : Found OutboundEntry) → look k.bytes (rows_of o s) ≡ found → Stands o.peer_outbound_config (bucket_or_fresh o.peer_outbound_config found)
      by none e = fresh_stands o.peer_outbound_config given.peers_fit
      by (some x) e =
          known_stands o.peer_outbound_config x
          (look_rule (outbound_sound o.peer_outbound_config) k.bytes (rows_of o s) held.rules e)

  -- with its row written, where there is a place for it
  written : (b : ByteTokenBucket) → Stands o.peer_outbound_config b → full o.rows (look k.bytes (rows_of o s)) ≡ false
      → RowsHold outbound_layout (outbound_sound o.peer_outbound_config) 1024 (kept k.bytes b (rows_of o s))
  written b st room =
      store_hold outbound_layout (outbound_sound o.peer_outbound_config) 1024 k.bytes (entry_of b) (rows_of o s) given.key
      (stands_entry o.peer_outbound_config b st) holding (by (look k.bytes (rows_of o s)) refl room)
    where
      by : (found : Found OutboundEntry) → look k.bytes (rows_of o s) ≡ found → full o.rows found ≡ false
          → length (store k.bytes (entry_of b) (rows_of o s)) ≤ 1024
      by none e f =
          omega (arith, length_store_none k.bytes (rows_of o s) (entry_of b) e, length_rows outbound_layout s o.rows, leb-false 1024 o.rows f)
      by (some x) e f =
          omega (arith, length_store_some k.bytes (rows_of o s) {x = x} (entry_of b) e, length_rows outbound_layout s o.rows, rows_within o own)

  abbrev peer : ByteTokenBucket
  peer = bucket_or_fresh o.peer_outbound_config (look k.bytes (rows_of o s))

  peer_left_fits : peer.config.burst_bytes < 2 ^ 64
  peer_left_fits = rw peer_stands.settings given.peers_fit

  -- ════ Allow ════

  module _ (bytes now : ℕ) where
    -- both buckets, where both gave
    abbrev both : Charged
    both = charged (byte_try_consume o.global_outbound bytes now).state (byte_try_consume peer bytes now).state

    -- none is charged, or both are
    charge_by : (P : Option Charged → Type 0) → P None → P (Some both) → P (charge_both o.global_outbound peer bytes now)
    unfolding charge_both
    charge_by P stay gave = by (is_yes (byte_try_consume o.global_outbound bytes now).answer) (is_yes (byte_try_consume peer bytes now).answer)
      where
        by : (x y : Bool)
            → P (cond x (cond y (Some both) None) None)
        by true true = gave
        by true false = stay
        by false y = stay

    charge_global : Left o.global_outbound both.global
    charge_global = try_consume_left o.global_outbound given.global_fits (own_global o own) bytes now

    charge_peer : Stands o.peer_outbound_config both.peer
    charge_peer = left_stands o.peer_outbound_config peer_stands (try_consume_left peer peer_left_fits peer_stands.sound bytes now)

    pub allow_kept : (r : OutboundTold) (t : List ℕ) → AllowMeets o s k bytes now r t → Kept o s r.state t
    unfolding AllowMeets allow_outcome
    allow_kept r t m =
        charge_by (λ (x : Option Charged). Meets outbound_layout r s t o.rows (allowed o k.bytes (rows_of o s) x) → Kept o s r.state t)
        (λ met. unchanged r.state t (ap (λ (x : OutboundTold). x.state) met.answers) met.leaves)
        (by (full o.rows (look k.bytes (rows_of o s))) refl) (rw h at m)
      where
        by : (f : Bool) → full o.rows (look k.bytes (rows_of o s)) ≡ f
            → Meets outbound_layout r s t o.rows
            (cond f (refuse (outbound_told o (Err Refusal.NoRow)))
            (turn (outbound_told (outbound_with o both.global (count_after o.rows (become (kept k.bytes both.peer (rows_of o s))))) (Ok true))
            (become (kept k.bytes both.peer (rows_of o s)))))
            → Kept o s r.state t
        by true e met = unchanged r.state t (ap (λ (x : OutboundTold). x.state) met.answers) met.leaves
        by false e met =
            changed r.state t both.global (become (kept k.bytes both.peer (rows_of o s)))
            (ap (λ (x : OutboundTold). x.state) met.answers) charge_global (written both.peer charge_peer e) met.leaves

  -- ════ Remove ════

  pub remove_kept : (r : OutboundSettled) (t : List ℕ) → RemoveMeets o s k r t → Kept o s r.state t
  unfolding RemoveMeets remove_outcome
  remove_kept r t m =
      let met : Meets outbound_layout r s t o.rows (removed o k.bytes (rows_of o s)) = rw h at m in
      changed r.state t o.global_outbound (become (erase k.bytes (rows_of o s)))
      (ap (λ (x : OutboundSettled). x.state) met.answers) (as_it_was refl)
      (sub_hold outbound_layout (outbound_sound o.peer_outbound_config) 1024 (sub_erase k.bytes (rows_of o s)) holding) met.leaves

  -- ════ Reserve ════

  module _ (bytes now : ℕ) where
    pub reserve_kept : (r : OutboundReserved) (t : List ℕ) → ReserveMeets o s k bytes now r t → Kept o s r.state t
    unfolding ReserveMeets reserve_outcome promise_both
    reserve_kept r t m = by (full o.rows (look k.bytes (rows_of o s))) refl (rw h at m)
      where
        g : ByteTokenBucket
        g = (byte_reserve o.global_outbound bytes now).state

        p : ByteTokenBucket
        p = (byte_reserve peer bytes now).state

        by : (f : Bool) → full o.rows (look k.bytes (rows_of o s)) ≡ f
            → Meets outbound_layout r s t o.rows
            (cond f (refuse (outbound_reserved o (Err Refusal.NoRow)))
            (turn (outbound_reserved (outbound_with o g (count_after o.rows (become (kept k.bytes p (rows_of o s))))) (Ok (promise_both o.global_outbound peer bytes now).delay_ms))
            (become (kept k.bytes p (rows_of o s)))))
            → Kept o s r.state t
        by true e met = unchanged r.state t (ap (λ (x : OutboundReserved). x.state) met.answers) met.leaves
        by false e met =
            changed r.state t g (become (kept k.bytes p (rows_of o s)))
            (ap (λ (x : OutboundReserved). x.state) met.answers)
            (reserve_left o.global_outbound given.global_fits (own_global o own) bytes now)
            (written p (left_stands o.peer_outbound_config peer_stands (reserve_left peer peer_left_fits peer_stands.sound bytes now)) e) met.leaves

    -- ════ Refund ════

    pub refund_kept : (r : OutboundSettled) (t : List ℕ) → RefundMeets o s k bytes now r t → Kept o s r.state t
    unfolding RefundMeets refund_outcome
    refund_kept r t m = by (byte_disabled o.peer_outbound_config) (full o.rows (look k.bytes (rows_of o s))) refl (rw h at m)
      where
        g : ByteTokenBucket
        g = byte_refund o.global_outbound bytes now

        p : ByteTokenBucket
        p = byte_refund peer bytes now

        left : Left o.global_outbound g
        left = refund_left o.global_outbound given.global_fits (own_global o own) bytes now

        by : (off f : Bool) → full o.rows (look k.bytes (rows_of o s)) ≡ f
            → Meets outbound_layout r s t o.rows
            (cond off (refuse (outbound_settled (outbound_with o g o.rows) (Ok tt)))
            (cond f (refuse (outbound_settled o (Err Refusal.NoRow)))
            (turn (outbound_settled (outbound_with o g (count_after o.rows (become (kept k.bytes p (rows_of o s))))) (Ok tt))
            (become (kept k.bytes p (rows_of o s))))))
            → Kept o s r.state t
        by true f e met = changed r.state t g same (ap (λ (x : OutboundSettled). x.state) met.answers) left tt met.leaves
        by false true e met = unchanged r.state t (ap (λ (x : OutboundSettled). x.state) met.answers) met.leaves
        by false false e met =
            changed r.state t g (become (kept k.bytes p (rows_of o s)))
            (ap (λ (x : OutboundSettled). x.state) met.answers) left
            (written p (left_stands o.peer_outbound_config peer_stands (refund_left peer peer_left_fits peer_stands.sound bytes now)) e) met.leaves
