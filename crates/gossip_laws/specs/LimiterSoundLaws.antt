-- A fresh limiter is sound, and try_acquire on a sound limiter leaves a sound one, the settings, and the memory's length. In order: a row
-- stored; what the call makes of the rows; a change kept; making; the call. Assumes nothing.
use Rattle.std.specs.Prelude.{◌≡◌, Bool, false, cond, ℕ, ◌+◌, ◌*◌, ◌≤◌, ◌<◌, ltb, leb, get_or, Result, Ok, Err}
use Rattle.std.proofs.Math.Path.{refl, ap, subst}
use Rattle.std.proofs.Common.{sym, ◌∙◌, arith, get_or-append-add}
use Rattle.std.proofs.Math.Bool.{true}
use Rattle.refusal.specs.declared.Refusal.{Refusal}
use Rattle.refusal.specs.declared.Refusal.TheVariants as Refusal
use mathlib.Core.List.{List, [], ◌∷◌, ◌++◌}
use Rattle.std.proofs.Math.Option.{Option, none, some}
use borrow.Author.Tests.{leb-true, leb-false, le-leb, ltb-false}
use Rattle.std.proofs.Math.ListN.{length}
use Rattle.truths.specs.TruthLaws.{by_test, both}
use Rattle.lent_bytes.specs.LentBytes.{Bytes}
use Rattle.lent_bytes.specs.LentBytesLaws.{Bytes_nil, Bytes_cons, Bytes_append}
use Rattle.pubkey.specs.declared.ChannelUpdateLimiterKey.{ChannelUpdateLimiterKey}
use Rattle.pubkey.specs.Order.{side_byte, limiter_key_bytes}
use Rattle.pubkey.specs.OrderLaws.{Whole, limiter_key_length}
use Rattle.table.specs.Table.{row_under, every, ascending, look}
use Rattle.table.specs.Memory.{rows}
use Rattle.table.specs.TableLaws.{sub_retain}
use Rattle.table.specs.LookLaws.{look_rule}
use Rattle.table.specs.PlaceLaws.{length_store_some}
use Rattle.table.specs.Outcome.{Change, become, count_after, Memory, Outcome, Meets}
use Rattle.table_laws.specs.Raw.{map_entries}
use Rattle.table_laws.specs.ChangeLaws.{length_store_most}
use Rattle.table_laws.specs.Lent.{long_enough}
use Rattle.table_laws.specs.LentLaws.{own_sound_lem}
use Rattle.table_laws.specs.MapLaws.{map_hold}
use Rattle.table_laws.specs.WordsLaws.{OfNumbers, of_numbers, length_encode, encode_bytes}
use Rattle.table_laws.specs.Kept.{Key, Encodes, RowsHold, ChangeHolds, LentHolds, LentKept}
use Rattle.table_laws.specs.KeptLaws.{sub_hold, store_hold, lent_holds, holds_lent, rows_hold, change_kept, length_laid_keyed}
use Rattle.bucket_discrete.specs.declared.discrete.DiscreteTokenBucket.{DiscreteTokenBucket}
use Rattle.bucket_discrete.specs.DiscreteBucket.{discrete_new}
use Rattle.gossip_settings.specs.declared.channel_update.ChannelUpdateRateLimitConfig.{ChannelUpdateRateLimitConfig}
use Rattle.gossip_settings.specs.Settings.{channel_update_disabled}
use Rattle.gossip_limiter_rows.specs.declared.entry.ChannelUpdateLimiterEntry.{ChannelUpdateLimiterEntry}
use Rattle.gossip_limiter_rows.specs.Entry.{bucket_of, refilled, asked_of}
use Rattle.gossip_limiter_rows.specs.Rows.{key_width, row_width, side_place, Limits, limiter_numbers, limiter_layout, limiter_sound}
use Rattle.gossip_limiter_rows.specs.RowsLaws.{sound_level, refilled_sound, asked_level}
use Rattle.gossip_limiter_rows.specs.Prune.{not_full, room_for}
use Rattle.gossip_limiter_rows.specs.PruneLaws.{by_room}
use Rattle.gossip_limiter.specs.declared.limiter.ChannelUpdateLimiter.{ChannelUpdateLimiter}
use Rattle.gossip_limiter.specs.Handed.{LimiterTold}
use Rattle.gossip_limiter.specs.Limiter.{rows_of, limit_of, limiter_record_sound, sound, turn, try_acquire}
use Rattle.gossip_limiter.specs.LimiterLaws.{limit_within, rows_within, within_sound, acquire_off, acquire_known, acquire_full, acquire_new}
use Rattle.gossip_limiter.specs.Calls.{limiter_after, carried, refuse, fresh, made_outcome, MadeMeets, try_acquire_outcome, TryAcquireMeets}

-- ════ A row stored ════

-- a side is 0 or 1
side_small : (b : Bool) → side_byte b ≤ 1
side_small true = omega arith
side_small false = omega arith

-- what stands in a key where its side does is a side
side_last : (k : ChannelUpdateLimiterKey) → Whole k → get_or (limiter_key_bytes k) side_place 0 ≤ 1
unfolding limiter_key_bytes
side_last k w =
    let p : List ℕ = k.peer.bytes in
    let o : List ℕ = k.channel_outpoint.bytes in
    let side : List ℕ = side_byte k.is_node1 ∷ [] in
    let behind : side_place ≡ length p + 36 = omega (arith, w.peer_length) in
    let last : 36 ≡ length o + 0 = omega (arith, w.outpoint_length) in
    let there : get_or (p ++ (o ++ side)) side_place 0 ≡ side_byte k.is_node1 =
    ap (λ (i : ℕ). get_or (p ++ (o ++ side)) i 0) behind ∙ get_or-append-add p (o ++ side) 36 0
    ∙ ap (λ (i : ℕ). get_or (o ++ side) i 0) last ∙ get_or-append-add o side 0 0 in
    rw there (side_small k.is_node1)

-- its bytes are a key of the table
key_held : (k : ChannelUpdateLimiterKey) → Whole k → Bytes k.peer.bytes → Bytes k.channel_outpoint.bytes → Key limiter_layout (limiter_key_bytes k)
unfolding limiter_key_bytes
key_held k w peer outpoint = (
  limiter_key_length w,
  Bytes_append k.peer.bytes (k.channel_outpoint.bytes ++ (side_byte k.is_node1 ∷ [])) peer
      (Bytes_append k.channel_outpoint.bytes (side_byte k.is_node1 ∷ []) outpoint
      (Bytes_cons (side_byte k.is_node1) [] (omega (arith, side_small k.is_node1)) Bytes_nil)),
)

-- the row of a bucket that was asked, under a key with a side
asked_sound : (c : ChannelUpdateRateLimitConfig) (k : List ℕ) (b : DiscreteTokenBucket) (now : ℕ) → get_or k side_place 0 ≤ 1 → b.capacity ≡ c.burst
    → b.available ≤ b.capacity → limiter_sound c (row_under k (asked_of b now).entry) ≡ true
unfolding limiter_sound
asked_sound c k b now side capacity level =
    both (le-leb (asked_of b now).entry.available c.burst (omega (arith, asked_level b now level))) (le-leb (get_or k side_place 0) 1 side)

-- ════ What try_acquire makes of the rows ════

module _ (c : ChannelUpdateRateLimitConfig) (limit now : ℕ) (k : List ℕ) (rs : Limits) (h : RowsHold limiter_layout (limiter_sound c) limit rs) where
  room_holds : RowsHold limiter_layout (limiter_sound c) limit (room_for limit c now rs)
  room_holds =
      by_room c now limit rs (RowsHold limiter_layout (limiter_sound c) limit) h
      (sub_hold limiter_layout (limiter_sound c) limit (sub_retain (not_full c) (map_entries (refilled c now) rs))
      (map_hold (refilled c now) (limiter_sound c) (refilled_sound c now) limiter_layout limit rs h))

  module _ (key : Key limiter_layout k) (side : get_or k side_place 0 ≤ 1) where
    -- the call's change, by an equation of what it comes to
    comes : (o : Outcome ChannelUpdateLimiterEntry (Result Bool Refusal)) → try_acquire c limit k now rs ≡ o
        → ChangeHolds limiter_layout (limiter_sound c) limit o.change → ChangeHolds limiter_layout (limiter_sound c) limit (try_acquire c limit k now rs).change
    comes o e held = subst (λ (x : Outcome ChannelUpdateLimiterEntry (Result Bool Refusal)). ChangeHolds limiter_layout (limiter_sound c) limit x.change) (sym e) held

    acquire_by : channel_update_disabled c ≡ false → (found : Option ChannelUpdateLimiterEntry) → look k rs ≡ found
        → ChangeHolds limiter_layout (limiter_sound c) limit (try_acquire c limit k now rs).change
    acquire_by on none l =
        let left : Limits = room_for limit c now rs in
        let b : DiscreteTokenBucket = discrete_new c.interval_ms c.burst in
        by_test (leb limit (length left))
        (λ t. comes _ (acquire_full c limit k now rs on l (leb-true limit (length left) t)) room_holds)
        (λ t. let free : length left < limit = leb-false limit (length left) t in
        comes _ (acquire_new c limit k now rs on l free)
        (store_hold limiter_layout (limiter_sound c) limit k (asked_of b now).entry left key (asked_sound c k b now side refl (omega arith)) room_holds
        (omega (arith, length_store_most k (asked_of b now).entry left))))
    acquire_by on (some e) l =
        let b : DiscreteTokenBucket = bucket_of c e in
        comes _ (acquire_known c limit k now rs on e l)
        (store_hold limiter_layout (limiter_sound c) limit k (asked_of b now).entry rs key
        (asked_sound c k b now side refl (sound_level c (row_under k e) (look_rule (limiter_sound c) k rs h.rules l))) h
        (omega (arith, length_store_some k rs (asked_of b now).entry l, h.few)))

    acquire_holds : ChangeHolds limiter_layout (limiter_sound c) limit (try_acquire c limit k now rs).change
    acquire_holds =
        by_test (channel_update_disabled c) (λ t. comes _ (acquire_off c limit k now rs t) tt) (λ t. acquire_by t (look k rs) refl)

-- ════ A change kept ════

-- what a call leaves of a limiter and its memory: soundness, the memory's length, bytes, and the settings
pub record LimiterKept (l : ChannelUpdateLimiter) (s : List ℕ) (q : ChannelUpdateLimiter) (u : List ℕ) : Type 0 where
  pub stays_sound : sound q u ≡ true
  pub same_length : length u ≡ length s
  pub holds_bytes : Bytes u
  pub same_settings : q.config ≡ l.config
  pub same_limit : q.max_entries ≡ l.max_entries

limiter_of_numbers : OfNumbers limiter_layout limiter_numbers
limiter_of_numbers = of_numbers key_width row_width limiter_numbers (omega arith) refl (λ e. refl) (λ e. refl) (λ s. refl)

limiter_encodes : Encodes limiter_layout
limiter_encodes =
    record { key_fits = omega arith; length_encode = length_encode limiter_of_numbers; encode_bytes = encode_bytes limiter_of_numbers }

module _ (l : ChannelUpdateLimiter) (s : List ℕ) (h : sound l s ≡ true) (b : Bytes s) where
  own : limiter_record_sound l ≡ true
  own = own_sound_lem limiter_layout (limiter_sound l.config) (limiter_record_sound l) (limit_of l.max_entries) s l.rows h

  held : LentHolds limiter_layout (limiter_sound l.config) (limit_of l.max_entries) s l.rows
  held =
      lent_holds limiter_layout (limiter_sound l.config) (limit_of l.max_entries) s l.rows (limiter_record_sound l) (rows_within l own) h

  -- the rows of a sound limiter
  limited_hold : RowsHold limiter_layout (limiter_sound l.config) (limit_of l.max_entries) (rows_of l s)
  limited_hold = rows_hold limiter_layout (limiter_sound l.config) (limit_of l.max_entries) s l.rows (omega arith) held b

  -- a change to rows that hold
  changed : (u : List ℕ) (change : Change ChannelUpdateLimiterEntry)
      → ChangeHolds limiter_layout (limiter_sound l.config) (limit_of l.max_entries) change → Memory limiter_layout s u l.rows change
      → LimiterKept l s (limiter_after l change) u
  changed u change rs m =
      let kept : LentKept limiter_layout (limiter_sound l.config) (limit_of l.max_entries) s u l.rows change =
      change_kept limiter_encodes (limiter_sound l.config) (limit_of l.max_entries) s u l.rows change held b rs m in
      record {
        stays_sound =
            holds_lent limiter_layout (limiter_sound l.config) (limit_of l.max_entries) u (count_after l.rows change)
            (within_sound (limiter_after l change) (limit_within l own) kept.holds.few) kept.holds;
        same_length = kept.same_length;
        holds_bytes = kept.holds_bytes;
        same_settings = refl;
        same_limit = refl;
      }

-- ════ Making ════

module _ (c : ChannelUpdateRateLimitConfig) (limit : ℕ) (s u : List ℕ) where
  made_as : {r : Result ChannelUpdateLimiter Refusal} {l : ChannelUpdateLimiter} (large long : Bool) → r ≡ Ok l
      → Meets limiter_layout r s u (limit_of limit) (cond large (refuse (Err Refusal.LimitTooLarge)) (cond long (turn (Ok (fresh c limit)) (become [])) (refuse (Err Refusal.TooShort))))
      → (l ≡ fresh c limit) × ((large ≡ false) × ((long ≡ true) × Memory limiter_layout s u (limit_of limit) (become [])))
  made_as true long e m = absurd (let z : ◌≡◌ {A = ℕ} 0 1 = cc m.answers in omega arith)
  made_as false false e m = absurd (let z : ◌≡◌ {A = ℕ} 0 1 = cc m.answers in omega arith)
  made_as false true e m = (cc m.answers, (refl, (refl, m.leaves)))

  -- a limiter that was made is sound in its memory, which keeps its length
  pub fresh_limiter_sound : (l : ChannelUpdateLimiter) → MadeMeets c limit s (Ok l) u
      → (sound l u ≡ true) × ((length u ≡ length s) × (l ≡ fresh c limit))
  unfolding MadeMeets made_outcome every ascending rows
  fresh_limiter_sound l m =
      let parts = made_as (ltb 1024 limit) (long_enough limiter_layout (limit_of limit) s) refl m in
      let within : limit ≤ 1024 = ltb-false 1024 limit parts.1.0 in
      let long : row_width * limit_of limit ≤ length s = leb-true (row_width * limit_of limit) (length s) parts.1.1.0 in
      let same_length : length u ≡ length s =
      ap length parts.1.1.1.memory ∙ length_laid_keyed limiter_encodes s (limit_of limit) [] tt long (omega arith) in
      let here : sound (fresh c limit) u ≡ true =
      holds_lent limiter_layout (limiter_sound c) (limit_of limit) u 0 (within_sound (fresh c limit) within (omega arith))
      (record { few = omega arith; long = omega arith; rules = refl; order = refl }) in
      (subst (λ (q : ChannelUpdateLimiter). sound q u ≡ true) (sym parts.0) here, (same_length, parts.0))

-- ════ The call ════

module _ (l : ChannelUpdateLimiter) (s u : List ℕ) (now : ℕ) (h : sound l s ≡ true) (b : Bytes s) where
  pub try_acquire_kept : (k : ChannelUpdateLimiterKey) → Whole k → Bytes k.peer.bytes → Bytes k.channel_outpoint.bytes → (r : LimiterTold)
      → TryAcquireMeets l s k now r u → LimiterKept l s r.state u
  unfolding TryAcquireMeets try_acquire_outcome
  try_acquire_kept k w peer outpoint r m =
      let o : Outcome ChannelUpdateLimiterEntry (Result Bool Refusal) = try_acquire l.config (limit_of l.max_entries) (limiter_key_bytes k) now (rows_of l s) in
      let met : Meets limiter_layout r s u l.rows (carried l o) = rw h at m in
      subst (λ (q : ChannelUpdateLimiter). LimiterKept l s q u) (sym (ap (λ (p : LimiterTold). p.state) met.answers))
      (changed l s h b u o.change
      (acquire_holds l.config (limit_of l.max_entries) now (limiter_key_bytes k) (rows_of l s) (limited_hold l s h b)
      (key_held k w peer outpoint) (side_last k w)) met.leaves)
