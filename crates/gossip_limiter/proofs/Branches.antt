-- The ways out of try_acquire: what it answers and leaves is its outcome. Over plain values. Assumes nothing.
use Rattle.std.specs.Prelude.{Result, Ok, Err, Bool}
use Rattle.refusal.specs.declared.Refusal.{Refusal}
use Rattle.refusal.specs.declared.Refusal.TheVariants as Refusal
use mathlib.Core.Path.{◌≡◌, refl, sym, ap, ◌∙◌}
use mathlib.Core.Bool.{true, false}
use mathlib.Core.List.{List}
use mathlib.Core.Option.{none}
use Prim.Native.Nat.{ℕ, ◌*◌, ◌^◌, ◌≤◌, ◌<◌}
use native.Mathlib.Omega.{arith}
use lib.ListN.{length}
use Rattle.lent_bytes.specs.LentBytes.{part, Bytes}
use Rattle.pubkey.specs.declared.ChannelUpdateLimiterKey.{ChannelUpdateLimiterKey}
use Rattle.pubkey.specs.Order.{limiter_key_bytes}
use Rattle.table.specs.Table.{look, store}
use Rattle.table.specs.Memory.{row_of, rows, Holds}
use Rattle.table.specs.MemoryLaws.{length_rows}
use Rattle.table.specs.Outcome.{same, become, Memory, Outcome}
use Rattle.table_laws.specs.ChangeLaws.{stored_at}
use Rattle.table_laws.specs.Private.{over, Counted}
use Rattle.table_laws.specs.LentLaws.{own_sound_lem, rows_fit, limit_fits, known_look, unknown_look}
use Rattle.table_laws.specs.StoreLaws.{counted_then}
use Rattle.bucket_discrete.specs.declared.discrete.DiscreteTokenBucket.{DiscreteTokenBucket}
use Rattle.bucket_discrete.specs.DiscreteBucket.{discrete_new}
use Rattle.gossip_settings.specs.declared.channel_update.ChannelUpdateRateLimitConfig.{ChannelUpdateRateLimitConfig}
use Rattle.gossip_settings.specs.Settings.{channel_update_disabled}
use Rattle.gossip_limiter_rows.specs.declared.entry.ChannelUpdateLimiterEntry.{ChannelUpdateLimiterEntry}
use Rattle.gossip_limiter_rows.specs.declared.entry.Asked.{Asked}
use Rattle.gossip_limiter_rows.specs.Entry.{bucket_of, asked_of}
use Rattle.gossip_limiter_rows.specs.Rows.{Limits, limiter_layout, limiter_sound}
use Rattle.gossip_limiter_rows.specs.RowsLaws.{limiter_faithful}
use Rattle.gossip_limiter_rows.specs.Prune.{room_for}
use Rattle.gossip_limiter_rows.specs.PruneLaws.{length_room, room_fit}
use Rattle.gossip_limiter.specs.declared.limiter.ChannelUpdateLimiter.{ChannelUpdateLimiter}
use Rattle.gossip_limiter.specs.Handed.{LimiterTold}
use Rattle.gossip_limiter.specs.Limiter.{rows_of, limit_of, limiter_record_sound, sound, turn, try_acquire}
use Rattle.gossip_limiter.specs.Calls.{limiter_with, limiter_after, limiter_told, try_acquire_outcome, TryAcquireMeets}
use Rattle.gossip_limiter.specs.Private.{Known, Unknown}
use Rattle.gossip_limiter.specs.LimiterLaws.{rows_within, acquire_off, acquire_known, acquire_full, acquire_new}

-- ════ What soundness gives ════

module _ (l : ChannelUpdateLimiter) (s : List ℕ) (h : sound l s ≡ true) where
  -- the rows are within the limit
  pub few_rows : l.rows ≤ limit_of l.max_entries
  few_rows = rows_within l (own_sound_lem limiter_layout (limiter_sound l.config) (limiter_record_sound l) (limit_of l.max_entries) s l.rows h)

  -- the memory has room for the limit
  pub limit_inside : 94 * limit_of l.max_entries ≤ length s
  limit_inside = limit_fits limiter_layout (limiter_sound l.config) (limiter_record_sound l) (limit_of l.max_entries) s l.rows h

  -- and for the rows
  pub rows_inside : 94 * l.rows ≤ length s
  rows_inside = rows_fit limiter_layout (limiter_sound l.config) (limiter_record_sound l) (limit_of l.max_entries) s l.rows h few_rows

-- ════ The ways out ════

module _ (l : ChannelUpdateLimiter) (s : List ℕ) (key : ChannelUpdateLimiterKey) (now : ℕ) where
  -- what the call comes to on the rows
  abbrev outcome : Outcome ChannelUpdateLimiterEntry (Result Bool Refusal)
  outcome = try_acquire l.config (limit_of l.max_entries) (limiter_key_bytes key) now (rows_of l s)

  -- the rows that a new key finds
  abbrev room : Limits
  room = room_for (limit_of l.max_entries) l.config now (rows_of l s)

  pub told_unsound : sound l s ≡ false → TryAcquireMeets l s key now (limiter_told l (Err Refusal.Unsound)) s
  unfolding TryAcquireMeets try_acquire_outcome
  told_unsound h = rw h (record { answers = refl; leaves = refl })

  -- a call that was carried out
  told_carried : sound l s ≡ true → (o : Outcome ChannelUpdateLimiterEntry (Result Bool Refusal)) → outcome ≡ o → (r : LimiterTold) (t : List ℕ)
      → r ≡ limiter_told (limiter_after l o.change) o.answer → Memory limiter_layout s t l.rows o.change → TryAcquireMeets l s key now r t
  unfolding TryAcquireMeets try_acquire_outcome
  told_carried h o e r t answers leaves = rw (h, e) (record { answers = answers; leaves = leaves })

  -- the limit is off
  pub told_off : sound l s ≡ true → channel_update_disabled l.config ≡ true → TryAcquireMeets l s key now (limiter_told l (Ok true)) s
  told_off h off =
      told_carried h (turn (Ok true) same)
      (acquire_off l.config (limit_of l.max_entries) (limiter_key_bytes key) now (rows_of l s) off) (limiter_told l (Ok true)) s refl refl

  -- a key that has a row: its bucket was asked and written over the row
  pub told_known : (i : ℕ) → Known l s (limiter_key_bytes key) i → channel_update_disabled l.config ≡ false → (found : ChannelUpdateLimiterEntry)
      → found ≡ (row_of limiter_layout (part s (94 * i) 94)).entry → (b : DiscreteTokenBucket) → b ≡ bucket_of l.config found → (asked : Asked)
      → asked ≡ asked_of b now → (t : List ℕ) → Holds limiter_layout s t l.rows (over limiter_layout s l.rows i asked.entry)
      → TryAcquireMeets l s key now (limiter_told l asked.answer) t
  told_known i known on found read b bucket asked ask t held =
      let c : ChannelUpdateRateLimitConfig = l.config in
      let limit : ℕ = limit_of l.max_entries in
      let k : List ℕ = limiter_key_bytes key in
      let rs : Limits = rows_of l s in
      let stored = stored_at limiter_faithful s t l.rows k i asked.entry known.place held in
      told_carried known.is_sound (turn asked.answer (become (store k asked.entry rs)))
      (acquire_known c limit k now rs on found (known_look limiter_layout (limiter_sound c) (limiter_record_sound l) limit s l.rows k i known found read)
      ∙ ap (λ (a : Asked). turn a.answer (become (store k a.entry rs))) (sym (ask ∙ ap (λ (x : DiscreteTokenBucket). asked_of x now) bucket)))
      (limiter_told l asked.answer) t (ap (λ (n : ℕ). limiter_told (limiter_with l n) asked.answer) stored.1) stored.0

  module _ (gap : ℕ) (unknown : Unknown l s (limiter_key_bytes key) gap) (on : channel_update_disabled l.config ≡ false)
      (t : List ℕ) (left : ℕ) (made : Counted limiter_layout s t l.rows left room) (q : ChannelUpdateLimiter) where
    -- nothing is found for the key
    missing : look (limiter_key_bytes key) (rows_of l s) ≡ none
    missing = unknown_look limiter_layout (limiter_sound l.config) (limiter_record_sound l) (limit_of l.max_entries) s l.rows (limiter_key_bytes key) gap unknown

    -- the table is full still
    pub told_full : limit_of l.max_entries ≤ left → q ≡ limiter_with l left → TryAcquireMeets l s key now (limiter_told q (Ok false)) t
    told_full full e =
        told_carried unknown.is_sound (turn (Ok false) (become room))
        (acquire_full l.config (limit_of l.max_entries) (limiter_key_bytes key) now (rows_of l s) on missing (omega (arith, made.1)))
        (limiter_told q (Ok false)) t
        (ap (λ (x : ChannelUpdateLimiter). limiter_told x (Ok false)) (e ∙ ap (limiter_with l) made.1)) made.0

    -- there is room: a fresh bucket was asked and stored
    pub told_new : left < limit_of l.max_entries → l.config.burst < 2 ^ 64 → now < 2 ^ 64 → Bytes s → (b : DiscreteTokenBucket)
        → b ≡ discrete_new l.config.interval_ms l.config.burst → (asked : Asked) → asked ≡ asked_of b now → (u : List ℕ) (m : ℕ)
        → Counted limiter_layout t u left m (store (limiter_key_bytes key) asked.entry (rows limiter_layout t left)) → q ≡ limiter_with l m
        → TryAcquireMeets l s key now (limiter_told q asked.answer) u
    told_new free small time bytes b bucket asked ask u m stored e =
        let c : ChannelUpdateRateLimitConfig = l.config in
        let limit : ℕ = limit_of l.max_entries in
        let k : List ℕ = limiter_key_bytes key in
        let fewer : length room ≤ l.rows = omega (arith, length_room c now limit (rows_of l s), length_rows limiter_layout s l.rows) in
        let all : Counted limiter_layout s u l.rows m (store k asked.entry room) =
        counted_then limiter_faithful (store k asked.entry) s t u l.rows left m room
        (room_fit c now s l.rows small time bytes (rows_inside l s unknown.is_sound) limit) (omega arith) made stored in
        told_carried unknown.is_sound (turn asked.answer (become (store k asked.entry room)))
        (acquire_new c limit k now (rows_of l s) on missing (omega (arith, made.1))
        ∙ ap (λ (a : Asked). turn a.answer (become (store k a.entry room))) (sym (ask ∙ ap (λ (x : DiscreteTokenBucket). asked_of x now) bucket)))
        (limiter_told q asked.answer) u
        (ap (λ (x : ChannelUpdateLimiter). limiter_told x asked.answer) (e ∙ ap (limiter_with l) all.1)) all.0
