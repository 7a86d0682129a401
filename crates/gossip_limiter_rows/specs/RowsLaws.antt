-- Laws of the limiter's rows: entries are read back, the places of a row's numbers and of its side, and what a refill and a take leave of
-- an entry. Assumes nothing.
use Rattle.std.specs.Prelude.{◌≡◌, refl, true, List, ℕ, ◌+◌, ◌^◌, ◌≤◌, ◌<◌, leb, get_or}
use Rattle.std.proofs.Common.{ap, ◌∙◌, arith}
use borrow.Author.Tests.{leb-true, le-leb}
use Rattle.truths.specs.TruthLaws.{both, both_parts}
use Rattle.lent_bytes.specs.LentBytes.{part, le}
use Rattle.lent_bytes.specs.LentBytesLaws.{get_d_part}
use Rattle.table.specs.Table.{Row}
use Rattle.table.specs.Memory.{row_of}
use Rattle.table.specs.MemoryLaws.{Faithful, key_row_of}
use Rattle.table_laws.specs.Raw.{map_row}
use Rattle.table_laws.specs.Words.{NumbersFit}
use Rattle.table_laws.specs.WordsLaws.{words_faithful, word_place}
use Rattle.bucket_discrete.specs.declared.discrete.DiscreteTokenBucket.{DiscreteTokenBucket}
use Rattle.bucket_discrete.specs.DiscreteBucket.{discrete_refill, discrete_try_consume}
use Rattle.bucket_discrete.specs.LevelLaws.{refills, takes}
use Rattle.gossip_settings.specs.declared.channel_update.ChannelUpdateRateLimitConfig.{ChannelUpdateRateLimitConfig}
use Rattle.gossip_limiter_rows.specs.declared.entry.ChannelUpdateLimiterEntry.{ChannelUpdateLimiterEntry}
use Rattle.gossip_limiter_rows.specs.Entry.{limiter_entry, bucket_of, refilled, asked_of}
use Rattle.gossip_limiter_rows.specs.Rows.{key_width, row_width, side_place, limiter_numbers, limiter_layout, limiter_sound}

-- an entry's numbers fit eight bytes each: those of any entry that a program holds do
abbrev pub EntryFits : ChannelUpdateLimiterEntry → Type 0
EntryFits = NumbersFit limiter_numbers

-- entries stand in their rows and are read back
pub limiter_faithful : Faithful limiter_layout EntryFits
limiter_faithful = words_faithful key_width row_width limiter_numbers (omega arith) refl (λ e. refl) (λ e. refl) (λ s. refl)

-- the entry of the row at a place
pub entry_places_lem : (s : List ℕ) (at : ℕ) → (row_of limiter_layout (part s at row_width)).entry
    ≡ limiter_entry (le (part s (at + key_width) 8)) (le (part s (at + (key_width + 8)) 8)) (le (part s (at + (key_width + 16)) 8))
unfolding row_of
entry_places_lem s at =
    rw (
      word_place s at key_width row_width 0 (at + key_width) (omega arith) (omega arith),
      word_place s at key_width row_width 1 (at + (key_width + 8)) (omega arith) (omega arith),
      word_place s at key_width row_width 2 (at + (key_width + 16)) (omega arith) (omega arith),
    )

-- the side of the row at a place
pub side_place_lem : (s : List ℕ) (at : ℕ) → get_or (row_of limiter_layout (part s at row_width)).key side_place 0 ≡ get_or s (at + side_place) 0
side_place_lem s at =
    ap (λ (l : List ℕ). get_or l side_place 0) (key_row_of limiter_faithful s at) ∙ get_d_part s at key_width side_place (omega arith)

-- what is available in a row that keeps its rule
pub sound_level : (c : ChannelUpdateRateLimitConfig) (r : Row ChannelUpdateLimiterEntry) → limiter_sound c r ≡ true → r.entry.available ≤ c.burst
unfolding limiter_sound
sound_level c r h = leb-true r.entry.available c.burst (both_parts (leb r.entry.available c.burst) (leb (get_or r.key side_place 0) 1) h).0

module _ (c : ChannelUpdateRateLimitConfig) (now : ℕ) where
  -- a refilled entry's numbers fit
  pub refilled_fits : c.burst < 2 ^ 64 → now < 2 ^ 64 → (e : ChannelUpdateLimiterEntry) → EntryFits e → EntryFits (refilled c now e)
  unfolding refilled
  refilled_fits small time e fit =
      let r = refills (bucket_of c e) now in
      let level : (discrete_refill (bucket_of c e) now).available < 2 ^ 64 = omega (arith, r.level, fit.0) in
      let last : (discrete_refill (bucket_of c e) now).last_refill_ms < 2 ^ 64 = omega (arith, r.last, fit.1.0) in
      (level, (last, (fit.1.1.0, tt)))

  -- a row that keeps its rule keeps it refilled
  pub refilled_sound : (r : Row ChannelUpdateLimiterEntry) → limiter_sound c r ≡ true → limiter_sound c (map_row (refilled c now) r) ≡ true
  unfolding limiter_sound refilled
  refilled_sound r h =
      let parts = both_parts (leb r.entry.available c.burst) (leb (get_or r.key side_place 0) 1) h in
      let level : (discrete_refill (bucket_of c r.entry) now).available ≤ c.burst =
      omega (arith, (refills (bucket_of c r.entry) now).level, leb-true r.entry.available c.burst parts.0) in
      both (le-leb (discrete_refill (bucket_of c r.entry) now).available c.burst level) parts.1

-- a bucket that was asked has no more available than its capacity
pub asked_level : (b : DiscreteTokenBucket) (now : ℕ) → b.available ≤ b.capacity → (asked_of b now).entry.available ≤ b.capacity
unfolding asked_of discrete_try_consume
asked_level b now h = omega (arith, (takes (discrete_refill b now)).level, (refills b now).level)
