-- Laws of the peers' rows, which callers' proofs cite: entries and their bytes are read back from one another, and the numbers of a
-- row by their places. Assumes nothing.
use Rattle.std.specs.Prelude.{◌≡◌, refl, ◌&&◌, List, ℕ, ◌+◌, ◌^◌, ◌<◌, leb, eqb, length, get_or}
use Rattle.std.proofs.Common.{ap, arith}
use Rattle.lent_bytes.specs.LentBytes.{part, le}
use Rattle.table.specs.Table.{row_under}
use Rattle.table.specs.Memory.{row_of}
use Rattle.table.specs.MemoryLaws.{Faithful}
use Rattle.table_laws.specs.Words.{Numbers, NumbersFit}
use Rattle.table_laws.specs.WordsLaws.{OfNumbers, numbers_faithful, word_place}
use Rattle.peer_settings.specs.declared.config.PeerMessagePolicyConfig.{PeerMessagePolicyConfig}
use Rattle.peer_state.specs.declared.entry.PeerMessagePolicyEntry.{PeerMessagePolicyEntry}
use Rattle.peer_state.specs.Entry.{level, window, ban, ban_sound, entry_sound, entry_is_spent}
use Rattle.peer_rows.specs.Rows.{key_width, row_width, entry_words, entry_of, peer_layout, row_from, peer_sound}

-- ════ Entries and their bytes ════

-- the eleven numbers of an entry fit eight bytes each: any entry that a program holds does
pub record EntryFits (e : PeerMessagePolicyEntry) : Type 0 where
  pub messages_available : e.messages.available < 2 ^ 64
  pub messages_last : e.messages.last_refill_ms < 2 ^ 64
  pub bytes_available : e.bytes.available < 2 ^ 64
  pub bytes_last : e.bytes.last_refill_ms < 2 ^ 64
  pub rate_count : e.rate_limit_violations.count < 2 ^ 64
  pub rate_start : e.rate_limit_violations.started_at_ms < 2 ^ 64
  pub invalid_count : e.invalid_messages.count < 2 ^ 64
  pub invalid_start : e.invalid_messages.started_at_ms < 2 ^ 64
  pub mark : e.ban.mark < 2 ^ 64
  pub until : e.ban.until_ms < 2 ^ 64
  pub used : e.last_used_ms < 2 ^ 64

-- an entry by its eleven numbers
abbrev pub peer_numbers : Numbers PeerMessagePolicyEntry
peer_numbers =
    record {
      count = 11;
      words_of = entry_words;
      of_words =
          λ w.
          record {
            messages = level (get_or w 0 0) (get_or w 1 0);
            bytes = level (get_or w 2 0) (get_or w 3 0);
            rate_limit_violations = window (get_or w 4 0) (get_or w 5 0);
            invalid_messages = window (get_or w 6 0) (get_or w 7 0);
            ban = ban (get_or w 8 0) (get_or w 9 0);
            last_used_ms = get_or w 10 0;
          };
    }

-- an entry has eleven numbers
pub length_entry_words : (e : PeerMessagePolicyEntry) → length (entry_words e) ≡ 11
unfolding entry_words
length_entry_words e = refl

-- a peer's row is a key and those numbers
pub peer_numbers_lem : OfNumbers peer_layout peer_numbers
unfolding entry_words entry_of
peer_numbers_lem =
    record {
      wide = omega arith;
      widths = refl;
      encodes = λ e. refl;
      decodes = λ s. refl;
      length_words = length_entry_words;
      of_words_lem = λ e. refl;
      words_of_lem = λ s. refl;
    }

numbers_fit : (e : PeerMessagePolicyEntry) → EntryFits e → NumbersFit peer_numbers e
unfolding entry_words
numbers_fit e f = omega (arith, f)

entry_fits : (e : PeerMessagePolicyEntry) → NumbersFit peer_numbers e → EntryFits e
unfolding entry_words
entry_fits e f = omega (arith, f)

-- entries stand in their rows and are read back
pub peer_faithful : Faithful peer_layout EntryFits
peer_faithful = numbers_faithful peer_numbers_lem EntryFits numbers_fit entry_fits

-- ════ The numbers of a row by their places ════

-- where a row's levels, windows, ban and last use stand in it
abbrev pub messages_place : ℕ
messages_place = key_width

abbrev pub bytes_place : ℕ
bytes_place = key_width + 16

abbrev pub violations_place : ℕ
violations_place = key_width + 32

abbrev pub invalid_place : ℕ
invalid_place = key_width + 48

abbrev pub ban_place : ℕ
ban_place = key_width + 64

abbrev pub last_used_place : ℕ
last_used_place = key_width + 80

-- the entry whose numbers stand behind the key of the row at a place
abbrev pub entry_places : List ℕ → ℕ → PeerMessagePolicyEntry
entry_places s at =
    record {
      messages = level (le (part s (at + messages_place) 8)) (le (part s (at + messages_place + 8) 8));
      bytes = level (le (part s (at + bytes_place) 8)) (le (part s (at + bytes_place + 8) 8));
      rate_limit_violations = window (le (part s (at + violations_place) 8)) (le (part s (at + violations_place + 8) 8));
      invalid_messages = window (le (part s (at + invalid_place) 8)) (le (part s (at + invalid_place + 8) 8));
      ban = ban (le (part s (at + ban_place) 8)) (le (part s (at + ban_place + 8) 8));
      last_used_ms = le (part s (at + last_used_place) 8);
    }

-- the entry of the row at a place
pub entry_places_lem : (s : List ℕ) (at : ℕ) → (row_from s at).entry ≡ entry_places s at
unfolding row_of entry_of
entry_places_lem s at =
    rw (
      word_place s at key_width row_width 0 (at + messages_place) (omega arith) (omega arith),
      word_place s at key_width row_width 1 (at + messages_place + 8) (omega arith) (omega arith),
      word_place s at key_width row_width 2 (at + bytes_place) (omega arith) (omega arith),
      word_place s at key_width row_width 3 (at + bytes_place + 8) (omega arith) (omega arith),
      word_place s at key_width row_width 4 (at + violations_place) (omega arith) (omega arith),
      word_place s at key_width row_width 5 (at + violations_place + 8) (omega arith) (omega arith),
      word_place s at key_width row_width 6 (at + invalid_place) (omega arith) (omega arith),
      word_place s at key_width row_width 7 (at + invalid_place + 8) (omega arith) (omega arith),
      word_place s at key_width row_width 8 (at + ban_place) (omega arith) (omega arith),
      word_place s at key_width row_width 9 (at + ban_place + 8) (omega arith) (omega arith),
      word_place s at key_width row_width 10 (at + last_used_place) (omega arith) (omega arith),
    )

-- the row at a place
pub row_places : (s : List ℕ) (at : ℕ) → row_from s at ≡ row_under (row_from s at).key (entry_places s at)
row_places s at = ap (row_under (row_from s at).key) (entry_places_lem s at)

-- whether the row at a place keeps its rule
pub sound_places : (c : PeerMessagePolicyConfig) (s : List ℕ) (at : ℕ) → peer_sound c (row_from s at)
    ≡ (leb (le (part s (at + messages_place) 8)) c.peer_message_burst
    && (leb (le (part s (at + bytes_place) 8)) c.peer_message_burst_bytes
    && (leb (le (part s (at + violations_place) 8)) 4294967295
    && (leb (le (part s (at + invalid_place) 8)) 4294967295
    && ban_sound (ban (le (part s (at + ban_place) 8)) (le (part s (at + ban_place + 8) 8)))))))
unfolding entry_sound
sound_places c s at = rw (entry_places_lem s at)

-- whether the ban of the row at a place is over
pub spent_places : (s : List ℕ) (at now : ℕ) → entry_is_spent (row_from s at).entry now
    ≡ (eqb (le (part s (at + ban_place) 8)) 1 && leb (le (part s (at + ban_place + 8) 8)) now)
spent_places s at now = ap (λ (e : PeerMessagePolicyEntry). entry_is_spent e now) (entry_places_lem s at)
