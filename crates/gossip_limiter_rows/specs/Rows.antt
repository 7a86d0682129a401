-- The rows of the channel update limiter: how an entry stands in its 24 bytes behind the key, and the rule that each row keeps.
-- Definitions only.
use Rattle.std.specs.Prelude.{Bool, ◌&&◌, List, [], ◌∷◌, ℕ, leb, get_or}
use Rattle.table.specs.Table.{Row}
use Rattle.table.specs.Memory.{Layout}
use Rattle.table_laws.specs.Words.{Numbers, word_layout}
use Rattle.gossip_settings.specs.declared.channel_update.ChannelUpdateRateLimitConfig.{ChannelUpdateRateLimitConfig}
use Rattle.gossip_limiter_rows.specs.declared.entry.ChannelUpdateLimiterEntry.{ChannelUpdateLimiterEntry}
use Rattle.gossip_limiter_rows.specs.Entry.{limiter_entry}

-- ════ Widths and places, in bytes ════

-- of a key
abbrev pub key_width : ℕ
key_width = 70

-- of a row: its key, and three numbers of eight bytes behind it
abbrev pub row_width : ℕ
row_width = 94

-- where the side stands: the last byte of the key
abbrev pub side_place : ℕ
side_place = 69

-- ════ A row ════

-- the three numbers of an entry, in the order of the row
abbrev pub entry_words : ChannelUpdateLimiterEntry → List ℕ
entry_words e = e.available ∷ e.last_refill_ms ∷ e.last_used_ms ∷ []

-- an entry as numbers
abbrev pub limiter_numbers : Numbers ChannelUpdateLimiterEntry
limiter_numbers =
    record {
      count = 3;
      words_of = entry_words;
      of_words = λ ws. limiter_entry (get_or ws 0 0) (get_or ws 1 0) (get_or ws 2 0);
    }

-- how a row stands in bytes
abbrev pub limiter_layout : Layout ChannelUpdateLimiterEntry
limiter_layout = word_layout key_width row_width limiter_numbers

-- the rows of a limiter, each by its key
abbrev pub Limits : Type 0
Limits = List (Row ChannelUpdateLimiterEntry)

-- the rule of a row: no more available than the burst, and the side of its key is 0 or 1
unfoldable pub limiter_sound : ChannelUpdateRateLimitConfig → Row ChannelUpdateLimiterEntry → Bool
limiter_sound c r = leb r.entry.available c.burst && leb (get_or r.key side_place 0) 1
