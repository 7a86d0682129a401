-- The text that a good line has, given what it says. Definitions only; that there is no other is proved in `SpellingLaws`.
use Rattle.std.specs.Prelude.{◌⊎◌, ◌≡◌, List, [], ◌∷◌, ◌++◌, ℕ, get_or, replicate}
use Rattle.decimal.specs.Ascii.{code, blank}
use Rattle.decimal.specs.Decimal.{digits_of}
use Rattle.peer_settings.specs.declared.config.PeerMessagePolicyConfig.{PeerMessagePolicyConfig}
use Rattle.pubkey.specs.declared.Pubkey.{Pubkey}
pub use Rattle.text_pieces.specs.Text.{hex_char, hex_text}
use Rattle.trace_lines.specs.Lines.{key_size, number_text}
use Rattle.trace_lines.specs.declared.event.Event.{Event}
use Rattle.trace_lines.specs.declared.event.EventKind.{EventKind}
use Rattle.trace_lines.specs.declared.event.EventKind.TheVariants as kind
use Prim.{Unit}

-- the settings line of nine settings
abbrev pub settings_text : PeerMessagePolicyConfig → List ℕ
settings_text c =
    digits_of c.peer_message_interval_ms
    ++ (number_text c.peer_message_burst
    ++ (number_text c.peer_message_rate_bytes_per_sec
    ++ (number_text c.peer_message_burst_bytes
    ++ (number_text c.violation_ban_threshold
    ++ (number_text c.ban_duration_ms
    ++ (number_text c.max_tracked_peers
    ++ (number_text c.max_in_flight_messages
    ++ number_text c.max_in_flight_bytes)))))))

-- the line `r BYTES`
abbrev pub release_text : ℕ → List ℕ
release_text bytes = code "r" ∷ number_text bytes

-- a text spells a key: all its bytes, or its first one where all are equal to that
abbrev pub SpellsKey : List ℕ → Pubkey → Type 0
SpellsKey text key =
    (text ≡ hex_text key.bytes)
    ⊎ ((text ≡ hex_text (get_or key.bytes 0 0 ∷ [])) × (key.bytes ≡ replicate key_size (get_or key.bytes 0 0)))

-- a line is a letter, a blank, a spelling of the key, and the numbers behind it
pub record SpellsKeyed (line : List ℕ) (letter : ℕ) (key : Pubkey) (numbers : List ℕ) : Type 0 where
  pub key_text : List ℕ
  pub spells : SpellsKey key_text key
  pub whole : line ≡ letter ∷ blank ∷ (key_text ++ numbers)

-- what a line of an event's kind has to be
abbrev pub spells_as : EventKind → List ℕ → Event → Type 0
spells_as kind.Admit line e = SpellsKeyed line (code "a") e.key (number_text e.bytes ++ number_text e.now_ms)
spells_as kind.Invalid line e = SpellsKeyed line (code "i") e.key (number_text e.now_ms)
spells_as kind.BanQuery line e = SpellsKeyed line (code "b") e.key (number_text e.now_ms)
spells_as kind.Disconnected line e = SpellsKeyed line (code "d") e.key (number_text e.now_ms)
spells_as kind.Release line e = line ≡ release_text e.bytes
spells_as kind.Bad line e = Unit {0}

-- a line is a spelling of an event: the only one but for the two spellings of a key; of a bad event any line is
abbrev pub SpellsEvent : List ℕ → Event → Type 0
SpellsEvent line e = spells_as e.kind line e
