-- Laws of the settings' bytes: what is written is read back, what is read is written back, and where each number stands. Assumes nothing.
use Rattle.std.specs.Prelude.{Some, None}
use Prim.{tt}
use Rattle.std.specs.Prelude.{◌≡◌, refl, Bool, true, false, ◌&&◌, cond, List, ℕ, ◌<◌, length, get_or}
use Rattle.std.proofs.Common.{sym, ap, ◌∙◌, subst, arith, leb-true, le-leb}
use Rattle.lent_bytes.specs.LentBytes.{part, Bytes}
use Rattle.table.specs.Memory.{word_bytes, word_of}
use Rattle.table.specs.MemoryLaws.{Words, length_word_bytes, Bytes_word_bytes, word_of_word_bytes, word_bytes_all, word_of_lt}
use Rattle.peer_settings.specs.declared.config.PeerMessagePolicyConfig.{PeerMessagePolicyConfig}
use Rattle.peer_settings.specs.Fits.{ConfigFits}
use Rattle.snapshot_settings.specs.Settings.{settings_size, narrow, settings_words, settings_bytes, config_of, settings_narrow, settings_from, settings_of}
use Rattle.table_laws.specs.WordsLaws.{each_fits}
use Rattle.snapshot_settings.specs.WordLaws.{word_at, word_place}

-- nine settings take their size
pub length_settings_bytes : (c : PeerMessagePolicyConfig) → length (settings_bytes c) ≡ settings_size
unfolding settings_bytes settings_words
length_settings_bytes c = length_word_bytes (settings_words c)

-- they are bytes
pub Bytes_settings_bytes : (c : PeerMessagePolicyConfig) → Bytes (settings_bytes c)
unfolding settings_bytes
Bytes_settings_bytes c = Bytes_word_bytes (settings_words c)

-- nine equal numbers say the same
settings_same : (v w : ℕ → ℕ) → ((i : ℕ) → i < 9 → v i ≡ w i) → settings_from v ≡ settings_from w
settings_same v w h =
    rw (
      h 0 (omega arith),
      h 1 (omega arith),
      h 2 (omega arith),
      h 3 (omega arith),
      h 4 (omega arith),
      h 5 (omega arith),
      h 6 (omega arith),
      h 7 (omega arith),
      h 8 (omega arith),
    )

-- settings that stand at a place, by their numbers there
pub settings_places : (s : List ℕ) (at : ℕ) → settings_of (part s at settings_size) ≡ settings_from (word_at s at)
unfolding settings_of
settings_places s at =
    settings_same (λ i. word_of (part s at settings_size) i) (word_at s at) (λ i h. word_place s at settings_size i (omega arith))

-- ════ Written and read ════

-- the numbers of settings fit eight bytes each
settings_words_lem : (c : PeerMessagePolicyConfig) → ConfigFits c → Words (settings_words c)
unfolding settings_words
settings_words_lem c f =
    each_fits (settings_words c)
    (f.interval, (omega arith, (f.rate, (f.burst_bytes, (omega arith, (f.duration, (f.tracked, (omega arith, (f.bytes, tt)))))))))

-- settings that were written are read back
pub settings_read_back : (c : PeerMessagePolicyConfig) → ConfigFits c → settings_of (settings_bytes c) ≡ Some c
unfolding settings_of settings_bytes settings_words
settings_read_back c f =
    settings_same (λ i. word_of (word_bytes (settings_words c)) i) (λ i. get_or (settings_words c) i 0)
    (λ i h. word_of_word_bytes (settings_words c) i (settings_words_lem c f) h)
    ∙ rw (
      le-leb c.peer_message_burst 4294967295 (omega arith),
      le-leb c.violation_ban_threshold 4294967295 (omega arith),
      le-leb c.max_in_flight_messages 4294967295 (omega arith),
    )

-- ════ Read and written ════

-- both halves of a test that holds
both : (a b : Bool) → (a && b) ≡ true → (a ≡ true) × (b ≡ true)
both true b h = (refl, h)
both false b h = (h, cc)

-- what was read, and that its numbers are in range
read_is : (b : Bool) (x c : PeerMessagePolicyConfig) → cond b (Some x) None ≡ Some c → (b ≡ true) × (x ≡ c)
read_is true x c h = (refl, cc)
read_is false x c h = (cc, cc)

-- settings that were read are written back
pub settings_write_back : (s : List ℕ) (c : PeerMessagePolicyConfig) → Bytes s → length s ≡ settings_size → settings_of s ≡ Some c → settings_bytes c ≡ s
unfolding settings_of settings_bytes settings_words
settings_write_back s c b n h =
    let is = read_is (settings_narrow (λ i. word_of s i)) (config_of (λ i. word_of s i)) c h in
    ap (λ (x : PeerMessagePolicyConfig). word_bytes (settings_words x)) (sym is.1) ∙ word_bytes_all s 9 b n

-- numbers that are in range are within their fields
words_fit : (s : List ℕ) → Bytes s → length s ≡ settings_size → settings_narrow (λ i. word_of s i) ≡ true → ConfigFits (config_of (λ i. word_of s i))
words_fit s b n h =
    let first = both (narrow (word_of s 1)) _ h in
    let others = both (narrow (word_of s 4)) _ first.1 in
    record {
      interval = word_of_lt s 0 b (omega arith);
      burst = omega (arith, leb-true (word_of s 1) 4294967295 first.0);
      rate = word_of_lt s 2 b (omega arith);
      burst_bytes = word_of_lt s 3 b (omega arith);
      threshold = omega (arith, leb-true (word_of s 4) 4294967295 others.0);
      duration = word_of_lt s 5 b (omega arith);
      tracked = word_of_lt s 6 b (omega arith);
      messages = omega (arith, leb-true (word_of s 7) 4294967295 others.1);
      bytes = word_of_lt s 8 b (omega arith);
    }

-- settings that were read are within their fields
pub settings_read_fit : (s : List ℕ) (c : PeerMessagePolicyConfig) → Bytes s → length s ≡ settings_size → settings_of s ≡ Some c → ConfigFits c
unfolding settings_of
settings_read_fit s c b n h =
    let w : ℕ → ℕ = λ i. word_of s i in
    let is = read_is (settings_narrow w) (config_of w) c h in
    subst ConfigFits is.1 (words_fit s b n is.0)
