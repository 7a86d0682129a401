-- A good line is the only spelling of what it says: the settings line, and an event's but for the two spellings of a key.
-- Assumes nothing.
use Rattle.std.specs.Prelude.{Bool, cond, ◌&&◌, ◌≡◌, leb, ltb, length}
use Rattle.std.proofs.Math.Bool.{true, false}
use Rattle.std.specs.Prelude.{Option, Some, None}
use Prim.{tt}
use Rattle.std.proofs.Math.Logic.{inl, inr}
use Rattle.std.proofs.Math.Path.{refl, sym, ap}
use Rattle.std.proofs.Common.{◌∙◌, add-one, arith, ltb-true, ltb-false, leb-true, eqb-true, lt-ltb, le-ltb, take-append-drop, drop-cons, drop-drop}
use mathlib.Core.List.{List, [], ◌∷◌, ◌++◌, append-nil}
use Prim.Native.Nat.{ℕ, zero, suc, ◌+◌, ◌-◌, ◌*◌, ◌/◌, ◌%◌, ◌^◌, ◌≤◌, ◌<◌}
use Rattle.std.proofs.Math.Dec.{eqb}
use Rattle.std.proofs.Math.ListN.{drop, get_or, replicate, get_or-eq_default}
use Rattle.std.proofs.Math.Seq.{drop-length}
use Rattle.truths.specs.TruthLaws.{true_is_not_false, both_parts, chosen}
use Rattle.decimal.specs.Ascii.{code, blank}
use Rattle.decimal.specs.Decimal.{is_digit, digits_of, scan_of}
use Rattle.decimal.specs.DecimalLaws.{digit_range, only_spelling}
use Rattle.peer_settings.specs.declared.config.PeerMessagePolicyConfig.{PeerMessagePolicyConfig}
use Rattle.pubkey.specs.declared.Pubkey.{Pubkey}
use Rattle.trace_lines.specs.Lines.{largest32, largest64, blank_then_number, field_of, value_of, ends_line, number_text, event, no_key, admit_of, keyed_of, release_of, event_of}
use Rattle.trace_lines.specs.Lines.{interval, burst, rate, burst_bytes, threshold, ban_duration, max_tracked, max_messages, max_bytes, config_of, settings_of}
use Rattle.trace_lines.specs.Lines.{behind_letter, key_place, behind_pair, key_size, hex_digit, hex_pair, hex_byte, hex_bytes, all_spelled, key_bytes, key_spelled, key_of, key_field}
use Rattle.trace_lines.specs.Spelling.{settings_text, hex_char, hex_text, SpellsKeyed, SpellsEvent}
use Rattle.trace_lines.specs.declared.event.Event.{Event}
use Rattle.trace_lines.specs.declared.event.EventKind.{EventKind}
use Rattle.trace_lines.specs.declared.event.EventKind.TheVariants as kind

-- ════ What stands before and behind a field ════

abbrev pub is_number : Option (ℕ × ℕ) → Bool
is_number (Some (v, at)) = true
is_number None = false

-- the line behind a field
abbrev pub behind : List ℕ → Option (ℕ × ℕ) → List ℕ
behind line (Some (v, at)) = drop at line
behind line None = []

-- a byte that is no zero stands within the line
pub byte_within : (line : List ℕ) (at b : ℕ) → get_or line at 0 ≡ b → 0 < b → drop at line ≡ b ∷ drop (at + 1) line
byte_within line at b e h = go (ltb at (length line)) refl
  where
    go : (t : Bool) → ltb at (length line) ≡ t → drop at line ≡ b ∷ drop (at + 1) line
    go true p = drop-cons line at 0 (ltb-true at (length line) p) ∙ rw (e, add-one)
    go false p = absurd (omega (arith, e, get_or-eq_default line 0 (ltb-false at (length line) p)))

scan_front : (line : List ℕ) (at most : ℕ) → most < 10 ^ 20 → (s : Option (ℕ × ℕ)) → scan_of line at most ≡ s → is_number s ≡ true
    → drop at line ≡ digits_of (value_of s) ++ behind line s
scan_front line at most m (Some (n, end)) e h =
    let sp = only_spelling line at most n end m e in
    let back : at + (end - at) ≡ end = omega (arith, sp.end_is) in
    sym (take-append-drop (end - at) (drop at line))
    ∙ ap (λ (l : List ℕ). l ++ drop (end - at) (drop at line)) sp.digits
    ∙ ap (λ (l : List ℕ). digits_of n ++ l) (drop-drop (end - at) at line)
    ∙ ap (λ (k : ℕ). digits_of n ++ drop k line) back
scan_front line at most m None e h = absurd (true_is_not_false h refl)

-- the digits of a number at a place, and what stands behind them
pub scan_spelling : (line : List ℕ) (at most : ℕ) → most < 10 ^ 20 → is_number (scan_of line at most) ≡ true
    → drop at line ≡ digits_of (value_of (scan_of line at most)) ++ behind line (scan_of line at most)
scan_spelling line at most m h = scan_front line at most m (scan_of line at most) refl h

-- a blank, the digits of a number, and what stands behind them
pub blank_spelling : (line : List ℕ) (at most : ℕ) → most < 10 ^ 20 → is_number (blank_then_number line at most) ≡ true
    → drop at line ≡ number_text (value_of (blank_then_number line at most)) ++ behind line (blank_then_number line at most)
unfolding blank_then_number
blank_spelling line at most m h = go (eqb (get_or line at 0) blank) refl h
  where
    go : (b : Bool) → eqb (get_or line at 0) blank ≡ b → is_number (cond b (scan_of line (at + 1) most) None) ≡ true
        → drop at line ≡ number_text (value_of (cond b (scan_of line (at + 1) most) None)) ++ behind line (cond b (scan_of line (at + 1) most) None)
    go true p k =
        byte_within line at blank (eqb-true (get_or line at 0) blank p) (omega arith)
        ∙ ap (λ (l : List ℕ). blank ∷ l) (scan_spelling line (at + 1) most m k)
    go false p k = absurd (true_is_not_false k refl)

-- behind a field stand a blank, the digits of the next one, and what is behind that
pub field_spelling : (line : List ℕ) (before : Option (ℕ × ℕ)) (most : ℕ) → most < 10 ^ 20 → is_number (field_of line before most) ≡ true
    → (is_number before ≡ true) × (behind line before ≡ number_text (value_of (field_of line before most)) ++ behind line (field_of line before most))
field_spelling line (Some (v, at)) most m h = (refl, blank_spelling line at most m h)
field_spelling line None most m h = absurd (true_is_not_false h refl)

-- behind the last field stands nothing
pub ends_spelling : (line : List ℕ) (last : Option (ℕ × ℕ)) → ends_line line last ≡ true → (is_number last ≡ true) × (behind line last ≡ [])
ends_spelling line (Some (v, at)) h = (refl, rw (eqb-true at (length line) h) (drop-length line))
ends_spelling line None h = absurd (true_is_not_false h refl)

-- ════ The settings line ════

abbrev config_in : PeerMessagePolicyConfig → Option PeerMessagePolicyConfig → PeerMessagePolicyConfig
config_in other (Some c) = c
config_in other None = other

-- a line whose ninth field ends it is the text of its settings
nine_fields : (line : List ℕ) → ends_line line (max_bytes line) ≡ true
    → line ≡ settings_text (config_of (interval line) (burst line) (rate line) (burst_bytes line) (threshold line)
    (ban_duration line) (max_tracked line) (max_messages line) (max_bytes line))
nine_fields line h =
    let e = ends_spelling line (max_bytes line) h in
    let i = field_spelling line (max_messages line) largest64 (omega arith) e.0 in
    let g = field_spelling line (max_tracked line) largest32 (omega arith) i.0 in
    let f = field_spelling line (ban_duration line) largest64 (omega arith) g.0 in
    let d = field_spelling line (threshold line) largest64 (omega arith) f.0 in
    let c = field_spelling line (burst_bytes line) largest32 (omega arith) d.0 in
    let b = field_spelling line (rate line) largest64 (omega arith) c.0 in
    let a = field_spelling line (burst line) largest64 (omega arith) b.0 in
    let z = field_spelling line (interval line) largest32 (omega arith) a.0 in
    scan_spelling line 0 largest64 (omega arith) z.0
    ∙ rw (z.1, a.1, b.1, c.1, d.1, f.1, g.1, i.1, e.1, append-nil (digits_of (value_of (max_bytes line))))

-- a line that gives settings is the only spelling of them
pub settings_spelling : (line : List ℕ) (config : PeerMessagePolicyConfig) → settings_of line ≡ Some config → line ≡ settings_text config
unfolding settings_of
settings_spelling line config h = go (ends_line line (max_bytes line)) refl h
  where
    go : (b : Bool) → ends_line line (max_bytes line) ≡ b
        → cond b (Some (config_of (interval line) (burst line) (rate line) (burst_bytes line) (threshold line)
        (ban_duration line) (max_tracked line) (max_messages line) (max_bytes line))) None ≡ Some config
        → line ≡ settings_text config
    go true p q = nine_fields line p ∙ ap (λ (s : Option PeerMessagePolicyConfig). settings_text (config_in config s)) q
    go false p q = let z : ◌≡◌ {A = ℕ} 0 1 = cc in absurd (omega arith)

-- ════ A key ════

range_told : (low high b : ℕ) → leb low b && leb b high ≡ true → (low ≤ b) × (b ≤ high)
range_told low high b h = go (leb low b) (leb b high) refl refl h
  where
    go : (p q : Bool) → leb low b ≡ p → leb b high ≡ q → p && q ≡ true → (low ≤ b) × (b ≤ high)
    go true true e f k = (leb-true low b e, leb-true b high f)
    go true false e f k = absurd (true_is_not_false k refl)
    go false q e f k = absurd (true_is_not_false k refl)

-- a byte that is a hex digit is the digit of its value
hex_digit_back : (b : ℕ) → hex_digit b < 16 → b ≡ hex_char (hex_digit b)
hex_digit_back b h = go (is_digit b) (leb (code "a") b && leb b (code "f")) refl refl h
  where
    go : (d a : Bool) → is_digit b ≡ d → leb (code "a") b && leb b (code "f") ≡ a
        → cond d (b - code "0") (cond a ((b - code "a") + 10) 16) < 16
        → b ≡ hex_char (cond d (b - code "0") (cond a ((b - code "a") + 10) 16))
    go true a p q k =
        let r = digit_range b p in
        let small : b - code "0" < 10 = omega (arith, r) in
        rw (lt-ltb (b - code "0") 10 small) (omega (arith, r))
    go false true p q k =
        let r = range_told (code "a") (code "f") b q in
        let large : 10 ≤ (b - code "a") + 10 = omega arith in
        rw (le-ltb ((b - code "a") + 10) 10 large) (omega (arith, r))
    go false false p q k = absurd (omega arith)

-- a hex digit is no zero byte
char_above : (h : ℕ) → 0 < hex_char h
char_above h = go (ltb h 10)
  where
    go : (b : Bool) → 0 < cond b (code "0" + h) ((code "a" - 10) + h)
    go true = omega arith
    go false = omega arith

-- the two digits of a byte
pair_told : (h l : ℕ) → hex_pair h l < 256 → (h < 16) × ((l < 16) × (hex_pair h l ≡ 16 * h + l))
pair_told h l k = go (ltb h 16 && ltb l 16) refl k
  where
    go : (b : Bool) → ltb h 16 && ltb l 16 ≡ b → cond b (16 * h + l) 256 < 256
        → (h < 16) × ((l < 16) × (cond b (16 * h + l) 256 ≡ 16 * h + l))
    go true p q =
        let r = both_parts (ltb h 16) (ltb l 16) p in
        (ltb-true h 16 r.0, (ltb-true l 16 r.1, refl))
    go false p q = absurd (omega arith)

pub pair_spelling : (line : List ℕ) (at : ℕ) → hex_byte line at < 256
    → drop at line ≡ hex_char (hex_byte line at / 16) ∷ hex_char (hex_byte line at % 16) ∷ drop (at + 2) line
unfolding hex_byte
pair_spelling line at k =
    let h : ℕ = hex_digit (get_or line at 0) in
    let l : ℕ = hex_digit (get_or line (at + 1) 0) in
    let r = pair_told h l k in
    let high : hex_pair h l / 16 ≡ h = omega (arith, r.0, r.1.0, r.1.1) in
    let low : hex_pair h l % 16 ≡ l = omega (arith, r.0, r.1.0, r.1.1) in
    let two : at + 1 + 1 ≡ at + 2 = omega arith in
    let first : get_or line at 0 ≡ hex_char (hex_pair h l / 16) = hex_digit_back (get_or line at 0) r.0 ∙ ap hex_char (sym high) in
    let second : get_or line (at + 1) 0 ≡ hex_char (hex_pair h l % 16) = hex_digit_back (get_or line (at + 1) 0) r.1.0 ∙ ap hex_char (sym low) in
    byte_within line at (hex_char (hex_pair h l / 16)) first (char_above (hex_pair h l / 16))
    ∙ ap (λ (x : List ℕ). hex_char (hex_pair h l / 16) ∷ x)
    (byte_within line (at + 1) (hex_char (hex_pair h l % 16)) second (char_above (hex_pair h l % 16))
    ∙ ap (λ (k : ℕ). hex_char (hex_pair h l % 16) ∷ drop k line) two)

-- bytes spelled one behind the other
bytes_spelling : (line : List ℕ) (n at : ℕ) → all_spelled (hex_bytes line at 2 n) ≡ true
    → drop at line ≡ hex_text (hex_bytes line at 2 n) ++ drop (at + 2 * n) line
unfolding all_spelled hex_bytes
bytes_spelling line zero at h = let e : at + 2 * 0 ≡ at = omega arith in rw e
bytes_spelling line (suc n) at h =
    let r = both_parts (ltb (hex_byte line at) 256) (all_spelled (hex_bytes line (at + 2) 2 n)) h in
    let e : at + 2 + 2 * n ≡ at + 2 * suc n = omega arith in
    let v : ℕ = hex_byte line at in
    pair_spelling line at (ltb-true v 256 r.0)
    ∙ ap (λ (x : List ℕ). hex_char (v / 16) ∷ hex_char (v % 16) ∷ x)
    (bytes_spelling line n (at + 2) r.1 ∙ ap (λ (k : ℕ). hex_text (hex_bytes line (at + 2) 2 n) ++ drop k line) e)

-- bytes that one pair of digits spells
equal_bytes : (line : List ℕ) (n at : ℕ) → hex_bytes line at 0 n ≡ replicate n (hex_byte line at)
unfolding hex_bytes
equal_bytes line zero at = refl
equal_bytes line (suc n) at =
    let e : at + 0 ≡ at = omega arith in
    ap (λ (x : List ℕ). hex_byte line at ∷ x) (rw e (equal_bytes line n at))

first_spelled : (line : List ℕ) (at step n : ℕ) → all_spelled (hex_bytes line at step (suc n)) ≡ true → hex_byte line at < 256
unfolding all_spelled hex_bytes
first_spelled line at step n h =
    ltb-true (hex_byte line at) 256 (both_parts (ltb (hex_byte line at) 256) (all_spelled (hex_bytes line (at + step) step n)) h).0

-- ════ A letter, a blank and a key ════

module _ (line : List ℕ) (letter : ℕ) (first : get_or line 0 0 ≡ letter) (above : 0 < letter) where
  -- the line by what stands behind the blank
  letter_blank : (more : List ℕ) → get_or line behind_letter 0 ≡ blank → drop key_place line ≡ more → line ≡ letter ∷ blank ∷ more
  letter_blank more second e =
      byte_within line 0 letter first above
      ∙ ap (λ (l : List ℕ). letter ∷ l) (byte_within line behind_letter blank second (omega arith) ∙ ap (λ (l : List ℕ). blank ∷ l) e)

  long_key : get_or line behind_letter 0 ≡ blank → is_number (key_spelled line 2).end ≡ true
      → SpellsKeyed line letter (key_spelled line 2).key (behind line (key_spelled line 2).end)
  unfolding key_spelled
  long_key second h = go (all_spelled (key_bytes line 2)) refl h
    where
      go : (b : Bool) → all_spelled (key_bytes line 2) ≡ b
          → is_number (cond b (key_field (key_bytes line 2) (Some (0, 68))) (record { key = no_key; end = None })).end ≡ true
          → SpellsKeyed line letter (cond b (key_field (key_bytes line 2) (Some (0, 68))) (record { key = no_key; end = None })).key
          (behind line (cond b (key_field (key_bytes line 2) (Some (0, 68))) (record { key = no_key; end = None })).end)
      go true p k = record {
        key_text = hex_text (key_bytes line 2);
        spells = inl refl;
        whole = letter_blank (hex_text (key_bytes line 2) ++ drop 68 line) second (bytes_spelling line key_size key_place p);
      }
      go false p k = absurd (true_is_not_false k refl)

  short_key : get_or line behind_letter 0 ≡ blank → is_number (key_spelled line 0).end ≡ true
      → SpellsKeyed line letter (key_spelled line 0).key (behind line (key_spelled line 0).end)
  unfolding key_spelled
  short_key second h = go (all_spelled (key_bytes line 0)) refl h
    where
      go : (b : Bool) → all_spelled (key_bytes line 0) ≡ b
          → is_number (cond b (key_field (key_bytes line 0) (Some (0, behind_pair))) (record { key = no_key; end = None })).end ≡ true
          → SpellsKeyed line letter (cond b (key_field (key_bytes line 0) (Some (0, behind_pair))) (record { key = no_key; end = None })).key
          (behind line (cond b (key_field (key_bytes line 0) (Some (0, behind_pair))) (record { key = no_key; end = None })).end)
      go true p k =
          let v : ℕ = hex_byte line key_place in
          let bytes : List ℕ = key_bytes line 0 in
          let same : bytes ≡ replicate key_size v = equal_bytes line key_size key_place in
          let f : v ≡ get_or bytes 0 0 = sym (ap (λ (l : List ℕ). get_or l 0 0) same) in
          record {
            key_text = hex_text (v ∷ []);
            spells = inr (ap (λ (x : ℕ). hex_text (x ∷ [])) f, same ∙ ap (λ (x : ℕ). replicate key_size x) f);
            whole = letter_blank (hex_text (v ∷ []) ++ drop behind_pair line) second (pair_spelling line key_place (first_spelled line key_place 0 (key_size - 1) p));
          }
      go false p k = absurd (true_is_not_false k refl)

  -- a line with a good key, by what stands behind the key
  keyed_front : is_number (key_of line).end ≡ true → SpellsKeyed line letter (key_of line).key (behind line (key_of line).end)
  unfolding key_of
  keyed_front h = go (eqb (get_or line behind_letter 0) blank) (eqb (get_or line behind_pair 0) blank) refl h
    where
      go : (b s : Bool) → eqb (get_or line behind_letter 0) blank ≡ b
          → is_number (cond b (key_spelled line (cond s 0 2)) (record { key = no_key; end = None })).end ≡ true
          → SpellsKeyed line letter (cond b (key_spelled line (cond s 0 2)) (record { key = no_key; end = None })).key
          (behind line (cond b (key_spelled line (cond s 0 2)) (record { key = no_key; end = None })).end)
      go true true p k = short_key (eqb-true (get_or line behind_letter 0) blank p) k
      go true false p k = long_key (eqb-true (get_or line behind_letter 0) blank p) k
      go false s p k = absurd (true_is_not_false k refl)

  -- the same where it is known what stands behind the key
  keyed_numbers : (numbers : List ℕ) → is_number (key_of line).end ≡ true → behind line (key_of line).end ≡ numbers
      → SpellsKeyed line letter (key_of line).key numbers
  keyed_numbers numbers h e =
      let s = keyed_front h in
      record {
        key_text = s.key_text;
        spells = s.spells;
        whole = s.whole ∙ ap (λ (l : List ℕ). letter ∷ blank ∷ (s.key_text ++ l)) e;
      }

-- ════ Events ════

admit_spelling : (line : List ℕ) → get_or line 0 0 ≡ code "a" → SpellsEvent line (admit_of line)
unfolding admit_of
admit_spelling line first =
    let key : (Option (ℕ × ℕ)) = (key_of line).end in
    let bytes : (Option (ℕ × ℕ)) = field_of line key largest64 in
    let now : (Option (ℕ × ℕ)) = field_of line bytes largest64 in
    chosen (SpellsEvent line) (ends_line line now)
    (λ p. let e = ends_spelling line now p in
    let g = field_spelling line bytes largest64 (omega arith) e.0 in
    let f = field_spelling line key largest64 (omega arith) g.0 in
    keyed_numbers line (code "a") first (omega arith) (number_text (value_of bytes) ++ number_text (value_of now)) f.0
    (f.1 ∙ ap (λ (l : List ℕ). number_text (value_of bytes) ++ l)
    (g.1 ∙ ap (λ (l : List ℕ). number_text (value_of now) ++ l) e.1 ∙ append-nil (number_text (value_of now)))))
    (λ _. tt)

keyed_spelling : (line : List ℕ) (k : EventKind) (letter : ℕ) → get_or line 0 0 ≡ letter → 0 < letter
    → ((key : Pubkey) (now : ℕ) → SpellsKeyed line letter key (number_text now) → SpellsEvent line (event k key 0 now))
    → SpellsEvent line (keyed_of k line)
unfolding keyed_of
keyed_spelling line k letter first above spells =
    let key : (Option (ℕ × ℕ)) = (key_of line).end in
    let now : (Option (ℕ × ℕ)) = field_of line key largest64 in
    chosen (SpellsEvent line) (ends_line line now)
    (λ p. let e = ends_spelling line now p in
    let f = field_spelling line key largest64 (omega arith) e.0 in
    spells (key_of line).key (value_of now)
    (keyed_numbers line letter first above (number_text (value_of now)) f.0
    (f.1 ∙ ap (λ (l : List ℕ). number_text (value_of now) ++ l) e.1 ∙ append-nil (number_text (value_of now)))))
    (λ _. tt)

release_spelling : (line : List ℕ) → get_or line 0 0 ≡ code "r" → SpellsEvent line (release_of line)
unfolding release_of
release_spelling line first =
    let bytes : (Option (ℕ × ℕ)) = blank_then_number line behind_letter largest64 in
    chosen (SpellsEvent line) (ends_line line bytes)
    (λ p. let e = ends_spelling line bytes p in
    byte_within line 0 (code "r") first (omega arith)
    ∙ ap (λ (l : List ℕ). code "r" ∷ l) (blank_spelling line behind_letter largest64 (omega arith) e.0
    ∙ ap (λ (l : List ℕ). number_text (value_of bytes) ++ l) e.1 ∙ append-nil (number_text (value_of bytes))))
    (λ _. tt)

-- a line that gives an event is a spelling of it: the only one but for the two spellings of its key
pub event_spelling : (line : List ℕ) → SpellsEvent line (event_of line)
unfolding event_of
event_spelling line =
    let k : ℕ = get_or line 0 0 in
    let P : Event → Type 0 = SpellsEvent line in
    chosen P (eqb k (code "a")) (λ p. admit_spelling line (eqb-true k (code "a") p))
    (λ _. chosen P (eqb k (code "i")) (λ p. keyed_spelling line kind.Invalid (code "i") (eqb-true k (code "i") p) (omega arith) (λ key now s. s))
    (λ _. chosen P (eqb k (code "b")) (λ p. keyed_spelling line kind.BanQuery (code "b") (eqb-true k (code "b") p) (omega arith) (λ key now s. s))
    (λ _. chosen P (eqb k (code "d")) (λ p. keyed_spelling line kind.Disconnected (code "d") (eqb-true k (code "d") p) (omega arith) (λ key now s. s))
    (λ _. chosen P (eqb k (code "r")) (λ p. release_spelling line (eqb-true k (code "r") p)) (λ _. tt)))))
