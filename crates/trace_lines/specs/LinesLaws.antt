-- Laws of `Lines`, which callers cite. Nobody needs to believe these: they are proved. Assumes nothing.
--
-- In order: bounds of fields; letters; at most one outcome.
use Rattle.std.specs.Prelude.{Bool, true, false, cond, ◌≡◌, refl, List, ℕ, ◌+◌, ◌^◌, ◌≤◌, ◌<◌, eqb, get_or}
use Rattle.std.proofs.Common.{sym, ap, ◌∙◌, arith, ne_eqb}
use Rattle.std.specs.Prelude.{Option, Some, None}
use Rattle.decimal.specs.Ascii.{code, blank}
use Rattle.decimal.specs.Decimal.{scan_of}
use Rattle.decimal.specs.DecimalLaws.{only_spelling}
use Rattle.refusal.specs.OneOutcomeLaws.{one_outcome}
use Rattle.trace_lines.specs.Lines.{blank_then_number, field_of, value_of, ends_line, settings_of, event_by, event_of, bad_event, line_of, answer_text, bad_line_text, refusal_text}
use Rattle.peer_settings.specs.declared.config.PeerMessagePolicyConfig.{PeerMessagePolicyConfig}
use Rattle.trace_lines.specs.declared.event.Event.{Event}
use Rattle.trace_lines.specs.declared.line.TraceLine.{TraceLine}
use Rattle.trace_lines.specs.declared.line.Word.{Word}

-- ════ Bounds of fields ════

-- a number that was read is within its field's width
pub scan_bound : (line : List ℕ) (at most : ℕ) → most < 10 ^ 20 → value_of (scan_of line at most) ≤ most
scan_bound line at most m = go (scan_of line at most) (λ n end h. (only_spelling line at most n end m h).small)
  where
    go : (s : Option (ℕ × ℕ)) → ((n end : ℕ) → s ≡ Some (n, end) → n ≤ most) → value_of s ≤ most
    go (Some (n, end)) h = h n end refl
    go None h = omega arith

pub field_bound : (line : List ℕ) (before : Option (ℕ × ℕ)) (most : ℕ) → most < 10 ^ 20 → value_of (field_of line before most) ≤ most
unfolding blank_then_number
field_bound line (Some (v, at)) most m = go (eqb (get_or line at 0) blank)
  where
    go : (b : Bool) → value_of (cond b (scan_of line (at + 1) most) None) ≤ most
    go true = scan_bound line (at + 1) most m
    go false = omega arith
field_bound line None most m = omega arith

-- the field behind one that is known
pub next_field : (line : List ℕ) (most : ℕ) {before known found : Option (ℕ × ℕ)} → before ≡ known → found ≡ field_of line before most
    → found ≡ field_of line known most
next_field line most e h = h ∙ ap (λ (s : Option (ℕ × ℕ)). field_of line s most) e

-- what is told of the end of a line, by the last field that is known
pub ends_told : (line : List ℕ) {last known : Option (ℕ × ℕ)} {told answer : Bool} → last ≡ known → told ≡ ends_line line last → told ≡ answer
    → ends_line line known ≡ answer
ends_told line e h k = ap (λ (s : Option (ℕ × ℕ)). ends_line line s) (sym e) ∙ sym h ∙ k

-- ════ Letters ════

-- a line that begins with none of the five letters is bad
pub other_letter : (k : ℕ) (line : List ℕ) → (k ≡ code "a" → ⊥) → (k ≡ code "i" → ⊥) → (k ≡ code "b" → ⊥) → (k ≡ code "d" → ⊥) → (k ≡ code "r" → ⊥)
    → event_by k line ≡ bad_event
other_letter k line a i b d r = rw (ne_eqb k (code "a") a, ne_eqb k (code "i") i, ne_eqb k (code "b") b, ne_eqb k (code "d") d, ne_eqb k (code "r") r)

-- ════ At most one outcome ════

pub settings_outcome : (line : List ℕ) {r s : Option PeerMessagePolicyConfig} → r ≡ settings_of line → s ≡ settings_of line → r ≡ s
settings_outcome line = one_outcome

pub event_outcome_lem : (line : List ℕ) {r s : Event} → r ≡ event_of line → s ≡ event_of line → r ≡ s
event_outcome_lem line = one_outcome

pub answer_line_outcome : (w : Word) (messages bytes rows : ℕ) {r s : TraceLine}
    → r ≡ line_of (answer_text w messages bytes rows) → s ≡ line_of (answer_text w messages bytes rows) → r ≡ s
answer_line_outcome w messages bytes rows = one_outcome

pub bad_line_outcome : (k : ℕ) {r s : TraceLine} → r ≡ line_of (bad_line_text k) → s ≡ line_of (bad_line_text k) → r ≡ s
bad_line_outcome k = one_outcome

pub refusal_line_outcome : (n : ℕ) {r s : TraceLine} → r ≡ line_of (refusal_text n) → s ≡ line_of (refusal_text n) → r ≡ s
refusal_line_outcome n = one_outcome
