-- `trace_lines::event::parse_event` meets its contract: by the first letter. Assumes nothing.
use Rattle.std.proofs.Common.{◌≡◌, sym, ap, ◌∙◌, ℕ, arith, get_or}
use Rattle.decimal.specs.Ascii.{code}
use Rattle.trace_lines.specs.Lines.{event_by, event_of}
use Rattle.trace_lines.specs.LinesLaws.{other_letter}
use Rattle.trace_lines.proofs.event.parse_event.Goals as goal

pub returns-in-97 : goal.returns-in-97
unfolding event_of
returns-in-97 c = let line = c.args.line.now in
    let e : code "a" ≡ get_or line 0 0 = omega (arith, c.byte_at-letter.ensures) in
    c.parse_admit.ensures ∙ ap (λ (k : ℕ). event_by k line) e

pub returns-in-105 : goal.returns-in-105
unfolding event_of
returns-in-105 c = let line = c.args.line.now in
    let e : code "i" ≡ get_or line 0 0 = omega (arith, c.byte_at-letter.ensures) in
    c.parse_keyed.ensures ∙ ap (λ (k : ℕ). event_by k line) e

pub returns-in-98 : goal.returns-in-98
unfolding event_of
returns-in-98 c = let line = c.args.line.now in
    let e : code "b" ≡ get_or line 0 0 = omega (arith, c.byte_at-letter.ensures) in
    c.parse_keyed-in-98.ensures ∙ ap (λ (k : ℕ). event_by k line) e

pub returns-in-100 : goal.returns-in-100
unfolding event_of
returns-in-100 c = let line = c.args.line.now in
    let e : code "d" ≡ get_or line 0 0 = omega (arith, c.byte_at-letter.ensures) in
    c.parse_keyed-in-100.ensures ∙ ap (λ (k : ℕ). event_by k line) e

pub returns-in-114 : goal.returns-in-114
unfolding event_of
returns-in-114 c = let line = c.args.line.now in
    let e : code "r" ≡ get_or line 0 0 = omega (arith, c.byte_at-letter.ensures) in
    c.parse_release.ensures ∙ ap (λ (k : ℕ). event_by k line) e

pub returns-in_default : goal.returns-in_default
unfolding event_of
returns-in_default c = let line = c.args.line.now in
    c.bad_event.ensures ∙ sym (other_letter (get_or line 0 0) line (λ q. omega (arith, c.byte_at-letter.ensures)) (λ q. omega (arith, c.byte_at-letter.ensures)) (λ q. omega (arith, c.byte_at-letter.ensures)) (λ q. omega (arith, c.byte_at-letter.ensures)) (λ q. omega (arith, c.byte_at-letter.ensures)))
