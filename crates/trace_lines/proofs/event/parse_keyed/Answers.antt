-- `trace_lines::event::parse_keyed` meets its contract: by whether the line ends behind the last field. Assumes nothing.
use Rattle.std.proofs.Common.{true, false, ◌≡◌, ap, ◌∙◌}
use Rattle.trace_lines.specs.declared.event.KeyField.{KeyField}
use Rattle.trace_lines.specs.Lines.{key_of, field_of, ends_line, largest64, keyed_of}
use Rattle.trace_lines.specs.LinesLaws.{next_field, ends_told}
use Rattle.trace_lines.proofs.event.parse_keyed.Goals as goal

pub returns-then-not-ends : goal.returns-then-not-ends
unfolding keyed_of
returns-then-not-ends c = let line = c.args.line.now in
    let e : c.key_of-read.result.end ≡ (key_of line).end = ap (λ (k : KeyField). k.end) c.key_of-read.ensures in
    let f : c.field-now.result ≡ field_of line (key_of line).end largest64 = next_field line largest64 e c.field-now.ensures in
    let t : ends_line line (field_of line (key_of line).end largest64) ≡ false = ends_told line f c.ends.ensures c.if-not-ends.true in
    c.bad_event.ensures ∙ rw t

pub returns : goal.returns
unfolding keyed_of
returns c = let line = c.args.line.now in
    let e : c.key_of-read.result.end ≡ (key_of line).end = ap (λ (k : KeyField). k.end) c.key_of-read.ensures in
    let f : c.field-now.result ≡ field_of line (key_of line).end largest64 = next_field line largest64 e c.field-now.ensures in
    let t : ends_line line (field_of line (key_of line).end largest64) ≡ true = ends_told line f c.ends.ensures c.if-not-ends.false in
    rw (c.value.ensures, f, c.key_of-read.ensures, t)
