-- `trace_lines::event::parse_release` meets its contract: by whether the line ends behind the last field. Assumes nothing.
use Rattle.std.proofs.Common.{true, false, ◌≡◌, ◌∙◌}
use Rattle.trace_lines.specs.Lines.{blank_then_number, ends_line, largest64, release_of}
use Rattle.trace_lines.specs.LinesLaws.{ends_told}
use Rattle.trace_lines.proofs.event.parse_release.Goals as goal

pub returns-then-not-ends : goal.returns-then-not-ends
unfolding release_of
returns-then-not-ends c = let line = c.args.line.now in
    let t : ends_line line (blank_then_number line 1 largest64) ≡ false = ends_told line c.blank_then_number-bytes.ensures c.ends.ensures c.if-not-ends.true in
    c.bad_event.ensures ∙ rw t

pub returns : goal.returns
unfolding release_of
returns c = let line = c.args.line.now in
    let t : ends_line line (blank_then_number line 1 largest64) ≡ true = ends_told line c.blank_then_number-bytes.ensures c.ends.ensures c.if-not-ends.false in
    rw (c.value.ensures, c.blank_then_number-bytes.ensures, t)
