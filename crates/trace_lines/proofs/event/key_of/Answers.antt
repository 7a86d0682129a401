-- `trace_lines::event::key_of` meets its contract: by the blanks behind the letter and behind two digits. Assumes nothing.
use Rattle.std.proofs.Common.{◌∙◌, arith, get_or}
use borrow.Author.Tests.{eq-eqb, ne_eqb}
use Rattle.decimal.specs.Ascii.{blank}
use Rattle.trace_lines.specs.Lines.{behind_letter, behind_pair, key_of}
use Rattle.trace_lines.proofs.event.key_of.Goals as goal

pub returns-then-byte_at-ne32 : goal.returns-then-byte_at-ne32
unfolding key_of
returns-then-byte_at-ne32 c = let line = c.args.line.now in
    c.no_key.ensures ∙ rw (ne_eqb (get_or line behind_letter 0) blank (λ q. omega (arith, c.byte_at.ensures)))

pub returns-then-byte_at-eq32 : goal.returns-then-byte_at-eq32
unfolding key_of
returns-then-byte_at-eq32 c = let line = c.args.line.now in
    c.key_spelled.ensures ∙ rw (eq-eqb (get_or line behind_letter 0) blank (omega (arith, c.byte_at.ensures)), eq-eqb (get_or line behind_pair 0) blank (omega (arith, c.byte_at-2.ensures)))

pub returns : goal.returns
unfolding key_of
returns c = let line = c.args.line.now in
    c.key_spelled-2.ensures ∙ rw (eq-eqb (get_or line behind_letter 0) blank (omega (arith, c.byte_at.ensures)), ne_eqb (get_or line behind_pair 0) blank (λ q. omega (arith, c.byte_at-2.ensures)))
