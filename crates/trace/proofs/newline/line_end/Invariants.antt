-- `trace::newline::line_end` meets its contract. The invariant of its loop: from place i on the line ends where it ends from the beginning
-- on. Assumes nothing.
use Rattle.std.proofs.Common.{◌≡◌}
use Rattle.trace.specs.Private.{line_end_of}
use Rattle.trace.proofs.newline.line_end.Given as goal

abbrev pub invariant-loop-i : goal.invariant-loop-i
invariant-loop-i l = line_end_of l.input l.at ≡ line_end_of l.input l.i
