-- `scan::write` meets its contract: a written line fits its bytes. Assumes nothing.
use Rattle.std.proofs.Common.{◌≡◌, ◌≤◌, arith, length}
use Rattle.std.proofs.Common.{rules}
use Rattle.trace_lines.specs.Lines.{line_size}
use Rattle.c_trace.specs.WrittenLaws.{written_fits}
use Rattle.c_trace.proofs.scan.write.Goals as goal

pub overflow_cast-result : goal.overflow_cast-result
overflow_cast-result c =
    let a = c.args in
    let whole : length a.written.bytes ≡ line_size = search rules in
    let fits : a.written.length ≤ line_size = search (rules, written_fits) in
    omega (arith, fits)
