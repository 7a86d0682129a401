-- A line that a scan hands out. Definitions only.
use Rattle.std.specs.Prelude.{◌≡◌, List, [], ℕ, Result, Ok, Err}
use Rattle.trace_lines.specs.declared.line.TraceLine.{TraceLine}
use Rattle.trace_lines.specs.Lines.{line_of}
use Rattle.trace.specs.declared.scan.Scan.{Scan}
use Rattle.trace.specs.declared.scan.Handed.{Handed}

-- the line and its length are left
abbrev pub LineLeft : TraceLine → ℕ → List ℕ → Type 0
LineLeft line r line' = (r ≡ line.length) × (line' ≡ line.bytes)

-- the line that a call of `next` hands out: where the scan is done, an empty one
abbrev pub line_handed : Result Handed Scan → TraceLine
line_handed (Ok h) = h.line
line_handed (Err behind) = line_of []

-- the scan behind it, also where the scan is done
abbrev pub scan_behind : Result Handed Scan → Scan
scan_behind (Ok h) = h.scan
scan_behind (Err behind) = behind
