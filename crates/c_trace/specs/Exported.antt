-- The exported calls of a scan. Definitions only.
use Rattle.std.specs.Prelude.{List, ℕ, Result}
use Rattle.refusal.specs.Some.{Some}
use Rattle.trace.specs.declared.scan.Scan.{Scan}
use Rattle.trace.specs.declared.scan.Handed.{Handed}
use Rattle.trace.specs.Scan.{open_of, NextMeets}
use Rattle.c_trace.specs.Words.{scan_of, ScanLeft}
use Rattle.c_trace.specs.Written.{LineLeft, line_handed, scan_behind}

-- uglezmir_trace_open
abbrev pub OpenExported : List ℕ → List ℕ → List ℕ → List ℕ → Type 0
OpenExported input place' longs' shorts' = ScanLeft (open_of input) place' longs' shorts'

-- the words are those of the scan behind, also where it is done; there the line is empty
abbrev pub HandedLeft : Result Handed Scan → ℕ → List ℕ → List ℕ → List ℕ → List ℕ → Type 0
HandedLeft handed r place' longs' shorts' line' = ScanLeft (scan_behind handed) place' longs' shorts' × LineLeft (line_handed handed) r line'

-- uglezmir_trace_next
abbrev pub NextExported : List ℕ → List ℕ → List ℕ → List ℕ → List ℕ → ℕ → List ℕ → List ℕ → List ℕ → List ℕ → List ℕ → Type 0
NextExported place longs shorts input before r place' longs' shorts' after line' =
    Some (λ handed. NextMeets (scan_of place longs shorts) input before handed after)
    (λ handed. HandedLeft handed r place' longs' shorts' line')
