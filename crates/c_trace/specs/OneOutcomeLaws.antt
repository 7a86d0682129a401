-- At most one outcome satisfies the contract of each exported call of a scan: the same number, words and line, and the same memory.
-- Assumes nothing.
use Rattle.std.specs.Prelude.{◌≡◌, List, ℕ, Result}
use Rattle.refusal.specs.OneOutcomeLaws.{one_outcome}
use Rattle.c_terms.specs.SomeLaws.{some_one}
use Rattle.trace.specs.declared.scan.Scan.{Scan}
use Rattle.trace.specs.declared.scan.Handed.{Handed}
use Rattle.trace.specs.Scan.{open_of}
use Rattle.trace_laws.specs.OneOutcomeLaws as Trace
use Rattle.c_trace.specs.Words.{scan_of, ScanLeft}
use Rattle.c_trace.specs.Written.{scan_behind}
use Rattle.c_trace.specs.Exported.{OpenExported, HandedLeft, NextExported}

-- two scans in words are the same
pub record Alike (p p' l l' s s' : List ℕ) : Type 0 where
  pub place : p ≡ p'
  pub longs : l ≡ l'
  pub shorts : s ≡ s'

module _ {place' place'' longs' longs'' shorts' shorts'' : List ℕ} where
  scan_left : (scan : Scan) → ScanLeft scan place' longs' shorts' → ScanLeft scan place'' longs'' shorts''
      → Alike place' place'' longs' longs'' shorts' shorts''
  scan_left scan h k =
      record { place = one_outcome h.0 k.0; longs = one_outcome h.1 k.1; shorts = one_outcome h.2 k.2 }

  pub open_one : (input : List ℕ) → OpenExported input place' longs' shorts' → OpenExported input place'' longs'' shorts''
      → Alike place' place'' longs' longs'' shorts' shorts''
  open_one input = scan_left (open_of input)

  module _ {r q : ℕ} {line line' : List ℕ} where
    handed_left : (h : Result Handed Scan) → HandedLeft h r place' longs' shorts' line → HandedLeft h q place'' longs'' shorts'' line'
        → Alike place' place'' longs' longs'' shorts' shorts'' × (r ≡ q) × (line ≡ line')
    handed_left h m n = (scan_left (scan_behind h) m.0 n.0, one_outcome m.1.0 n.1.0, one_outcome m.1.1 n.1.1)

    pub next_one : (place longs shorts input before : List ℕ) {first second : List ℕ}
        → NextExported place longs shorts input before r place' longs' shorts' first line
        → NextExported place longs shorts input before q place'' longs'' shorts'' second line'
        → (Alike place' place'' longs' longs'' shorts' shorts'' × (r ≡ q) × (line ≡ line')) × (first ≡ second)
    next_one place longs shorts input before {first} {second} =
        some_one (λ a b. Trace.next_one (scan_of place longs shorts) input before a b first second) handed_left
