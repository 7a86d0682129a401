-- A scan as the words that cross the C boundary. Definitions only.
use Rattle.std.specs.Prelude.{◌≡◌, cond, List, [], ◌∷◌, ℕ, eqb, get_or}
use Rattle.c_words.specs.Words.{policy_of, longs_of, shorts_of}
use Rattle.trace.specs.declared.scan.Phase.{Phase}
use Rattle.trace.specs.declared.scan.Phase.TheVariants.{TooLong, Settings, Events, Done}
use Rattle.trace.specs.declared.scan.Scan.{Scan}

-- the phase of a number
abbrev pub phase_of : ℕ → Phase
phase_of n = cond (eqb n 0) TooLong (cond (eqb n 1) Settings (cond (eqb n 2) Events Done))

-- the number of a phase
abbrev pub phase_number : Phase → ℕ
phase_number TooLong = 0
phase_number Settings = 1
phase_number Events = 2
phase_number Done = 3

-- the scan that these words say
abbrev pub scan_of : List ℕ → List ℕ → List ℕ → Scan
scan_of place longs shorts =
    record { at = get_or place 0 0; number = get_or place 1 0; policy = policy_of longs shorts; phase = phase_of (get_or place 2 0) }

-- a scan's own words
abbrev pub place_of : Scan → List ℕ
place_of scan = scan.at ∷ scan.number ∷ phase_number scan.phase ∷ []

-- the words are those of the scan
abbrev pub ScanLeft : Scan → List ℕ → List ℕ → List ℕ → Type 0
ScanLeft scan place' longs' shorts' =
    (place' ≡ place_of scan) × (longs' ≡ longs_of scan.policy) × (shorts' ≡ shorts_of scan.policy)
