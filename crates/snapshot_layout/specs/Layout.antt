-- How a snapshot's bytes are laid out: first the contents, which tell of each part its kind, its place and its length, then the parts'
-- bodies in the same order, with no gap between them and nothing after the last. One definition for any list of parts, so that a
-- further form of the snapshot is a further list. Definitions only; their laws are in `SlotLaws`, `LayoutLaws` and `PlaceLaws`.
use Rattle.std.specs.Prelude.{Option, Some, None}
use Prim.{Unit}
use Rattle.std.specs.Prelude.{Bool, ◌&&◌, cond, List, [], ◌∷◌, ◌++◌, ℕ, ◌+◌, ◌*◌, ◌^◌, ◌<◌, ◌≤◌, eqb, length}
use Rattle.lent_bytes.specs.LentBytes.{part, le, bytes}

-- ════ Sizes, in bytes ════

-- of the count of the parts
abbrev pub count_size : ℕ
count_size = 2

-- of a kind
abbrev pub kind_size : ℕ
kind_size = 2

-- of a place or a length
abbrev pub number_size : ℕ
number_size = 4

-- of what the contents tell of one part: its kind, its place, its length
abbrev pub slot_size : ℕ
slot_size = 10

-- of the contents of n parts: where the first body begins
abbrev pub contents_size : ℕ → ℕ
contents_size n = count_size + slot_size * n

-- ════ Parts and what the contents tell of them ════

-- a part: its kind and its bytes
pub record Part : Type 0 where
  pub kind : ℕ
  pub body : List ℕ

-- what is to be known of a part to lay it out: its kind and its length
pub record Slot : Type 0 where
  pub kind : ℕ
  pub size : ℕ

-- slots from a list of kinds and a list of lengths
abbrev pub slots : List ℕ → List ℕ → List Slot
slots [] ns = []
slots (k ∷ ks) [] = []
slots (k ∷ ks) (n ∷ ns) = record { kind = k; size = n } ∷ slots ks ns

-- the slots of parts
abbrev pub slots_of : List Part → List Slot
slots_of [] = []
slots_of (p ∷ ps) = record { kind = p.kind; size = length p.body } ∷ slots_of ps

-- how many bytes the bodies take together
abbrev pub bodies_size : List Slot → ℕ
bodies_size [] = 0
bodies_size (q ∷ qs) = q.size + bodies_size qs

-- how many bytes the snapshot takes
abbrev pub snapshot_size : List Slot → ℕ
snapshot_size qs = contents_size (length qs) + bodies_size qs

-- ════ Written ════

-- what the contents tell of one part whose body begins at a place
unfoldable pub slot_bytes : ℕ → Slot → List ℕ
slot_bytes from q = bytes kind_size q.kind ++ (bytes number_size from ++ bytes number_size q.size)

-- what the contents tell of parts whose bodies stand one after another from a place on
unfoldable pub contents_from : ℕ → List Slot → List ℕ
contents_from from [] = []
contents_from from (q ∷ qs) = slot_bytes from q ++ contents_from (from + q.size) qs

-- the contents: how many parts, and what they tell of each
unfoldable pub contents : List Slot → List ℕ
contents qs = bytes count_size (length qs) ++ contents_from (contents_size (length qs)) qs

-- the bodies one after another
unfoldable pub bodies : List Part → List ℕ
bodies [] = []
bodies (p ∷ ps) = p.body ++ bodies ps

-- the snapshot of these parts
unfoldable pub snapshot_of : List Part → List ℕ
snapshot_of ps = contents (slots_of ps) ++ bodies ps

-- ════ Read ════

-- whether the bytes at `at` tell of a part that its body begins at `from`. Numbers are compared, so nothing wraps
unfoldable pub slot_says : List ℕ → ℕ → ℕ → Slot → Bool
slot_says s at from q =
    eqb (le (part s at kind_size)) q.kind
    && (eqb (le (part s (at + kind_size) number_size)) from && eqb (le (part s (at + kind_size + number_size) number_size)) q.size)

-- whether the bytes from `at` on tell of parts whose bodies stand one after another from `from` on, with nothing after the last
unfoldable pub says_from : List ℕ → ℕ → ℕ → List Slot → Bool
says_from s at from [] = eqb (length s) from
says_from s at from (q ∷ qs) = slot_says s at from q && says_from s (at + slot_size) (from + q.size) qs

-- whether bytes are laid out as parts of these kinds and lengths
unfoldable pub laid_out : List ℕ → List Slot → Bool
laid_out s qs = eqb (le (part s 0 count_size)) (length qs) && says_from s count_size (contents_size (length qs)) qs

-- the parts whose bodies stand one after another from a place on
unfoldable pub cut_from : List ℕ → ℕ → List Slot → List Part
cut_from s from [] = []
cut_from s from (q ∷ qs) = record { kind = q.kind; body = part s from q.size } ∷ cut_from s (from + q.size) qs

-- the parts that stand in a snapshot
unfoldable pub cut : List ℕ → List Slot → List Part
cut s qs = cut_from s (contents_size (length qs)) qs

-- the body of the first part of a kind, or none
unfoldable pub body_of : ℕ → List Part → List ℕ
body_of kind [] = []
body_of kind (p ∷ ps) = cond (eqb p.kind kind) p.body (body_of kind ps)

-- where the first part of a kind stands, among bodies that stand one after another from a place on
unfoldable pub place_from : ℕ → ℕ → List Slot → Option (ℕ × ℕ)
place_from kind from [] = None
place_from kind from (q ∷ qs) = cond (eqb q.kind kind) (Some (from, (from + q.size))) (place_from kind (from + q.size) qs)

-- where the first part of a kind stands in a snapshot
unfoldable pub place_of : ℕ → List Slot → Option (ℕ × ℕ)
place_of kind qs = place_from kind (contents_size (length qs)) qs

-- the bytes from a to e stand between two places
pub record Between (low a e high : ℕ) : Type 0 where
  pub begins : low ≤ a
  pub ends : e ≤ high
  pub order : a ≤ e

-- ════ What the fields can tell ════

-- every kind is within its field
abbrev pub KindsFit : List Slot → Type 0
KindsFit [] = Unit {0}
KindsFit (q ∷ qs) = (q.kind < 2 ^ 16) × KindsFit qs

-- every number that the contents tell is within its field
pub record SlotsFit (qs : List Slot) : Type 0 where
  pub count : length qs < 2 ^ 16
  pub kinds : KindsFit qs
  pub size : snapshot_size qs < 2 ^ 32
