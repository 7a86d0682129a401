-- The forms of a peer policy's snapshot, as data: settings, load and rows come first, and a further form has further parts behind them.
-- Places follow from the list of kinds. Definitions only; their laws are in `FormLaws`.
use Rattle.std.specs.Prelude.{◌≡◌, List, [], ◌∷◌, ◌++◌, ℕ, ◌+◌, ◌-◌, ◌*◌, ◌/◌, length}
use Rattle.lent_bytes.specs.LentBytes.{part}
use Rattle.peer_rows.specs.Rows.{row_width}
use Rattle.snapshot_layout.specs.Layout.{contents_size, Part, Slot, slots, snapshot_size, SlotsFit}
use Rattle.snapshot_settings.specs.Settings.{settings_size}
use Rattle.snapshot_settings.specs.Load.{load_size}

-- a form: the kinds of its parts, and the lengths of those behind the rows
pub record Form : Type 0 where
  pub kinds : List ℕ
  pub behind : List ℕ

-- the first form: nothing stands behind the rows
abbrev pub first : Form
first = record { kinds = 1 ∷ 2 ∷ 3 ∷ []; behind = [] }

-- parts of these kinds with these bodies
abbrev pub parts : List ℕ → List (List ℕ) → List Part
parts [] bs = []
parts (k ∷ ks) [] = []
parts (k ∷ ks) (b ∷ bs) = record { kind = k; body = b } ∷ parts ks bs

-- the lengths of bodies
abbrev pub sizes : List (List ℕ) → List ℕ
sizes [] = []
sizes (b ∷ bs) = length b ∷ sizes bs

-- bodies one after another
abbrev pub joined : List (List ℕ) → List ℕ
joined [] = []
joined (b ∷ bs) = b ++ joined bs

-- the bytes from a place on, in pieces of these lengths
abbrev pub pieces : List ℕ → ℕ → List ℕ → List (List ℕ)
pieces z from [] = []
pieces z from (n ∷ ns) = part z from n ∷ pieces z (from + n) ns

-- how many bytes these lengths come to
abbrev pub total : List ℕ → ℕ
total [] = 0
total (n ∷ ns) = n + total ns

module _ (f : Form) where
  -- the lengths of the parts, with n rows
  abbrev pub lengths_of : ℕ → List ℕ
  lengths_of n = settings_size ∷ load_size ∷ row_width * n ∷ f.behind

  -- what the contents tell of a snapshot with n rows
  abbrev pub form_slots : ℕ → List Slot
  form_slots n = slots f.kinds (lengths_of n)

  -- where the settings stand: right behind the contents
  abbrev pub settings_place : ℕ
  settings_place = contents_size (length f.kinds)

  -- where the load stands
  abbrev pub load_place : ℕ
  load_place = settings_place + settings_size

  -- where the rows stand
  abbrev pub rows_place : ℕ
  rows_place = load_place + load_size

  -- how many rows bytes of this length have, if they are a snapshot
  abbrev pub rows_in : List ℕ → ℕ
  rows_in z = (length z - snapshot_size (form_slots 0)) / row_width

-- a form that can be used: it has a kind for each part, and all that its contents tell is within its field, up to the most rows that
-- a policy can have
pub record FormFits (f : Form) : Type 0 where
  pub count : length f.kinds ≡ 3 + length f.behind
  pub numbers : SlotsFit (form_slots f 1024)
