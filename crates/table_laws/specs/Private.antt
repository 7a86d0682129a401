-- Private: cited by contracts inside the proved code alone; no entry point's contract rests on it. Definitions only.
use Rattle.std.specs.Prelude.{◌≡◌, Bool, true, ◌&&◌, cond, List, ◌∷◌, ◌++◌, ℕ, ◌+◌, ◌*◌, length, take, drop}
use Rattle.lent_bytes.specs.LentBytes.{part, put}
use Rattle.table.specs.declared.seek.Seek.{Seek}
use Rattle.table.specs.declared.seek.Seek.TheVariants.{Unsound, At, Gap}
use Rattle.table.specs.Table.{Row, row_under, store}
use Rattle.table.specs.Private.{seek, place_from}
use Rattle.table.specs.Memory.{Layout, row_bytes, rows, table_bytes, Holds}
use Rattle.table_laws.specs.Raw.{raw_layout, map_row}
use Rattle.table_laws.specs.Walk.{row_at}
use Rattle.table_laws.specs.Lent.{long_enough, lent_sound}

-- ════ Judged and found ════

module _ {A : Type 0} (L : Layout A) (rule : Row A → Bool) (own : Bool) (limit : ℕ) (s : List ℕ) (n : ℕ) (k : List ℕ) where
  -- unsound, or the place of a key, or the gap where it would stand
  unfoldable pub lent_sought : Seek
  lent_sought = cond (own && long_enough L limit s) (seek rule k (rows L s n)) Unsound

  -- all is sound, and the key is that of the i-th row
  pub record Known (i : ℕ) : Type 0 where
    pub is_sound : lent_sound L rule own limit s n ≡ true
    pub place : place_from 0 k (rows L s n) ≡ At i

  -- all is sound, and the key has no row: it would stand before the i-th
  pub record Unknown (i : ℕ) : Type 0 where
    pub is_sound : lent_sound L rule own limit s n ≡ true
    pub place : place_from 0 k (rows L s n) ≡ Gap i

-- ════ Rows that a change leaves, and their number ════

module _ {A : Type 0} (L : Layout A) where
  -- memory that held n rows holds these, and m is their number
  abbrev pub Counted : List ℕ → List ℕ → ℕ → ℕ → List (Row A) → Type 0
  Counted before after n m rs = Holds L before after n rs × (m ≡ length rs)

  -- these rows stand at the front of memory, whatever is behind them is left, and m is their number
  abbrev pub Gathered : List ℕ → List ℕ → ℕ → List (Row A) → Type 0
  Gathered before after m rs = (after ≡ put before 0 (table_bytes L rs)) × (m ≡ length rs)

  -- ════ One step of a walk that keeps rows ════

  -- where the row passes, its bytes are written at the index `to`, and the next one goes behind it; else nothing changes
  abbrev pub KeepStep : Bool → List ℕ → List ℕ → List ℕ → ℕ → ℕ → Type 0
  KeepStep passes row before after to next =
      (after ≡ cond passes (put before (L.width * to) row) before) × (next ≡ cond passes (to + 1) to)

  -- the row at the index `from` moves down to `to` as it stands
  abbrev pub PlainStep : (Row A → Bool) → List ℕ → List ℕ → ℕ → ℕ → ℕ → Type 0
  PlainStep test before after from to next =
      KeepStep (test (row_at L before from)) (part before (L.width * from) L.width) before after to next

  -- the row at an index of memory, its entry rewritten
  abbrev pub rewritten : (A → A) → List ℕ → ℕ → Row A
  rewritten f s i = map_row f (row_at L s i)

  -- the row at the index `from`, rewritten, moves down to `to`, where it passes then
  abbrev pub RewritingStep : (Row A → Bool) → (A → A) → List ℕ → List ℕ → ℕ → ℕ → ℕ → Type 0
  RewritingStep test f before after from to next =
      KeepStep (test (rewritten f before from)) (row_bytes L (rewritten f before from)) before after to next

-- the rows with an entry written over that of the i-th, whose key stays
abbrev pub over : {A : Type 0} → Layout A → List ℕ → ℕ → ℕ → A → List (Row A)
over L s n i e =
    take i (rows L s n) ++ (row_under (part s (L.width * i) L.key_width) e ∷ drop (i + 1) (rows L s n))

-- ════ Raw rows ════

-- memory that held n rows of w bytes, whose keys are as long as this one, holds them with an entry's bytes stored under it, m rows in all
abbrev pub RawStored : ℕ → List ℕ → List ℕ → ℕ → ℕ → List ℕ → List ℕ → Type 0
RawStored w before after n m key entry =
    Counted (raw_layout (length key) w) before after n m (store key entry (rows (raw_layout (length key) w) before n))
