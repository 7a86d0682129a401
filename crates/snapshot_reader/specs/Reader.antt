-- The rows of a snapshot, walked: the step at a place, and a reader that is advanced from step to step. Definitions only; their laws are
-- in `ReaderLaws` and in `WalkLaws` of proofs/.
use Rattle.std.specs.Prelude.{◌≡◌, Bool, ◌&&◌, cond, List, [], ◌++◌, ℕ, suc, ◌+◌, ◌-◌, ◌%◌, leb, eqb, length}
use Rattle.lent_bytes.specs.LentBytes.{part}
use Rattle.std.specs.Prelude.{Result, Ok, Err, Option, Some, None}
use Rattle.refusal.specs.declared.Refusal.{Refusal}
use Rattle.refusal.specs.Refusal.{Said, gives, refused, number_of}
use Rattle.peer_rows.specs.Rows.{key_width, row_width, entry_words, row_from}
use Rattle.snapshot.specs.Form.{first, rows_place}
use Rattle.snapshot.specs.Snapshot.{layout_right}
use Rattle.snapshot_reader.specs.declared.row.SnapshotRow.{SnapshotRow}
use Rattle.snapshot_reader.specs.declared.row.RowStep.{RowStep}
use Rattle.snapshot_reader.specs.declared.reader.SnapshotReader.{SnapshotReader}

-- the row whose bytes stand at a place: its key and its entry, unjudged
abbrev pub given_at : List ℕ → ℕ → SnapshotRow
given_at z at = record { key = record { bytes = part z at key_width }; entry = (row_from z at).entry }

-- the place is within the rows, a whole number of rows behind the first, or at their end
abbrev pub row_place : List ℕ → ℕ → Bool
row_place z at = leb (rows_place first) at && (leb at (length z) && eqb ((at - rows_place first) % row_width) 0)

-- the layout is right, and the place is that of a row or the end
unfoldable pub stands : List ℕ → ℕ → Bool
stands z at = layout_right first z && row_place z at

-- the step at a place: 6, or all rows were given at the end, or the row and the place behind it
unfoldable pub step_at : List ℕ → ℕ → Result (Option RowStep) Refusal
step_at z at =
    cond (stands z at)
    (cond (eqb at (length z)) (Ok None) (Ok (Some (record { row = given_at z at; at = at + row_width }))))
    (Err Refusal.WrongLayout)

-- the place that a step leads to: without a row it is the same
abbrev pub place_after : ℕ → Result (Option RowStep) Refusal → ℕ
place_after at (Ok (Some s)) = s.at
place_after at (Ok None) = at
place_after at (Err n) = at

-- a reader that was advanced: the step at its place is handed out, and over the same bytes it is at the place that the step leads to
pub record Advanced (before : SnapshotReader) (step : Result (Option RowStep) Refusal) (after : SnapshotReader) : Type 0 where
  pub hands : step ≡ step_at before.snapshot.now before.at
  pub keeps : after.snapshot ≡ before.snapshot
  pub moves : after.at ≡ place_after before.at step

-- the reader after so many calls of `advance`, each on what the call before left
pub data Walked (start : SnapshotReader) : ℕ → SnapshotReader → Type 0 where
  begun : Walked start 0 start
  onward : {k : ℕ} {before after : SnapshotReader} {step : Result (Option RowStep) Refusal} → Walked start k before → Advanced before step after
      → Walked start (suc k) after

-- a step says the row, its key and then its eleven numbers; nothing where all rows were given; or 6
abbrev pub step_says : Result (Option RowStep) Refusal → Said
step_says (Ok (Some s)) = gives (s.row.key.bytes ++ entry_words s.row.entry)
step_says (Ok None) = gives []
step_says (Err n) = refused (number_of n)
