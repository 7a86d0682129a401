-- Laws of walking a snapshot with `advance`, from what `opened` made on: the call behind k others gives the k-th row, so that each row is
-- given once and in its order; and every call behind the last row says that all were given. Assumes nothing.
use Rattle.std.proofs.Common.{◌≡◌, refl, Bool, true, false, List, ℕ, suc, ◌+◌, ◌≤◌, ◌<◌, leb, ap, ◌∙◌, arith, leb-true, leb-false}
use Rattle.std.specs.Prelude.{Result, Ok, Option, Some, None}
use Rattle.refusal.specs.declared.Refusal.{Refusal}
use Rattle.snapshot.specs.Form.{first, rows_in}
use Rattle.snapshot.specs.Snapshot.{layout_right}
use Rattle.snapshot_reader.specs.declared.row.RowStep.{RowStep}
use Rattle.snapshot_reader.specs.declared.reader.SnapshotReader.{SnapshotReader}
use Rattle.snapshot_reader.specs.Reader.{given_at, step_at, place_after, Advanced, Walked, begun, onward}
use Rattle.snapshot_reader.specs.ReaderLaws.{place_of_row, walk_row, walk_done}

module _ (start : SnapshotReader) (opened : start.at ≡ 120) (right : layout_right first start.snapshot.now ≡ true) where
  -- the bytes that are walked, and how many rows they have
  abbrev bytes : List ℕ
  bytes = start.snapshot.now

  abbrev count : ℕ
  count = rows_in first bytes

  -- the reader keeps its bytes
  same_bytes : {k : ℕ} {r : SnapshotReader} → Walked start k r → r.snapshot.now ≡ bytes
  same_bytes begun = refl
  same_bytes (onward w a) = ap (λ x. x.now) a.keeps ∙ same_bytes w

  -- what is handed out at a place that is known
  handed_at : {k place : ℕ} {before after : SnapshotReader} {step : Result (Option RowStep) Refusal} → Walked start k before → before.at ≡ place
      → Advanced before step after → step ≡ step_at bytes place
  handed_at w e a = a.hands ∙ (λ i. step_at (same_bytes w i) (e i))

  -- up to the last row, and behind it, the reader is behind the rows that were given
  place_within : {k : ℕ} {r : SnapshotReader} → Walked start k r → k ≤ count → r.at ≡ place_of_row k
  place_within begun h = opened
  place_within (onward {k} w a) h =
      let step = handed_at w (place_within w (omega arith)) a ∙ walk_row bytes right k (omega arith) in
      a.moves ∙ ap (place_after _) step ∙ ap place_of_row (omega arith)

  -- and then it stays
  place_behind : {k : ℕ} {r : SnapshotReader} → Walked start k r → count ≤ k → r.at ≡ place_of_row count
  place_behind begun h = let none : 0 ≡ count = omega arith in opened ∙ ap place_of_row none
  place_behind (onward {k} {before} {after} {step} w a) h = go (λ l. place_behind w l) (leb count k) refl
    where
      go : (count ≤ k → before.at ≡ place_of_row count) → (b : Bool) → leb count k ≡ b → after.at ≡ place_of_row count
      go stayed true e =
          let handed = handed_at w (stayed (leb-true count k e)) a ∙ walk_done bytes right in
          a.moves ∙ ap (place_after before.at) handed ∙ stayed (leb-true count k e)
      go stayed false e =
          let last : suc k ≡ count = omega (arith, leb-false count k e) in
          place_within (onward w a) (omega arith) ∙ ap place_of_row last

  module _ {k : ℕ} {before after : SnapshotReader} {step : Result (Option RowStep) Refusal} (w : Walked start k before) (a : Advanced before step after) where
    -- each row is given once: the k-th by the call behind k others
    pub advance_row : k < count → step ≡ Ok (Some (record { row = given_at bytes (place_of_row k); at = place_of_row (k + 1) }))
    advance_row h = handed_at w (place_within w (omega arith)) a ∙ walk_row bytes right k h

    -- and then all were given, for ever, and the reader stays behind the last row
    pub advance_done : count ≤ k → (step ≡ Ok None) × (after.at ≡ place_of_row count)
    advance_done h = (handed_at w (place_behind w h) a ∙ walk_done bytes right, place_behind (onward w a) (omega arith))
