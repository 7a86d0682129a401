-- `text_pieces::column::put_columns` meets its contract. The invariant of its loop: the first i numbers are written, each in no
-- more places than a number takes at most. Assumes nothing.
use Rattle.std.proofs.Common.{◌≡◌, ◌+◌, ◌*◌, ◌≤◌, length, take}
use Rattle.text_pieces.specs.Text.{number_room, columns_text}
use Rattle.text_pieces.specs.Private.{Wrote}
use Rattle.text_pieces.proofs.column.put_columns.Given as goal

abbrev pub invariant-loop-n : goal.invariant-loop-n
invariant-loop-n l = (l.n-index ≤ length l.numbers) × ((l.place ≤ l.at + number_room * l.n-index) × (Wrote l.initial.out l.at (columns_text l.width (take l.n-index l.numbers)) l.place l.out × (length l.out ≡ length l.initial.out)))
