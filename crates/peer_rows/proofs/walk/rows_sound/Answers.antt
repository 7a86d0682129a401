-- `walk::rows_sound` meets its contract: the walk says Unsound just where the rows are. Assumes nothing.
use Rattle.std.proofs.Common.{not, sym, ap, ◌∙◌}
use Rattle.truths.specs.TruthLaws.{both}
use Rattle.table.specs.PlaceLaws.{seek_unsound, seek_sought}
use Rattle.peer_rows.proofs.walk.rows_sound.Goals as goal
use Rattle.peer_rows.proofs.walk.rows_sound.Goals.{in-Unsound, in_default}

pub returns : goal.returns
returns c = elim c.match-matches.branch [
  | in-Unsound w ↦ ap not w.matches-is ∙ sym ((seek_unsound _ _ _).0 (sym c.sought.ensures ∙ w.in-Unsound.is))
  | in_default w ↦ let found = seek_sought _ _ _ (sym c.sought.ensures) w.in_default.not-Unsound in
      ap not w.matches-is ∙ sym (both found.rules found.order)
]
