-- `peer_rows::row::entry_from` meets its contract: the numbers that were read are the entry's (`entry_places_lem`). Assumes nothing.
use Rattle.std.proofs.Common.{sym}
use Rattle.peer_rows.specs.RowsLaws.{entry_places_lem}
use Rattle.peer_rows.proofs.row.entry_from.Goals as goal

pub returns : goal.returns
returns c = let a = c.args in
    rw (
      c.level_at.ensures,
      c.level_at-2.ensures,
      c.window_at.ensures,
      c.window_at-2.ensures,
      c.ban_at.ensures,
      c.get_u64.ensures,
    ) (sym (entry_places_lem a.table.now a.at))
