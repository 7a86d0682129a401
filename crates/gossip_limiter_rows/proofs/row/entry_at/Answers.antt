-- `row::entry_at` meets its contract: its numbers by their places (`entry_places_lem`). Assumes nothing.
use Rattle.std.proofs.Common.{sym}
use Rattle.gossip_limiter_rows.specs.RowsLaws.{entry_places_lem}
use Rattle.gossip_limiter_rows.proofs.row.entry_at.Goals as goal

pub returns : goal.returns
returns c = rw (c.get_u64.ensures, c.get_u64-2.ensures, c.get_u64-3.ensures) (sym (entry_places_lem c.args.table.now c.args.at))
