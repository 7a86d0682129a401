-- `prune::gather_busy` meets its contract: of the rows tried, refilled, those that are not full stand at the front. Assumes nothing.
use Rattle.std.proofs.Common.{◌≡◌, length}
use Rattle.table.specs.Memory.{rows}
use Rattle.table_laws.specs.Raw.{map_entries}
use Rattle.table_laws.specs.KeepLaws.{KeptSo}
use Rattle.gossip_limiter_rows.specs.Entry.{refilled}
use Rattle.gossip_limiter_rows.specs.Rows.{limiter_layout}
use Rattle.gossip_limiter_rows.specs.Prune.{not_full}
use Rattle.gossip_limiter_rows.proofs.prune.gather_busy.Given as goal

abbrev pub invariant-loop-i : goal.invariant-loop-i
invariant-loop-i l = KeptSo limiter_layout (not_full l.config) l.initial.table (map_entries (refilled l.config l.now_ms) (rows limiter_layout l.initial.table l.count)) l.i l.table l.kept × (length l.table ≡ length l.initial.table)
