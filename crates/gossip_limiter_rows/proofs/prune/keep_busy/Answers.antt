-- `prune::keep_busy` meets its contract: by the test of the refilled entry (`step_full`, `step_busy`). Assumes nothing.
use Rattle.gossip_limiter_rows.specs.RowsLaws.{sound_level}
use Rattle.gossip_limiter_rows.proofs.Pruning.{step_full, step_busy}
use Rattle.gossip_limiter_rows.proofs.prune.keep_busy.Goals as goal

pub refilled-e-requires : goal.refilled-e-requires
refilled-e-requires c = rw c.entry_at-found.ensures (sound_level c.args.config _ c.requires.from_value)

pub returns-then-is_full : goal.returns-then-is_full
returns-then-is_full c = let a = c.args in
    step_full a.config a.now_ms a.table.now a.from a.to c.entry_at-found.result c.refilled-e.result c.is_full.result c.entry_at-found.ensures c.refilled-e.ensures c.is_full.ensures c.if-is_full.true

pub returns : goal.returns
returns c =
    let a = c.args in
    step_busy a.config a.now_ms a.table.now a.from a.to c.entry_at-found.result c.refilled-e.result c.is_full.result c.entry_at-found.ensures c.refilled-e.ensures c.is_full.ensures c.if-is_full.false _ c.move_with.ensures
