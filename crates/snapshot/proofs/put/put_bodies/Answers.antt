-- `put::put_bodies` meets its contract. Assumes nothing.
use Rattle.std.proofs.Common.{◌≡◌, sym, ap, ◌∙◌, List, ℕ, ◌*◌, arith, length, take, rules}
use Rattle.lent_bytes.specs.LentBytes.{put}
use Rattle.snapshot_settings.specs.Load.{load_bytes}
use Rattle.snapshot.specs.WriteLaws.{rows_length, put_parts}
use Rattle.snapshot.proofs.put.put_bodies.Goals as goal

pub slice_bounds-put_slice-end : goal.slice_bounds-put_slice-end
slice_bounds-put_slice-end c = let a = c.args in
    sym (rows_length a.policy a.table.now (omega arith))

pub put_slice-requires : goal.put_slice-requires
put_slice-requires c = let a = c.args in
    let size : length (take (121 * a.policy.rows) a.table.now) ≡ 121 * a.policy.rows = rows_length a.policy a.table.now (omega arith) in
    search rules

pub returns : goal.returns
returns c =
    let a = c.args in
    c.put_slice.ensures
    ∙ ap (λ (l : List ℕ). put l 120 (take (121 * a.policy.rows) a.table.now))
    (c.put_load.ensures ∙ ap (λ (l : List ℕ). put l 104 (load_bytes a.policy.ingress)) c.put_settings.ensures)
    ∙ put_parts a.policy a.table.now (omega arith) a.output.now (omega arith)
