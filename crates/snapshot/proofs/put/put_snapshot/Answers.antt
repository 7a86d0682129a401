-- `put::put_snapshot` meets its contract. Assumes nothing.
use Rattle.std.proofs.Common.{refl, ap, ◌∙◌, List, [], ℕ, arith, rules}
use Rattle.lent_bytes.specs.LentBytes.{put}
use Rattle.snapshot_layout.specs.Layout.{Slot, contents, bodies}
use Rattle.snapshot.specs.Form.{first}
use Rattle.snapshot.specs.Snapshot.{policy_parts}
use Rattle.snapshot.specs.FormLaws.{first_fits}
use Rattle.snapshot.specs.JudgeLaws.{slots_are}
use Rattle.snapshot.specs.WriteLaws.{put_whole}
use Rattle.snapshot.proofs.put.put_snapshot.Goals as goal

pub put_contents-requires : goal.put_contents-requires
put_contents-requires c = rw (c.kinds-kinds.ensures, c.lengths-lengths.ensures) (search rules)

pub returns : goal.returns
returns c =
    let a = c.args in
    c.put_bodies.ensures
    ∙ ap (λ (l : List ℕ). put l 32 (bodies (policy_parts first a.policy a.table.now [])))
    (c.put_contents.ensures
    ∙ ap (λ (q : List Slot). put a.output.now 0 (contents q)) (slots_are first c.kinds-kinds.result c.lengths-lengths.result a.policy.rows a.policy.rows c.kinds-kinds.ensures c.lengths-lengths.ensures refl))
    ∙ put_whole a.policy a.table.now (omega arith) first first_fits [] refl a.output.now
