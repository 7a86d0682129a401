-- `copy::copy_rows` meets its contract. Assumes nothing.
use Rattle.std.proofs.Common.{◌≡◌, ap, ◌∙◌, List, ℕ, ◌+◌, ◌-◌, ◌*◌, arith, take, drop}
use Rattle.lent_bytes.specs.LentBytes.{put, zeros}
use Rattle.snapshot.specs.Form.{first}
use Rattle.snapshot.specs.ReadLaws.{copied_rows}
use Rattle.snapshot.proofs.copy.copy_rows.Goals as goal

pub returns : goal.returns
returns c =
    let a = c.args in
    let size : (120 + 121 * a.count) - 120 ≡ 121 * a.count = omega arith in
    copied_rows first a.snapshot.now a.table.now _ a.count a.limit (λ k. (c.type_inv.snapshot k).fits) (omega arith) (omega arith)
    (c.zero_rows.ensures
    ∙ ap (λ (l : List ℕ). put l (121 * a.count) (zeros (121 * (a.limit - a.count))))
    (c.put_slice.ensures ∙ ap (λ (n : ℕ). put a.table.now 0 (take n (drop 120 a.snapshot.now))) size))
