-- `contents::put_slot` meets its contract: three writes, each right behind the one before, are one. Assumes nothing.
use Rattle.std.proofs.Common.{ap, ◌∙◌, List, ℕ, ◌+◌, arith}
use Rattle.lent_bytes.specs.LentBytes.{put, bytes}
use Rattle.snapshot_layout.specs.Layout.{kind_size, number_size}
use Rattle.snapshot_layout.proofs.Walk.{put_three}
use Rattle.snapshot_layout.proofs.contents.put_slot.Goals as goal

pub returns : goal.returns
returns c =
    let a = c.args in
    let kind = c.put_u16.ensures in
    let place = c.put_u32.ensures in
    let size = c.put_u32-2.ensures in
    size
    ∙ ap (λ (l : List ℕ). put l (a.at + kind_size + number_size) (bytes number_size a.size))
    (place ∙ ap (λ (l : List ℕ). put l (a.at + kind_size) (bytes number_size a.from)) kind)
    ∙ put_three a.output.now a.at a.from (record { kind = a.kind; size = a.size }) (omega arith)
