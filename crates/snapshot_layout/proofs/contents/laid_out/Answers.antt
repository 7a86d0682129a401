-- `contents::laid_out` meets its contract. Assumes nothing.
use Rattle.std.proofs.Common.{sym, ap, ◌∙◌, ℕ, arith}
use Rattle.snapshot_layout.specs.Layout.{count_size, contents_size, slots, says_from}
use Rattle.snapshot_layout.specs.SlotLaws.{length_slots}
use Rattle.snapshot_layout.specs.LayoutLaws.{too_short_lem, other_count, right_count}
use Rattle.snapshot_layout.proofs.contents.laid_out.Goals as goal

pub returns-then-snapshot-lt-COUNT_SIZE : goal.returns-then-snapshot-lt-COUNT_SIZE
returns-then-snapshot-lt-COUNT_SIZE c =
    let a = c.args in
    let ks = a.kinds.now in
    let ns = a.lengths.now in
    let count = length_slots ks ns (omega arith) in
    sym (too_short_lem a.snapshot.now (slots ks ns) (omega arith))

pub returns-then-get_u16-kinds : goal.returns-then-get_u16-kinds
returns-then-get_u16-kinds c =
    let a = c.args in
    let ks = a.kinds.now in
    let ns = a.lengths.now in
    let count = length_slots ks ns (omega arith) in
    sym (other_count a.snapshot.now (slots ks ns) (λ e. omega arith))

pub returns-then-snapshot-contents_size : goal.returns-then-snapshot-contents_size
returns-then-snapshot-contents_size c =
    let a = c.args in
    let ks = a.kinds.now in
    let ns = a.lengths.now in
    let count = length_slots ks ns (omega arith) in
    sym (too_short_lem a.snapshot.now (slots ks ns) (omega arith))

pub returns : goal.returns
returns c =
    let a = c.args in
    let ks = a.kinds.now in
    let ns = a.lengths.now in
    let count = length_slots ks ns (omega arith) in
    c.slots_say.ensures
    ∙ sym
    (right_count a.snapshot.now (slots ks ns) (omega arith)
    ∙ ap (λ (n : ℕ). says_from a.snapshot.now count_size (contents_size n) (slots ks ns)) count)
