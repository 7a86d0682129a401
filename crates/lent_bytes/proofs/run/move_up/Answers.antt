-- `lent_bytes::run::move_up` meets its contract.
use Rattle.std.proofs.Common.{◌∙◌, ◌+◌, arith}
use Rattle.lent_bytes.proofs.Copies.{copied}
use Rattle.lent_bytes.proofs.run.move_up.Goals as goal

pub returns : goal.returns
returns c =
    let a = c.args in
    c.copy_within.ensures.after ∙ copied a.s.now a.at a.count (a.at + a.width) (omega arith)
