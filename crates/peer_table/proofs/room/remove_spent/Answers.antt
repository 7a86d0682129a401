-- `peer_table::room::remove_spent` meets its contract: what the closure answers is the test (`kind::retain`). Assumes nothing.
use Rattle.std.proofs.Common.{not, rules}
use Rattle.peer_state.specs.Entry.{entry_is_spent}
use Rattle.peer_table.proofs.room.remove_spent.Goals as goal

pub returns : goal.returns
returns c = let a = c.args in
    c.retain.ensures (λ e. not (entry_is_spent e a.now_ms)) (λ e b p. search rules)
