-- `room::prune_expired` meets its contract: what the closure answers is the test (`kind::retain`). Assumes nothing.
use Rattle.std.proofs.Common.{not, rules}
use Rattle.gossip_ban_rows.specs.Entry.{is_expired}
use Rattle.gossip_ban_rows.proofs.room.prune_expired.Goals as goal

pub returns : goal.returns
returns c = let a = c.args in
    c.retain.ensures (λ e. not (is_expired e a.duration_ms a.now_ms)) (λ e b p. search rules)
