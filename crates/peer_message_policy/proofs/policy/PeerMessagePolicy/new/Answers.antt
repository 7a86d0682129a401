-- `policy::PeerMessagePolicy::new` meets its contract. Assumes nothing.
use Rattle.std.proofs.Common.{ap, ◌∙◌, ℕ, ◌*◌, arith}
use Rattle.lent_bytes.specs.LentBytes.{put, zeros}
use Rattle.peer_message_policy.proofs.Changes.{new_large, new_short, new_made}
use Rattle.peer_message_policy.proofs.policy.PeerMessagePolicy.new.Goals as goal

pub returns-then-config-gt-MAX_ROWS : goal.returns-then-config-gt-MAX_ROWS
returns-then-config-gt-MAX_ROWS c = let a = c.args in
    new_large a.config a.table.now c.if-config-gt-MAX_ROWS.true

pub returns-then-table-limit : goal.returns-then-table-limit
returns-then-table-limit c = let a = c.args in
    new_short a.config a.table.now c.if-config-gt-MAX_ROWS.false (omega (arith, c.if-table-limit.true, c.limit-limit.ensures))

pub returns : goal.returns
returns c =
    let a = c.args in
    rw c.fresh.ensures (new_made a.config a.table.now c.if-config-gt-MAX_ROWS.false (omega (arith, c.if-table-limit.false, c.limit-limit.ensures)) _ (c.zero_rows.ensures ∙ ap (λ (n : ℕ). put a.table.now 0 (zeros (121 * n))) c.limit-limit.ensures))
