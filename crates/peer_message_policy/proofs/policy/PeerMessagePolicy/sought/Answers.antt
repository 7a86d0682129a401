-- `PeerMessagePolicy::sought` meets its contract: the record, then the length, then the walk over the rows. Assumes nothing.
use Rattle.std.proofs.Common.{sym, ◌∙◌, arith}
use borrow.Author.Tests.{not-true, not-false}
use Rattle.table_laws.specs.LentLaws.{long_enough_lem, too_short_lem, sought_own, sought_length, sought_rows}
use Rattle.peer_settings.specs.Config.{limit}
use Rattle.peer_rows.specs.Rows.{peer_layout, peer_sound}
use Rattle.peer_message_policy.specs.Policy.{policy_sound}
use Rattle.peer_message_policy.specs.Private.{sought_in}
use Rattle.peer_message_policy.proofs.Judged.{within_limit}
use Rattle.peer_message_policy.proofs.policy.PeerMessagePolicy.sought.Goals as goal

pub returns-then-not-is_sound : goal.returns-then-not-is_sound
unfolding sought_in
returns-then-not-is_sound c = let a = c.args in
    sym (sought_own peer_layout (peer_sound a.self.config) (policy_sound a.self) (limit a.self.config) a.table.now a.self.rows a.peer.bytes (sym c.is_sound.ensures ∙ not-true c.is_sound.result c.if-not-is_sound.true-raw))

pub returns-then-table-limit : goal.returns-then-table-limit
unfolding sought_in
returns-then-table-limit c = let a = c.args in
    sym (sought_length peer_layout (peer_sound a.self.config) (policy_sound a.self) (limit a.self.config) a.table.now a.self.rows a.peer.bytes (sym c.is_sound.ensures ∙ not-false c.is_sound.result c.if-not-is_sound.false-raw) (too_short_lem peer_layout (limit a.self.config) a.table.now (omega arith) (omega (arith, c.if-table-limit.true, c.limit.ensures))))

pub sought-requires : goal.sought-requires
sought-requires c = let a = c.args in
    omega (arith, within_limit a.self (sym c.is_sound.ensures ∙ not-false c.is_sound.result c.if-not-is_sound.false-raw), c.if-table-limit.false, c.limit.ensures)

pub returns : goal.returns
unfolding sought_in
returns c = let a = c.args in
    c.sought.ensures ∙ sym (sought_rows peer_layout (peer_sound a.self.config) (policy_sound a.self) (limit a.self.config) a.table.now a.self.rows a.peer.bytes (sym c.is_sound.ensures ∙ not-false c.is_sound.result c.if-not-is_sound.false-raw) (long_enough_lem peer_layout (limit a.self.config) a.table.now (omega arith) (omega (arith, c.if-table-limit.false, c.limit.ensures))))
