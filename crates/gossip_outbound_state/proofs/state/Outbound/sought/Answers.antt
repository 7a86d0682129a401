-- `gossip_outbound_state::state::Outbound::sought` meets its contract: each test is one of the definition's. Assumes nothing.
use Rattle.std.proofs.Common.{◌≡◌, sym, ◌∙◌, true, ◌*◌, arith, length}
use borrow.Author.Tests.{not-true, not-false, le-leb, lt-leb}
use Rattle.table_laws.specs.LentLaws.{sought_own, sought_length, sought_rows}
use Rattle.gossip_outbound_rows.specs.Rows.{outbound_layout, outbound_sound}
use Rattle.gossip_outbound_state.specs.State.{own_sound}
use Rattle.gossip_outbound_state.specs.CarryLaws.{rows_within}
use Rattle.gossip_outbound_state.proofs.state.Outbound.sought.Goals as goal

pub returns-then-not-is_sound : goal.returns-then-not-is_sound
returns-then-not-is_sound c = let a = c.args in
    sym (sought_own outbound_layout (outbound_sound a.self.peer_outbound_config) (own_sound a.self) 1024 a.table.now a.self.rows a.peer.bytes (sym c.is_sound.ensures ∙ not-true c.is_sound.result c.if-not-is_sound.true-raw))

pub returns-then-table-lt-TABLE_BYTES : goal.returns-then-table-lt-TABLE_BYTES
returns-then-table-lt-TABLE_BYTES c = let a = c.args in
    sym (sought_length outbound_layout (outbound_sound a.self.peer_outbound_config) (own_sound a.self) 1024 a.table.now a.self.rows a.peer.bytes (sym c.is_sound.ensures ∙ not-false c.is_sound.result c.if-not-is_sound.false-raw) (lt-leb (65 * 1024) (length a.table.now) c.if-table-lt-TABLE_BYTES.true))

pub sought-requires : goal.sought-requires
sought-requires c = let a = c.args in
    let own : own_sound a.self ≡ true = sym c.is_sound.ensures ∙ not-false c.is_sound.result c.if-not-is_sound.false-raw in
    omega (arith, rows_within a.self own, c.if-table-lt-TABLE_BYTES.false)

pub returns : goal.returns
returns c = let a = c.args in
    c.sought.ensures ∙ sym (sought_rows outbound_layout (outbound_sound a.self.peer_outbound_config) (own_sound a.self) 1024 a.table.now a.self.rows a.peer.bytes (sym c.is_sound.ensures ∙ not-false c.is_sound.result c.if-not-is_sound.false-raw) (le-leb (65 * 1024) (length a.table.now) c.if-table-lt-TABLE_BYTES.false))
