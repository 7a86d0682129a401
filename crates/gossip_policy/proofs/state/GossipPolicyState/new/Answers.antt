-- `gossip_policy::state::GossipPolicyState::new` meets its contract: by the lengths of both tables. Assumes nothing.
use Rattle.gossip_policy.proofs.Whole.{short_bans, short_outbound, both_long_lem}
use Rattle.gossip_policy.proofs.state.GossipPolicyState.new.Goals as goal

pub returns-then-ban_table-lt-TABLE_BYTES : goal.returns-then-ban_table-lt-TABLE_BYTES
returns-then-ban_table-lt-TABLE_BYTES c = let a = c.args in
    rw c.fresh-state.ensures (short_bans a.config a.ban_table.now a.outbound_table.now c.if-ban_table-lt-TABLE_BYTES.true)

pub returns-then-outbound_table-lt-TABLE_BYTES : goal.returns-then-outbound_table-lt-TABLE_BYTES
returns-then-outbound_table-lt-TABLE_BYTES c = let a = c.args in
    rw c.fresh-state.ensures (short_outbound a.config a.ban_table.now a.outbound_table.now c.if-ban_table-lt-TABLE_BYTES.false c.if-outbound_table-lt-TABLE_BYTES.true)

pub returns : goal.returns
returns c =
    let a = c.args in
    rw c.fresh-state.ensures
    (both_long_lem a.config a.ban_table.now a.outbound_table.now c.if-ban_table-lt-TABLE_BYTES.false c.if-outbound_table-lt-TABLE_BYTES.false _ _ c.zero_rows.ensures c.zero_rows-2.ensures)
