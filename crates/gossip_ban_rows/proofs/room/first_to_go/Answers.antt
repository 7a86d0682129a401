-- `gossip_ban_rows::room::first_to_go` meets its contract.
use Rattle.std.proofs.Common.{Bool, true, false, cond, ℕ, ◌≡◌, ◌<◌, arith, ltb}
use Rattle.table.specs.Table.{Row}
use Rattle.table_laws.specs.MinimumRowsLaws.{measured_at, search_begins, search_goes_on, search_ends}
use Rattle.gossip_ban_rows.specs.declared.entry.GossipBanEntry.{GossipBanEntry}
use Rattle.gossip_ban_rows.specs.Rows.{ban_layout}
use Rattle.gossip_ban_rows.specs.Room.{rank}
use Rattle.gossip_ban_rows.proofs.room.first_to_go.Goals as goal

-- of two indexes below a number either is
one_of : (b : Bool) (i j n : ℕ) {r : ℕ} → i < n → j < n → r ≡ cond b i j → r < n
one_of true i j n h k e = omega arith
one_of false i j n h k e = omega arith

pub loop-i-init : goal.loop-i-init
loop-i-init c = let a = c.args in
    (omega (arith, c.requires), search_begins ban_layout (λ (r : Row GossipBanEntry). rank a.now_ms r.entry) a.table.now a.count (omega (arith, c.requires)))

pub loop-i-preserved : goal.loop-i-preserved
loop-i-preserved c = let a = c.args in
    let turn = c.loop-i in
    let inside : turn.i < a.count = omega arith in
    let at : ℕ → ℕ = measured_at ban_layout (λ (r : Row GossipBanEntry). rank a.now_ms r.entry) a.table.now a.count in
    (one_of (ltb (at turn.i) (at turn.found)) turn.i turn.found a.count inside turn.invariant.0 c.earlier-found.ensures, search_goes_on ban_layout (λ (r : Row GossipBanEntry). rank a.now_ms r.entry) a.table.now a.count turn.i turn.found c.earlier-found.result inside turn.invariant.1 c.earlier-found.ensures)

pub returns : goal.returns
returns c = let a = c.args in
    search_ends ban_layout (λ (r : Row GossipBanEntry). rank a.now_ms r.entry) a.table.now a.count c.loop-i.i c.loop-i.found (omega arith) c.loop-i.invariant.1
