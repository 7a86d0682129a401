-- `gossip_bans::tracker::GossipBanTracker::sought` meets its contract: the record, then the length, then the rows. Assumes nothing.
use Rattle.std.proofs.Common.{sym, ◌∙◌, arith}
use borrow.Author.Tests.{not-true, not-false}
use Rattle.gossip_bans.specs.TrackerLaws.{rows_within}
use Rattle.gossip_bans.proofs.Judged.{sought_own, sought_length, sought_rows}
use Rattle.gossip_bans.proofs.tracker.GossipBanTracker.sought.Goals as goal

pub returns-then-not-is_sound : goal.returns-then-not-is_sound
returns-then-not-is_sound c = let a = c.args in
    sym (sought_own a.self a.table.now a.peer.bytes (sym c.is_sound.ensures ∙ not-true c.is_sound.result c.if-not-is_sound.true-raw))

pub returns-then-table-limit : goal.returns-then-table-limit
returns-then-table-limit c = let a = c.args in
    sym (sought_length a.self a.table.now a.peer.bytes (sym c.is_sound.ensures ∙ not-false c.is_sound.result c.if-not-is_sound.false-raw) (omega (arith, c.if-table-limit.true, c.limit.ensures)))

pub sought-requires : goal.sought-requires
sought-requires c = let a = c.args in
    omega (arith, rows_within a.self (sym c.is_sound.ensures ∙ not-false c.is_sound.result c.if-not-is_sound.false-raw), c.if-table-limit.false, c.limit.ensures)

pub returns : goal.returns
returns c = let a = c.args in
    c.sought.ensures ∙ sym (sought_rows a.self a.table.now a.peer.bytes (sym c.is_sound.ensures ∙ not-false c.is_sound.result c.if-not-is_sound.false-raw) (omega (arith, c.if-table-limit.false, c.limit.ensures)))
