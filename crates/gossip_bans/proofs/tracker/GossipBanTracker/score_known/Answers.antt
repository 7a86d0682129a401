-- `gossip_bans::tracker::GossipBanTracker::score_known` meets its contract: the entry is expired and goes, or it says. Assumes nothing.
use Rattle.std.proofs.Common.{sym, ◌∙◌, arith}
use Rattle.gossip_bans.proofs.Judged.{known_fits, known_look, score_fits}
use Rattle.gossip_bans.proofs.Branches.{scored_expired, scored_live}
use Rattle.gossip_bans.proofs.tracker.GossipBanTracker.score_known.Goals as goal

pub overflow_mul-index : goal.overflow_mul-index
overflow_mul-index c = let a = c.args in
    omega (arith, known_fits a.self a.table.now a.peer.bytes a.index c.requires)

pub entry_at-e-requires : goal.entry_at-e-requires
entry_at-e-requires c = let a = c.args in
    known_fits a.self a.table.now a.peer.bytes a.index c.requires

pub returns-then-is_expired : goal.returns-then-is_expired
returns-then-is_expired c =
    let a = c.args in
    let e = c.entry_at-e.result in
    scored_expired a.self a.table.now a.peer a.now_ms c.requires.is_sound e (known_look a.self a.table.now a.peer.bytes a.index c.requires e c.entry_at-e.ensures)
    (sym c.is_expired.ensures ∙ c.if-is_expired.true) c.drop_known.result _ c.drop_known.ensures

pub overflow_cast-result : goal.overflow_cast-result
overflow_cast-result c = let a = c.args in
    omega (arith, score_fits a.self a.table.now a.peer.bytes a.index c.requires c.entry_at-e.result c.entry_at-e.ensures)

pub returns : goal.returns
returns c = let a = c.args in
    let e = c.entry_at-e.result in
    scored_live a.self a.table.now a.peer a.now_ms c.requires.is_sound e (known_look a.self a.table.now a.peer.bytes a.index c.requires e c.entry_at-e.ensures)
    (λ i. (c.slice_known-1.given i).fits) (sym c.is_expired.ensures ∙ c.if-is_expired.false)
