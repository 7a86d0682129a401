-- `gossip_bans::tracker::GossipBanTracker::standing_known` meets its contract: bans are off, or the entry is expired and goes, or it says. Assumes nothing.
use Rattle.std.proofs.Common.{sym, ◌∙◌, arith}
use Rattle.gossip_bans.proofs.Judged.{known_fits, known_look}
use Rattle.gossip_bans.proofs.Branches.{standing_off, standing_expired, standing_live}
use Rattle.gossip_bans.proofs.tracker.GossipBanTracker.standing_known.Goals as goal

pub returns-then-is_disabled : goal.returns-then-is_disabled
returns-then-is_disabled c = let a = c.args in
    standing_off a.self a.table.now a.peer a.now_ms c.requires.is_sound (sym c.is_disabled.ensures ∙ c.if-is_disabled.true)

pub overflow_mul-index : goal.overflow_mul-index
overflow_mul-index c = let a = c.args in
    omega (arith, known_fits a.self a.table.now a.peer.bytes a.index c.requires)

pub entry_at-e-requires : goal.entry_at-e-requires
entry_at-e-requires c = let a = c.args in
    known_fits a.self a.table.now a.peer.bytes a.index c.requires

pub returns-then-is_expired : goal.returns-then-is_expired
returns-then-is_expired c =
    let a = c.args in
    let e = c.entry_at-e.result in
    standing_expired a.self a.table.now a.peer a.now_ms c.requires.is_sound (sym c.is_disabled.ensures ∙ c.if-is_disabled.false) e (known_look a.self a.table.now a.peer.bytes a.index c.requires e c.entry_at-e.ensures)
    (sym c.is_expired.ensures ∙ c.if-is_expired.true) c.drop_known.result _ c.drop_known.ensures

pub returns : goal.returns
returns c =
    let a = c.args in
    let e = c.entry_at-e.result in
    rw c.is_currently_banned.ensures
    (standing_live a.self a.table.now a.peer a.now_ms c.requires.is_sound (sym c.is_disabled.ensures ∙ c.if-is_disabled.false) e (known_look a.self a.table.now a.peer.bytes a.index c.requires e c.entry_at-e.ensures)
    (λ i. (c.slice_known-1.given i).fits) (sym c.is_expired.ensures ∙ c.if-is_expired.false))
