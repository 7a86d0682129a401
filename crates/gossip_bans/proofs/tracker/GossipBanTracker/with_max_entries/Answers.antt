-- `gossip_bans::tracker::GossipBanTracker::with_max_entries` meets its contract: by its two tests. Assumes nothing.
use Rattle.std.proofs.Common.{ap, ◌∙◌, ℕ, ◌*◌, arith}
use Rattle.lent_bytes.specs.LentBytes.{put, zeros}
use Rattle.gossip_bans.proofs.Branches.{made_large, made_short, made_fresh}
use Rattle.gossip_bans.proofs.tracker.GossipBanTracker.with_max_entries.Goals as goal

pub returns-then-max_entries-gt-MAX_TRACKED_PEERS : goal.returns-then-max_entries-gt-MAX_TRACKED_PEERS
returns-then-max_entries-gt-MAX_TRACKED_PEERS c = let a = c.args in
    made_large a.config a.max_entries a.table.now c.if-max_entries-gt-MAX_TRACKED_PEERS.true

pub returns-then-table-limit : goal.returns-then-table-limit
returns-then-table-limit c = let a = c.args in
    made_short a.config a.max_entries a.table.now c.if-max_entries-gt-MAX_TRACKED_PEERS.false (omega (arith, c.if-table-limit.true, c.max-limit.ensures))

pub returns : goal.returns
returns c =
    let a = c.args in
    made_fresh a.config a.max_entries a.table.now c.if-max_entries-gt-MAX_TRACKED_PEERS.false (omega (arith, c.if-table-limit.false, c.max-limit.ensures)) _ (c.zero_rows.ensures ∙ ap (λ (n : ℕ). put a.table.now 0 (zeros (65 * n))) c.max-limit.ensures)
