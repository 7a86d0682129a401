-- `PeerMessagePolicy::expire_known` meets its contract: counts that stay leave the entry (`left_unexpired`), else it is written over (`left_over`). Assumes nothing.
use Rattle.std.proofs.Common.{sym, ◌∙◌}
use Rattle.peer_state.specs.Entry.{entry_expire_windows}
use Rattle.peer_message_policy.proofs.Judged.{known_inside, rows_fit}
use Rattle.peer_message_policy.proofs.Changes.{left_over, left_unexpired}
use Rattle.peer_message_policy.proofs.policy.PeerMessagePolicy.expire_known.Goals as goal

pub returns-then-same_counts : goal.returns-then-same_counts
returns-then-same_counts c = let a = c.args in
    left_unexpired a.self a.table.now a.peer.bytes a.index c.requires.known (λ i. (c.slice_known-1.given i).fits) a.entry c.requires.value a.now_ms a.self.config.ban_duration_ms c.left-expired.result c.left-expired.ensures (sym c.same_counts.ensures ∙ c.if-same_counts.true)

pub overwrite_at-requires : goal.overwrite_at-requires
overwrite_at-requires c = let a = c.args in
    record { index_lt_count = known_inside a.self a.table.now a.peer.bytes a.index c.requires.known; count_in_bounds = rows_fit a.self a.table.now c.requires.known.is_sound }

pub returns : goal.returns
returns c =
    let a = c.args in
    left_over a.self a.table.now a.peer.bytes a.index c.requires.known a.self.ingress _ c.left-expired.result (entry_expire_windows a.entry a.now_ms a.self.config.ban_duration_ms) c.left-expired.ensures c.overwrite_at.ensures
