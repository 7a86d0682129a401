-- `gossip_bans::tracker::GossipBanTracker::is_sound_in` meets its contract: by what is found for a key that nobody asked for. Assumes nothing.
use Rattle.std.proofs.Common.{sym, ◌∙◌}
use Rattle.gossip_bans.proofs.Judged.{sought_unsound, sought_known, sought_unknown}
use Rattle.gossip_bans.proofs.tracker.GossipBanTracker.is_sound_in.Goals as goal

pub returns-in-Unsound : goal.returns-in-Unsound
returns-in-Unsound c = let a = c.args in
    sym (sought_unsound a.self a.table.now _ (sym c.sought.ensures ∙ c.in-Unsound.is))

pub returns-in-At : goal.returns-in-At
returns-in-At c = let a = c.args in
    sym (sought_known a.self a.table.now _ (sym c.sought.ensures ∙ c.in-At.is)).is_sound

pub returns-in-Gap : goal.returns-in-Gap
returns-in-Gap c = let a = c.args in
    sym (sought_unknown a.self a.table.now _ (sym c.sought.ensures ∙ c.in-Gap.is)).is_sound
