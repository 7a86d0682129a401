-- `PeerMessagePolicy::store_found` meets its contract: a policy that was found is sound. Assumes nothing.
use Rattle.std.proofs.Common.{◌∙◌}
use Rattle.table.specs.PlaceLaws.{place_is_sound}
use Rattle.peer_message_policy.specs.Policy.{rows_of}
use Rattle.peer_message_policy.proofs.policy.PeerMessagePolicy.store_found.Goals as goal

pub returns-in-Unsound : goal.returns-in-Unsound
returns-in-Unsound c =
    let a = c.args in
    absurd (place_is_sound 0 a.peer.bytes (rows_of a.self a.table.now) (c.requires.place ∙ c.in-Unsound.is))
