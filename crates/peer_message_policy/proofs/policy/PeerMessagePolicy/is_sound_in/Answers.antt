-- `PeerMessagePolicy::is_sound_in` meets its contract: the walk says Unsound just where record and memory are. Assumes nothing.
use Rattle.std.proofs.Common.{sym, ◌∙◌}
use Rattle.peer_message_policy.proofs.Judged.{sought_unsound, sought_found}
use Rattle.peer_message_policy.proofs.policy.PeerMessagePolicy.is_sound_in.Goals as goal
use Rattle.peer_message_policy.proofs.policy.PeerMessagePolicy.is_sound_in.Goals.{in-Unsound, in_default}

pub returns : goal.returns
returns c =
    elim c.match-matches.branch [
      | in-Unsound w ↦ rw w.matches-is (sym (sought_unsound _ _ _ (sym c.sought.ensures ∙ w.in-Unsound.is)))
      | in_default w ↦ rw w.matches-is (sym (sought_found _ _ _ c.sought.result (sym c.sought.ensures) w.in_default.not-Unsound).is_sound)
    ]
