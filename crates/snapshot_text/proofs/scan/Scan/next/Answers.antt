-- `snapshot_text::scan::Scan::next` meets its contract. Assumes nothing.
use Rattle.std.proofs.Common.{sym, ap, ◌∙◌}
use Rattle.std.specs.Prelude.{Result}
use Rattle.refusal.specs.declared.Refusal.{Refusal}
use Rattle.peer_message_policy.specs.declared.policy.PeerMessagePolicy.{PeerMessagePolicy}
use Rattle.snapshot_text.specs.Scan.{next_by, next_of}
use Rattle.snapshot_text.proofs.scan.Scan.next.Goals as goal

pub returns-in-Ok : goal.returns-in-Ok
unfolding next_of
returns-in-Ok c = let a = c.args in
    c.policy_next.ensures ∙ ap (λ (m : Result PeerMessagePolicy Refusal). next_by m a.self a.input.now) (sym c.in-Ok.is)

pub returns-in-Err : goal.returns-in-Err
unfolding next_of
returns-in-Err c = let a = c.args in
    c.refused_next.ensures ∙ ap (λ (m : Result PeerMessagePolicy Refusal). next_by m a.self a.input.now) (sym c.in-Err.is)
