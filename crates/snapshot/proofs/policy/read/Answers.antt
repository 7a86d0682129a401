-- `policy::read` meets its contract. Assumes nothing.
use Rattle.std.specs.Prelude.{◌≡◌, Result, Ok, Err, IsErr, IsErrAnd}
use Rattle.std.proofs.Common.{sym, ap, ◌∙◌, subst}
use Rattle.snapshot.specs.Form.{first}
use Rattle.snapshot.specs.Snapshot.{ReadMeets}
use Rattle.snapshot.specs.ReadLaws.{read_refused}
use Rattle.snapshot.proofs.policy.read.Goals as goal

-- an answer that `?` hands on
handed_on : {A E : Type 0} (r : Result A E) (e : E) → IsErr r × IsErrAnd r (λ y. y ≡ e) → r ≡ Err e
handed_on (Ok x) e h = cc h.0
handed_on (Err y) e h = ap Err h.1

pub restore-requires : goal.restore-requires
restore-requires c = sym c.policy_in.ensures ∙ c.in_ok-policy_in.was

pub returns-in_err-policy_in : goal.returns-in_err-policy_in
returns-in_err-policy_in c = let a = c.args in
    subst (λ r. ReadMeets first a.snapshot.now a.table.now r a.table.now) (sym (handed_on c.from_residual.result _ c.from_residual.ensures))
    (read_refused first a.snapshot.now a.table.now _ (sym c.policy_in.ensures ∙ c.in_err-policy_in.was))
