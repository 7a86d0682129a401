-- `judge::policy_with` meets its contract: the limit, the load, then the record and its rows. Assumes nothing.
use Rattle.std.proofs.Common.{sym, ap, ◌∙◌, ℕ, arith}
use Rattle.snapshot.specs.Form.{first}
use Rattle.snapshot.specs.Snapshot.{record_in}
use Rattle.snapshot.specs.JudgeLaws.{limit_refused, load_refused, load_told}
use Rattle.snapshot.proofs.judge.policy_with.Goals as goal

pub returns-then-config-gt-MAX_ROWS : goal.returns-then-config-gt-MAX_ROWS
returns-then-config-gt-MAX_ROWS c = let a = c.args in
    sym (limit_refused first a.snapshot.now a.config (omega arith))

pub returns-in_default : goal.returns-in_default
returns-in_default c = let a = c.args in
    sym (load_refused first a.snapshot.now a.config (omega arith) (sym c.read_load.ensures ∙ c.in_default.is))

pub returns : goal.returns
returns c =
    let a = c.args in
    let i = c.in-Some.ingress in
    c.record_in.ensures
    ∙ ap (λ (n : ℕ). record_in first a.snapshot.now (record { config = a.config; ingress = i; rows = n })) c.rows_in-rows.ensures
    ∙ sym (load_told first a.snapshot.now a.config (omega arith) i (sym c.read_load.ensures ∙ c.in-Some.is))
