-- `trace::settle::settle` meets its contract. Assumes nothing.
use Rattle.std.proofs.Common.{sym, ap, ◌∙◌}
use Rattle.trace.proofs.Answers.{settled_bad, settled_good}
use Rattle.trace.specs.Scan.{made_settled}
use Rattle.trace.proofs.settle.settle.Goals as goal

pub returns-in_default : goal.returns-in_default
returns-in_default c = let a = c.args in
    settled_bad a.line.now a.number a.table.now (sym c.parse_settings.ensures ∙ c.in_default.is)

pub returns-in-Ok : goal.returns-in-Ok
returns-in-Ok c =
    let a = c.args in
    settled_good a.line.now a.number a.table.now _ c.in-Some.config (sym c.parse_settings.ensures ∙ c.in-Some.is) c.new.result c.new.ensures (ap made_settled (sym c.in-Ok.is))

pub returns-in-Err : goal.returns-in-Err
returns-in-Err c =
    let a = c.args in
    settled_good a.line.now a.number a.table.now _ c.in-Some.config (sym c.parse_settings.ensures ∙ c.in-Some.is) c.new.result c.new.ensures (ap made_settled (sym c.in-Err.is))
