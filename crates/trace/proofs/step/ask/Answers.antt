-- `trace::step::ask` meets its contract: by the kind of the event. Assumes nothing.
use Rattle.trace.proofs.Answers.{asked_admit, asked_invalid, asked_ban, asked_disconnected, asked_release, asked_nothing}
use Rattle.trace.proofs.step.ask.Goals as goal

pub returns-in-Admit : goal.returns-in-Admit
returns-in-Admit c =
    let a = c.args in
    asked_admit a.policy a.event a.number a.table.now _ c.in-Admit.is c.admit.result c.admit.ensures c.admission_answered.ensures

pub returns-in-Invalid : goal.returns-in-Invalid
returns-in-Invalid c =
    let a = c.args in
    asked_invalid a.policy a.event a.number a.table.now _ c.in-Invalid.is c.record_invalid.result c.record_invalid.ensures c.invalid_answered.ensures

pub returns-in-BanQuery : goal.returns-in-BanQuery
returns-in-BanQuery c =
    let a = c.args in
    asked_ban a.policy a.event a.number a.table.now _ c.in-BanQuery.is c.is_banned.result c.is_banned.ensures c.standing_answered.ensures

pub returns-in-Disconnected : goal.returns-in-Disconnected
returns-in-Disconnected c =
    let a = c.args in
    asked_disconnected a.policy a.event a.number a.table.now _ c.in-Disconnected.is c.on_disconnected.result c.on_disconnected.ensures c.changed_answered.ensures

pub returns-in-Release : goal.returns-in-Release
returns-in-Release c = let a = c.args in
    asked_release a.policy a.event a.number a.table.now c.in-Release.is c.release_ingress.result c.release_ingress.ensures c.changed_answered-in-Release.ensures

pub returns-in-Bad : goal.returns-in-Bad
returns-in-Bad c = let a = c.args in
    asked_nothing a.policy a.event a.number a.table.now c.in-Bad.is
