-- `trace::scan::Scan::next` meets its contract: by the phase. Assumes nothing.
use Rattle.std.proofs.Common.{ap, refl}
use Rattle.std.specs.Prelude.{Ok}
use Rattle.trace.proofs.Handing.{next_in}
use Rattle.trace.proofs.scan.Scan.next.Goals as goal

pub returns-in-TooLong : goal.returns-in-TooLong
returns-in-TooLong c = let a = c.args in
    next_in a.self a.input.now a.table.now _ a.table.now c.in-TooLong.is (ap Ok c.last.ensures, refl)

pub returns-in-Settings : goal.returns-in-Settings
returns-in-Settings c =
    let a = c.args in
    next_in a.self a.input.now a.table.now c.next_settings.result _ c.in-Settings.is c.next_settings.ensures

pub returns-in-Events : goal.returns-in-Events
returns-in-Events c =
    let a = c.args in
    next_in a.self a.input.now a.table.now c.next_event.result _ c.in-Events.is c.next_event.ensures

pub returns-in-Done : goal.returns-in-Done
returns-in-Done c = let a = c.args in
    next_in a.self a.input.now a.table.now _ a.table.now c.in-Done.is (refl, refl)
