-- `trace::scan::Scan::next_event` meets its contract. Assumes nothing.
use Rattle.std.proofs.Common.{sym, ◌∙◌, arith}
use Rattle.std.proofs.Common.{rules}
use Rattle.trace.specs.ScanLaws.{found}
use Rattle.trace.proofs.Handing.{events_ended, events_unended, events_moved}
use Rattle.trace.proofs.scan.Scan.next_event.Goals as goal

pub returns-then-input-self : goal.returns-then-input-self
returns-then-input-self c = let a = c.args in
    events_ended a.self a.input.now a.table.now (omega arith)

pub slice_bounds-parse_event-count : goal.slice_bounds-parse_event-count
slice_bounds-parse_event-count c = let a = c.args in let f = found a.input.now a.self.at c.in-Some.end (sym c.line_end.ensures ∙ c.in-Some.is) in
    omega arith

pub slice_bounds-parse_event-start : goal.slice_bounds-parse_event-start
slice_bounds-parse_event-start c = let a = c.args in let f = found a.input.now a.self.at c.in-Some.end (sym c.line_end.ensures ∙ c.in-Some.is) in
    search rules

pub slice_bounds-parse_event-end : goal.slice_bounds-parse_event-end
slice_bounds-parse_event-end c = let a = c.args in let f = found a.input.now a.self.at c.in-Some.end (sym c.line_end.ensures ∙ c.in-Some.is) in
    search rules

pub overflow_add-end : goal.overflow_add-end
overflow_add-end c =
    let a = c.args in let f = found a.input.now a.self.at c.in-Some.end (sym c.line_end.ensures ∙ c.in-Some.is) in
    omega (arith, c.well_formed)

pub returns-in_default : goal.returns-in_default
returns-in_default c =
    let a = c.args in
    events_unended a.self a.input.now a.table.now (omega (arith, c.if-input-self.false)) (sym c.line_end.ensures ∙ c.in_default.is) c.last.ensures

pub returns : goal.returns
returns c =
    let a = c.args in
    events_moved a.self a.input.now a.table.now (omega (arith, c.if-input-self.false)) c.in-Some.end (sym c.line_end.ensures ∙ c.in-Some.is) c.parse_event-event.result c.parse_event-event.ensures c.step-stepped.result _ c.step-stepped.ensures c.moved.ensures
