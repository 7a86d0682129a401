-- `trace::scan::Scan::next_settings` meets its contract. Assumes nothing.
use Rattle.std.proofs.Common.{sym, ap, ◌∙◌, arith}
use Rattle.trace.specs.Scan.{last}
use Rattle.std.proofs.Common.{rules}
use Rattle.trace.specs.ScanLaws.{found}
use Rattle.trace.proofs.Handing.{settings_unended, settings_stopped, settings_good}
use Rattle.trace.proofs.scan.Scan.next_settings.Goals as goal

pub slice_bounds-settle-count : goal.slice_bounds-settle-count
slice_bounds-settle-count c = let a = c.args in let f = found a.input.now a.self.at c.in-Some.end (sym c.line_end.ensures ∙ c.in-Some.is) in
    omega arith

pub slice_bounds-settle-start : goal.slice_bounds-settle-start
slice_bounds-settle-start c = let a = c.args in let f = found a.input.now a.self.at c.in-Some.end (sym c.line_end.ensures ∙ c.in-Some.is) in
    search rules

pub slice_bounds-settle-end : goal.slice_bounds-settle-end
slice_bounds-settle-end c = let a = c.args in let f = found a.input.now a.self.at c.in-Some.end (sym c.line_end.ensures ∙ c.in-Some.is) in
    search rules

pub overflow_add-behind : goal.overflow_add-behind
overflow_add-behind c =
    let a = c.args in let f = found a.input.now a.self.at c.in-Some.end (sym c.line_end.ensures ∙ c.in-Some.is) in
    omega (arith, c.well_formed)

pub returns-in_default : goal.returns-in_default
returns-in_default c = let a = c.args in
    settings_unended a.self a.input.now a.table.now (sym c.line_end.ensures ∙ c.in_default.is) c.last.ensures

pub returns-in-Err : goal.returns-in-Err
returns-in-Err c =
    let a = c.args in
    settings_stopped a.self a.input.now a.table.now c.in-Some.end (sym c.line_end.ensures ∙ c.in-Some.is) c.settle.result _ c.settle.ensures c.in-Err.stop c.in-Err.is (c.last-in-Err.ensures ∙ ap (last a.self) c.from.ensures)

pub returns-in-Ok : goal.returns-in-Ok
returns-in-Ok c =
    let a = c.args in
    settings_good a.self a.input.now a.table.now c.in-Some.end (sym c.line_end.ensures ∙ c.in-Some.is) c.settle.result _ c.settle.ensures c.in-Ok.policy c.in-Ok.is c.next_event.result _ (rw c.following.ensures at c.next_event.ensures)
