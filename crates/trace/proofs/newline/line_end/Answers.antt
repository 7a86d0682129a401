-- `trace::newline::line_end` meets its contract.
use Rattle.std.proofs.Common.{sym, ◌∙◌, arith}
use Rattle.trace.specs.ScanLaws.{end_further, end_here, end_missing}
use Rattle.trace.proofs.newline.line_end.Goals as goal

pub returns-then-input-i-eq10 : goal.returns-then-input-i-eq10
returns-then-input-i-eq10 c = let t = c.args.input.now in let l = c.loop-i in
    sym (l.invariant ∙ end_here t l.i (omega arith) (omega arith))

pub loop-i-preserved : goal.loop-i-preserved
loop-i-preserved c = let t = c.args.input.now in let l = c.loop-i in
    l.invariant ∙ end_further t l.i (omega arith) (λ q. omega arith)

pub returns : goal.returns
returns c = let t = c.args.input.now in let l = c.loop-i in
    sym (l.invariant ∙ end_missing t l.i (omega arith))
