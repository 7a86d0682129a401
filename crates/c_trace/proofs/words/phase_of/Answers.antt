-- `words::phase_of` meets its contract: number by number. Assumes nothing.
use Rattle.std.proofs.Common.{◌≡◌, ap, arith}
use borrow.Author.Tests.{ne_eqb}
use Rattle.c_trace.specs.Words.{phase_of}
use Rattle.c_trace.proofs.words.phase_of.Goals as goal

pub returns-in-0 : goal.returns-in-0
returns-in-0 c = let e : 0 ≡ c.args.n = omega arith in ap phase_of e

pub returns-in-1 : goal.returns-in-1
returns-in-1 c = let e : 1 ≡ c.args.n = omega arith in ap phase_of e

pub returns-in-2 : goal.returns-in-2
returns-in-2 c = let e : 2 ≡ c.args.n = omega arith in ap phase_of e

pub returns-in_default : goal.returns-in_default
returns-in_default c =
    let n = c.args.n in
    rw (ne_eqb n 0 (λ q. omega arith), ne_eqb n 1 (λ q. omega arith), ne_eqb n 2 (λ q. omega arith))
