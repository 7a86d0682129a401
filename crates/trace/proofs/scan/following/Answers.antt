-- `trace::scan::following` meets its contract: the largest number stays. Assumes nothing.
use Rattle.std.proofs.Common.{◌≡◌, ◌∙◌, ℕ, ◌+◌, ◌≤◌, Bool, true, false, cond, eqb, refl, arith}
use Rattle.std.specs.Prelude.{min}
use borrow.Author.Tests.{eqb-true}
use Rattle.std.proofs.lemmas.Bool.{eqb-false}
use Rattle.trace_lines.specs.Lines.{largest64}
use Rattle.trace.specs.Scan.{following}
use Rattle.trace.proofs.scan.following.Goals as goal

saturated : (n : ℕ) → n ≤ largest64 → min (n + 1) largest64 ≡ following n
unfolding following
saturated n h = go (eqb n largest64) refl
  where
    go : (b : Bool) → eqb n largest64 ≡ b → min (n + 1) largest64 ≡ cond b n (n + 1)
    go true e = let q : n ≡ largest64 = eqb-true n largest64 e in omega arith
    go false e = omega (arith, eqb-false n largest64 e)

pub returns : goal.returns
returns c = c.saturating_add.ensures ∙ saturated c.args.number (omega arith)
