-- `snapshot_text::scan::Scan::refused_next` meets its contract. Assumes nothing.
use Rattle.std.proofs.Common.{◌≡◌, ap, ◌∙◌, arith, lt-ltb, le-ltb}
use Rattle.std.specs.Prelude.{Some}
use Rattle.snapshot_text.specs.declared.line.ShownLine.{ShownLine}
use Rattle.snapshot_text.specs.Scan.{following, refused_next}
use Rattle.snapshot_text.proofs.scan.Scan.refused_next.Goals as goal

pub returns-then-self-gt0 : goal.returns-then-self-gt0
unfolding refused_next
returns-then-self-gt0 c = rw (lt-ltb 0 c.args.self.line (omega arith))

pub returns : goal.returns
unfolding refused_next
returns c = let scan = c.args.self in
    rw (le-ltb 0 scan.line (omega arith)) (ap Some (c.following.ensures ∙ ap (λ (l : ShownLine). following scan l) c.refusal_line.ensures))
