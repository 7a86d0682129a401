-- `snapshot_text::scan::Scan::policy_next` meets its contract. Assumes nothing.
use Rattle.std.proofs.Common.{◌≡◌, ap, ◌∙◌, arith, lt-ltb, le-ltb, eq-eqb, ne_eqb}
use Rattle.std.specs.Prelude.{Some}
use Rattle.snapshot_text.specs.declared.line.ShownLine.{ShownLine}
use Rattle.snapshot_text.specs.Scan.{following, numbers, policy_next}
use Rattle.snapshot_text.proofs.scan.Scan.policy_next.Goals as goal

pub returns-then-self-lt-NUMBERS : goal.returns-then-self-lt-NUMBERS
unfolding policy_next
returns-then-self-lt-NUMBERS c = let scan = c.args.self in
    rw (lt-ltb scan.line numbers (omega arith)) (ap Some (c.following.ensures ∙ ap (λ (l : ShownLine). following scan l) c.number_line.ensures))

pub returns-then-self-gt-NUMBERS : goal.returns-then-self-gt-NUMBERS
unfolding policy_next
returns-then-self-gt-NUMBERS c = let scan = c.args.self in
    rw (le-ltb scan.line numbers (omega arith), lt-ltb numbers scan.line (omega arith)) c.row_next.ensures

pub returns-then-policy-eq0 : goal.returns-then-policy-eq0
unfolding policy_next
returns-then-policy-eq0 c = let a = c.args in
    rw (le-ltb a.self.line numbers (omega arith), le-ltb numbers a.self.line (omega arith), eq-eqb a.policy.rows 0 (omega arith))

pub returns : goal.returns
unfolding policy_next
returns c = let a = c.args in let scan = a.self in
    rw (le-ltb scan.line numbers (omega arith), le-ltb numbers scan.line (omega arith), ne_eqb a.policy.rows 0 (λ (e : a.policy.rows ≡ 0). omega arith))
    (ap Some (c.following-2.ensures ∙ ap (λ (l : ShownLine). following scan l) c.head_line.ensures))
