-- `snapshot_text::line::number_line` meets its contract. Each arm writes its name and its number. Assumes nothing.
use Rattle.std.proofs.Common.{◌≡◌, ap, ◌∙◌, ℕ, arith}
use Rattle.snapshot_text.specs.Shown.{fields_of, field_line, line_of}
use Rattle.snapshot_text.proofs.line.number_line.Goals as goal

pub returns-in-0 : goal.returns-in-0
unfolding fields_of
returns-in-0 c = let a = c.args in
    let e : 0 ≡ a.index = omega arith in
    c.field_line.ensures ∙ ap (λ (i : ℕ). line_of (field_line a.policy i)) e

pub returns-in-1 : goal.returns-in-1
unfolding fields_of
returns-in-1 c = let a = c.args in
    let e : 1 ≡ a.index = omega arith in
    c.field_line-in-1.ensures ∙ ap (λ (i : ℕ). line_of (field_line a.policy i)) e

pub returns-in-2 : goal.returns-in-2
unfolding fields_of
returns-in-2 c = let a = c.args in
    let e : 2 ≡ a.index = omega arith in
    c.field_line-in-2.ensures ∙ ap (λ (i : ℕ). line_of (field_line a.policy i)) e

pub returns-in-3 : goal.returns-in-3
unfolding fields_of
returns-in-3 c = let a = c.args in
    let e : 3 ≡ a.index = omega arith in
    c.field_line-in-3.ensures ∙ ap (λ (i : ℕ). line_of (field_line a.policy i)) e

pub returns-in-4 : goal.returns-in-4
unfolding fields_of
returns-in-4 c = let a = c.args in
    let e : 4 ≡ a.index = omega arith in
    c.field_line-in-4.ensures ∙ ap (λ (i : ℕ). line_of (field_line a.policy i)) e

pub returns-in-5 : goal.returns-in-5
unfolding fields_of
returns-in-5 c = let a = c.args in
    let e : 5 ≡ a.index = omega arith in
    c.field_line-in-5.ensures ∙ ap (λ (i : ℕ). line_of (field_line a.policy i)) e

pub returns-in-6 : goal.returns-in-6
unfolding fields_of
returns-in-6 c = let a = c.args in
    let e : 6 ≡ a.index = omega arith in
    c.field_line-in-6.ensures ∙ ap (λ (i : ℕ). line_of (field_line a.policy i)) e

pub returns-in-7 : goal.returns-in-7
unfolding fields_of
returns-in-7 c = let a = c.args in
    let e : 7 ≡ a.index = omega arith in
    c.field_line-in-7.ensures ∙ ap (λ (i : ℕ). line_of (field_line a.policy i)) e

pub returns-in-8 : goal.returns-in-8
unfolding fields_of
returns-in-8 c = let a = c.args in
    let e : 8 ≡ a.index = omega arith in
    c.field_line-in-8.ensures ∙ ap (λ (i : ℕ). line_of (field_line a.policy i)) e

pub returns-in-9 : goal.returns-in-9
unfolding fields_of
returns-in-9 c = let a = c.args in
    let e : 9 ≡ a.index = omega arith in
    c.field_line-in-9.ensures ∙ ap (λ (i : ℕ). line_of (field_line a.policy i)) e

pub returns-in-10 : goal.returns-in-10
unfolding fields_of
returns-in-10 c = let a = c.args in
    let e : 10 ≡ a.index = omega arith in
    c.field_line-in-10.ensures ∙ ap (λ (i : ℕ). line_of (field_line a.policy i)) e

pub returns-in_default : goal.returns-in_default
unfolding fields_of
returns-in_default c = let a = c.args in
    let e : 11 ≡ a.index = omega arith in
    c.field_line-in_default.ensures ∙ ap (λ (n : ℕ). line_of (field_line a.policy n)) e
