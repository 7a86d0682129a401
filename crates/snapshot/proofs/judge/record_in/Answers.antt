-- `judge::record_in` meets its contract: the record, then the rows. Assumes nothing.
use Rattle.std.proofs.Common.{sym, ap, ◌∙◌, List, ℕ}
use Rattle.peer_message_policy.specs.Policy.{rows_sound}
use Rattle.snapshot.specs.Form.{first}
use Rattle.snapshot.specs.JudgeLaws.{whole_tail, record_refused, rows_refused, record_taken}
use Rattle.snapshot.proofs.judge.record_in.Goals as goal

pub returns-then-not-is_sound : goal.returns-then-not-is_sound
returns-then-not-is_sound c = let a = c.args in
    sym (record_refused first a.snapshot.now a.policy (sym c.is_sound.ensures ∙ c.if-not-is_sound.true))

pub returns-then-not-rows_sound : goal.returns-then-not-rows_sound
returns-then-not-rows_sound c = let a = c.args in
    sym (rows_refused first a.snapshot.now a.policy (sym c.is_sound.ensures ∙ c.if-not-is_sound.false)
    (ap (λ (w : List ℕ). rows_sound a.policy w) (sym (whole_tail 120 a.snapshot.now)) ∙ sym c.rows_sound.ensures ∙ c.if-not-rows_sound.true))

pub returns : goal.returns
returns c = let a = c.args in
    sym (record_taken first a.snapshot.now a.policy (sym c.is_sound.ensures ∙ c.if-not-is_sound.false)
    (ap (λ (w : List ℕ). rows_sound a.policy w) (sym (whole_tail 120 a.snapshot.now)) ∙ sym c.rows_sound.ensures ∙ c.if-not-rows_sound.false))
