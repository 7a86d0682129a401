-- `policy::write` meets its contract: soundness, the length, then the bytes. Assumes nothing.
use Rattle.std.proofs.Common.{sym, ◌∙◌, arith, rules}
use Rattle.snapshot.specs.WriteLaws.{sound_rows, write_unsound, write_short, write_done}
use Rattle.snapshot.proofs.policy.write.Goals as goal

pub returns-then-not-is_sound_in : goal.returns-then-not-is_sound_in
returns-then-not-is_sound_in c = let a = c.args in
    write_unsound a.policy a.table.now a.output.now (sym c.is_sound_in.ensures ∙ c.if-not-is_sound_in.true)

pub overflow_mul-size : goal.overflow_mul-size
overflow_mul-size c = let a = c.args in
    omega (arith, (sound_rows a.policy a.table.now (sym c.is_sound_in.ensures ∙ c.if-not-is_sound_in.false)).0)

pub overflow_add-size : goal.overflow_add-size
overflow_add-size c = let a = c.args in
    omega (arith, (sound_rows a.policy a.table.now (sym c.is_sound_in.ensures ∙ c.if-not-is_sound_in.false)).0)

pub returns-then-output-size : goal.returns-then-output-size
returns-then-output-size c = let a = c.args in
    write_short a.policy a.table.now a.output.now (sym c.is_sound_in.ensures ∙ c.if-not-is_sound_in.false) (omega arith)

pub put_snapshot-requires : goal.put_snapshot-requires
put_snapshot-requires c = let a = c.args in
    let few = sound_rows a.policy a.table.now (sym c.is_sound_in.ensures ∙ c.if-not-is_sound_in.false) in
    search rules

pub returns : goal.returns
returns c =
    let a = c.args in
    write_done a.policy a.table.now a.output.now (sym c.is_sound_in.ensures ∙ c.if-not-is_sound_in.false) (omega arith) _ (omega arith) _ c.put_snapshot.ensures
