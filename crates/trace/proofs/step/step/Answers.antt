-- `trace::step::step` meets its contract. Assumes nothing.
use Rattle.trace.specs.Step.{spoken}
use Rattle.trace.proofs.Answers.{stepped, goes_on_ok}
use Rattle.trace.proofs.step.step.Goals as goal

pub returns : goal.returns
returns c =
    let a = c.args in
    stepped a.policy a.event a.number a.table.now _ c.ask-answered.result c.ask-answered.ensures (rw (c.is_ok.ensures.value, c.spoken_line.ensures, c.speak-words.ensures, goes_on_ok (spoken c.ask-answered.result.answer)))
